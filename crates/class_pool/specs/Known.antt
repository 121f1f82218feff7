-- What is asked of the texts that entries of the pool, members and instructions name (JVM Specification SE 8, 4.2, 4.3, 4.7.3).
use Rattle.std.specs.Prelude.{ℕ, zero, suc, ◌%◌, List, map, Option, Some, None, slice_get}
use Rattle.jo_text.specs.Tests.{is_class_or_array, is_member_name, is_field_desc, is_method_desc}
use Rattle.class_pool.specs.declared.entries.PoolEntry.{PoolEntry}
use Rattle.class_pool.specs.declared.known.TextFacts.{TextFacts}
use Rattle.class_pool.specs.Pool.{utf8_of, is_text_that}
use Rattle.class_pool.specs.Code.{is_wide_desc, argument_words}

-- the count of argument words behind the index of an invokeinterface, in one byte
abbrev pub words_in : Option (List ℕ) → ℕ
words_in None = 0
words_in (Some desc) = argument_words desc % 256

-- Where there is no text no test passes, and no word is counted.
abbrev pub facts_of : Option (List ℕ) → TextFacts
facts_of text = record {
  is_class_or_array = is_text_that is_class_or_array text;
  is_member_name = is_text_that is_member_name text;
  is_field_desc = is_text_that is_field_desc text;
  is_method_desc = is_text_that is_method_desc text;
  is_wide = is_wide_desc text;
  argument_words = words_in text;
}

-- the facts of an entry's own text
abbrev pub entry_facts : PoolEntry → TextFacts
entry_facts entry = facts_of (utf8_of (Some entry))

-- the facts of all entries
abbrev pub all_facts : List PoolEntry → List TextFacts
all_facts entries = map entry_facts entries

-- what stands at a pool index, which is counted from 1
abbrev pub at_index : List TextFacts → ℕ → Option TextFacts
at_index facts zero = None
at_index facts (suc k) = slice_get facts k

-- The constant pool (JVM Specification SE 8, 4.4), read in order: first all entries, then what they refer to.
use Rattle.std.specs.Prelude.{ℕ, zero, suc, ◌+◌, ◌-◌, Bool, true, false, ◌&&◌, ◌||◌, not, ◌==◌, if◌then◌else◌, List, [], ◌∷◌, length, drop, Option, Some, None, Result, Ok, Err, slice_get}
use Rattle.byteorder.specs.Endian.{twos_complement}
use Rattle.jo_text.specs.Tests.{is_mutf8, is_member_name, is_class_or_array, is_field_desc, is_method_desc}
use Rattle.class_pool.specs.declared.entries.PoolEntry.{PoolEntry}
use Rattle.class_pool.specs.declared.entries.PoolEntry.TheVariants.{Second, Utf8, Integer, Float, Long, Double, Class, Text, FieldRef, MethodRef, InterfaceMethodRef, NameAndType, MethodHandle, MethodType, InvokeDynamic}
use Rattle.class_pool.specs.declared.faults.ClassCode.{ClassCode}
use Rattle.class_pool.specs.declared.faults.ClassCode.TheVariants.{PoolTag, PoolIndex, BadText, BadDescriptor}
use Rattle.class_pool.specs.declared.faults.ClassFault.{ClassFault}
use Rattle.class_pool.specs.Items.{◌>>=◌, place_of, fault, passing, number, bytes_of, two_numbers}

-- ---- entries by index

-- the entry with that index; 0 is none
abbrev pub entry_at : List PoolEntry → ℕ → Option PoolEntry
entry_at pool zero = None
entry_at pool (suc k) = slice_get pool k

abbrev pub utf8_of : Option PoolEntry → Option (List ℕ)
utf8_of (Some (Utf8 text)) = Some text
utf8_of _ = None

-- the text of the Utf8 entry with that index
abbrev pub utf8_at : List PoolEntry → ℕ → Option (List ℕ)
utf8_at pool index = utf8_of (entry_at pool index)

abbrev pub class_name_of : List PoolEntry → Option PoolEntry → Option (List ℕ)
class_name_of pool (Some (Class name)) = utf8_at pool name
class_name_of pool _ = None

-- the name of the Class entry with that index
abbrev pub class_name_at : List PoolEntry → ℕ → Option (List ℕ)
class_name_at pool index = class_name_of pool (entry_at pool index)

abbrev pub desc_of : List PoolEntry → Option PoolEntry → Option (List ℕ)
desc_of pool (Some (NameAndType name desc)) = utf8_at pool desc
desc_of pool _ = None

-- the descriptor of the NameAndType entry with that index
abbrev pub desc_at : List PoolEntry → ℕ → Option (List ℕ)
desc_at pool index = desc_of pool (entry_at pool index)

-- a text is there, and passes the test
abbrev pub is_text_that : (List ℕ → Bool) → Option (List ℕ) → Bool
is_text_that test None = false
is_text_that test (Some text) = test text

abbrev pub is_text : Option (List ℕ) → Bool
is_text text = is_text_that (λ _. true) text

abbrev pub is_class : Option PoolEntry → Bool
is_class (Some (Class name)) = true
is_class _ = false

abbrev pub is_name_and_type : Option PoolEntry → Bool
is_name_and_type (Some (NameAndType name desc)) = true
is_name_and_type _ = false

-- ---- entries as they are spelled

-- a Long or a Double takes two indices
abbrev pub is_double : PoolEntry → Bool
is_double (Long bits) = true
is_double (Double bits) = true
is_double _ = false

abbrev pub read_utf8 : ℕ → ℕ → List ℕ → Result (PoolEntry × List ℕ) ClassFault
read_utf8 size place rest = do
  count ← number size 2 rest
  text ← bytes_of size count.0 count.1
  passing (is_mutf8 text.0) BadText place (Ok (Utf8 text.0, text.1))

-- an entry of one number, and of two numbers of two bytes each
abbrev pub read_one : ℕ → ℕ → (ℕ → PoolEntry) → List ℕ → Result (PoolEntry × List ℕ) ClassFault
read_one size count made rest = do
  n ← number size count rest
  Ok (made n.0, n.1)

abbrev pub read_pair : ℕ → (ℕ → ℕ → PoolEntry) → List ℕ → Result (PoolEntry × List ℕ) ClassFault
read_pair size made rest = do
  parts ← two_numbers size rest
  Ok (made parts.0.0 parts.0.1, parts.1)

abbrev pub read_handle : ℕ → List ℕ → Result (PoolEntry × List ℕ) ClassFault
read_handle size rest = do
  kind ← number size 1 rest
  target ← number size 2 kind.1
  Ok (MethodHandle kind.0 target.0, target.1)

-- an entry of pool indices behind its tag, which stands at this place
unfoldable pub read_indices : ℕ → ℕ → ℕ → List ℕ → Result (PoolEntry × List ℕ) ClassFault
read_indices size place tag rest =
    if tag == 7 then read_one size 2 Class rest
    else if tag == 8 then read_one size 2 Text rest
    else if tag == 9 then read_pair size FieldRef rest
    else if tag == 10 then read_pair size MethodRef rest
    else if tag == 11 then read_pair size InterfaceMethodRef rest
    else if tag == 12 then read_pair size NameAndType rest
    else if tag == 16 then read_one size 2 MethodType rest
    else if tag == 18 then read_pair size InvokeDynamic rest
    else Err (fault PoolTag place)

-- any entry behind its tag
unfoldable pub read_tagged : ℕ → ℕ → ℕ → List ℕ → Result (PoolEntry × List ℕ) ClassFault
read_tagged size place tag rest =
    if tag == 1 then read_utf8 size place rest
    else if tag == 3 then read_one size 4 (λ n. Integer (twos_complement 4 n)) rest
    else if tag == 4 then read_one size 4 Float rest
    else if tag == 5 then read_one size 8 Long rest
    else if tag == 6 then read_one size 8 Double rest
    else if tag == 15 then read_handle size rest
    else read_indices size place tag rest

unfoldable pub read_entry : ℕ → List ℕ → Result (PoolEntry × List ℕ) ClassFault
read_entry size rest = do
  tag ← number size 1 rest
  read_tagged size (place_of size rest) tag.0 tag.1

-- a Long or Double at this place is owed a second index
abbrev pub owed_by : PoolEntry → ℕ → Option ℕ
owed_by entry place = if is_double entry then Some place else None

-- The entries of so many indices. Where an entry before them is owed one, its place is given; it is at fault where there is
-- none left.
unfoldable pub read_entries : ℕ → Option ℕ → ℕ → List ℕ → Result (List PoolEntry × List ℕ) ClassFault
read_entries size None zero rest = Ok ([], rest)
read_entries size (Some place) zero rest = Err (fault PoolIndex place)
read_entries size (Some place) (suc n) rest = do
  others ← read_entries size None n rest
  Ok (Second ∷ others.0, others.1)
read_entries size None (suc n) rest = do
  entry ← read_entry size rest
  others ← read_entries size (owed_by entry.0 (place_of size rest)) n entry.1
  Ok (entry.0 ∷ others.0, others.1)

-- how many bytes spell an entry, its tag included
abbrev pub entry_size : PoolEntry → ℕ
entry_size Second = 0
entry_size (Utf8 text) = 3 + length text
entry_size (Integer n) = 5
entry_size (Float bits) = 5
entry_size (Long bits) = 9
entry_size (Double bits) = 9
entry_size (Class name) = 3
entry_size (Text text) = 3
entry_size (FieldRef class type) = 5
entry_size (MethodRef class type) = 5
entry_size (InterfaceMethodRef class type) = 5
entry_size (NameAndType name desc) = 5
entry_size (MethodHandle kind target) = 4
entry_size (MethodType desc) = 3
entry_size (InvokeDynamic method type) = 5

-- ---- what an entry refers to

-- questions in order: each test that fails has its code
abbrev pub first_failing : List (Bool × ClassCode) → Option ClassCode
first_failing [] = None
first_failing ((test, code) ∷ more) = if test then first_failing more else Some code

-- A NameAndType without a Utf8 as its descriptor is a wrong descriptor of the entry that refers to it (this project's own).
abbrev pub member_questions : List PoolEntry → (List ℕ → Bool) → ℕ → ℕ → List (Bool × ClassCode)
member_questions pool is_desc class type =
    (is_class (entry_at pool class) && is_name_and_type (entry_at pool type), PoolIndex) ∷ (is_text_that is_desc (desc_at pool type), BadDescriptor) ∷ []

-- Indices come before names and descriptors. The last three kinds are stepped over unchecked.
abbrev pub questions : List PoolEntry → PoolEntry → List (Bool × ClassCode)
questions pool (Class name) = (is_text (utf8_at pool name), PoolIndex) ∷ (is_text_that is_class_or_array (utf8_at pool name), BadDescriptor) ∷ []
questions pool (Text text) = (is_text (utf8_at pool text), PoolIndex) ∷ []
questions pool (FieldRef class type) = member_questions pool is_field_desc class type
questions pool (MethodRef class type) = member_questions pool is_method_desc class type
questions pool (InterfaceMethodRef class type) = member_questions pool is_method_desc class type
questions pool (NameAndType name desc) =
    (is_text (utf8_at pool name) && is_text (utf8_at pool desc), PoolIndex)
    ∷ (is_text_that is_member_name (utf8_at pool name) && is_text_that (λ text. is_field_desc text || is_method_desc text) (utf8_at pool desc), BadDescriptor) ∷ []
questions pool _ = []

-- The first of these entries that refers to something wrong. The rest begins with the first of them.
unfoldable pub reference_fault : ℕ → List PoolEntry → List ℕ → List PoolEntry → Option ClassFault
reference_fault size pool rest [] = None
reference_fault size pool rest (entry ∷ more) = at_entry (first_failing (questions pool entry)) (place_of size rest) (reference_fault size pool (drop (entry_size entry) rest) more)
  where
    at_entry : Option ClassCode → ℕ → Option ClassFault → Option ClassFault
    at_entry None place later = later
    at_entry (Some code) place later = Some (fault code place)

abbrev pub unless_fault : {A : Type 0} → Option ClassFault → Result A ClassFault → Result A ClassFault
unless_fault None next = next
unless_fault (Some f) next = Err f

-- ---- the pool, with its count, from its place on

unfoldable pub read_pool_from : ℕ → List ℕ → Result (List PoolEntry × List ℕ) ClassFault
read_pool_from size rest = do
  count ← number size 2 rest
  entries ← passing (not (count.0 == 0)) PoolIndex (place_of size rest) (read_entries size None (count.0 - 1) count.1)
  unless_fault (reference_fault size entries.0 count.1 entries.0) (Ok entries)

-- the pool of a file, which begins at byte 8, and what follows it
abbrev pub pool_of : List ℕ → Result (List PoolEntry × List ℕ) ClassFault
pool_of file = read_pool_from (length file) (drop 8 file)

-- that pool, and the place of what follows it
abbrev pub pool_and_place : List ℕ → Result (List PoolEntry × ℕ) ClassFault
pool_and_place file = do
  read ← pool_of file
  Ok (read.0, place_of (length file) read.1)

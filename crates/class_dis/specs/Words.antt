-- The words of a listing (this project's own): names, numbers, constants and members as assembly spells them.
use Rattle.std.specs.Prelude.{ℕ, ◌+◌, ◌/◌, ◌%◌, nat_lt, if◌then◌else◌, ℤ, List, [], ◌∷◌, ◌++◌, Option, Some, None, codes}
use Rattle.std.specs.List.{flat_map}
use Rattle.std.specs.Fmt.{signed_decimal}
use Rattle.jo_text.specs.Escapes.{escaped, quoted}
use Rattle.class_pool.specs.declared.entries.PoolEntry.{PoolEntry}
use Rattle.class_pool.specs.declared.entries.PoolEntry.TheVariants.{Integer, Text, Class, FieldRef, MethodRef, InterfaceMethodRef, NameAndType}
use Rattle.class_pool.specs.Pool.{entry_at, utf8_at, class_name_at, desc_at}

-- words, each behind a space
abbrev pub spaced : List (List ℕ) → List ℕ
spaced words = flat_map (λ word. 32 ∷ word) words

-- words with a space between any two
abbrev pub joined : List (List ℕ) → List ℕ
joined [] = []
joined (word ∷ more) = word ++ spaced more

-- a line of words
abbrev pub line : List (List ℕ) → List ℕ
line words = joined words ++ 10 ∷ []

-- ---- numbers

-- a digit to the base sixteen, in lower case
abbrev pub low_digit : ℕ → ℕ
low_digit n = if nat_lt n 10 then 48 + n else 87 + n

-- a number of sixteen bits in four digits to the base sixteen
abbrev pub hex : ℕ → List ℕ
hex n = codes "0x" ++ low_digit (n / 4096 % 16) ∷ low_digit (n / 256 % 16) ∷ low_digit (n / 16 % 16) ∷ low_digit (n % 16) ∷ []

-- the label of a pc
abbrev pub label : ℤ → List ℕ
label pc = 76 ∷ signed_decimal pc

-- ---- what stands in the pool; an index that names no such thing is spelled by nothing, and a class file has none

abbrev pub text_of : Option (List ℕ) → List ℕ
text_of None = []
text_of (Some text) = text

-- a name or a descriptor
abbrev pub name_word : List PoolEntry → ℕ → List ℕ
name_word pool index = escaped (text_of (utf8_at pool index))

-- a class or an array
abbrev pub class_word : List PoolEntry → ℕ → List ℕ
class_word pool index = escaped (text_of (class_name_at pool index))

abbrev pub member_name_of : List PoolEntry → Option PoolEntry → Option (List ℕ)
member_name_of pool (Some (NameAndType name desc)) = utf8_at pool name
member_name_of pool _ = None

-- the name of the NameAndType entry with that index
abbrev pub member_name_at : List PoolEntry → ℕ → Option (List ℕ)
member_name_at pool index = member_name_of pool (entry_at pool index)

-- a member of a class: the class, a full stop, the name, and the descriptor, which this text parts from the name
abbrev pub member_word : List ℕ → List PoolEntry → ℕ → ℕ → List ℕ
member_word parting pool class type =
    class_word pool class ++ 46 ∷ escaped (text_of (member_name_at pool type)) ++ parting ++ escaped (text_of (desc_at pool type))

abbrev pub field_word : List PoolEntry → ℕ → ℕ → List ℕ
field_word pool class type = member_word (58 ∷ []) pool class type

abbrev pub method_word : List PoolEntry → ℕ → ℕ → List ℕ
method_word pool class type = member_word [] pool class type

-- a text, in quotes
abbrev pub text_word : List PoolEntry → ℕ → List ℕ
text_word pool text = quoted (text_of (utf8_at pool text))

-- what an instruction names
abbrev pub entry_word : List PoolEntry → Option PoolEntry → List ℕ
entry_word pool (Some (Integer n)) = signed_decimal n
entry_word pool (Some (Text text)) = text_word pool text
entry_word pool (Some (Class name)) = name_word pool name
entry_word pool (Some (FieldRef class type)) = field_word pool class type
entry_word pool (Some (MethodRef class type)) = method_word pool class type
entry_word pool (Some (InterfaceMethodRef class type)) = method_word pool class type
entry_word pool _ = []

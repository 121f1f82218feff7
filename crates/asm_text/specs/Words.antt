-- The words of a line: names, quoted texts, numbers, flags and members (this project's own; descriptors and names by the JVM
-- Specification SE 8, 4.2 and 4.3).
use Rattle.std.specs.Prelude.{ℕ, ◌+◌, ◌-◌, ◌*◌, ◌^◌, Bool, true, false, ◌&&◌, not, nat_lt, nat_le, ◌==◌, if◌then◌else◌, pos, ◌-ℤ◌, List, [], ◌∷◌, length, take, drop, position, Option, Some, None}
use Rattle.std.specs.Int.{is_in_range}
use Rattle.std.specs.List.{list_all}
use Rattle.std.specs.Str.{bytes_eq}
use Rattle.jo_text.specs.Escapes.{escaped, quoted}
use Rattle.jo_text.specs.Tests.{is_mutf8, is_class_name, is_member_name, is_field_desc, is_method_desc, is_class_or_array}
use Rattle.asm_text.specs.declared.statements.Number.{Number}
use Rattle.asm_text.specs.declared.statements.Number.TheVariants.{Of, TooLarge}
use Rattle.asm_text.specs.declared.statements.Member.{Member}
use Rattle.asm_text.specs.declared.words.Kind.{Kind}
use Rattle.asm_text.specs.declared.words.Kind.TheVariants.{ClassName, ClassOrArray, MemberName, FieldDesc, MethodDesc}

infixl 10 ◌>>=◌
abbrev pub ◌>>=◌ : {A B : Type 0} → Option A → (A → Option B) → Option B
None >>= f = None
(Some x) >>= f = f x

abbrev pub passing : {A : Type 0} → Bool → A → Option A
passing test x = if test then Some x else None

-- ---- names and quoted texts

abbrev pub digit_value : ℕ → ℕ
digit_value d = if nat_lt d 58 then d - 48 else d - 55

-- What a spelling stands for: `%` and two digits to the base sixteen for a byte, and each other byte for itself.
unfoldable pub bytes_in : List ℕ → List ℕ
bytes_in [] = []
bytes_in (a ∷ []) = a ∷ []
bytes_in (a ∷ b ∷ []) = a ∷ b ∷ []
bytes_in (a ∷ b ∷ c ∷ rest) = if a == 37 then (16 * digit_value b + digit_value c) ∷ bytes_in rest else a ∷ bytes_in (b ∷ c ∷ rest)

abbrev pub are_bytes : List ℕ → Bool
are_bytes bytes = list_all (λ b. nat_lt b 256) bytes

-- the bytes whose spelling the text is
abbrev pub spelled_in : (List ℕ → List ℕ) → List ℕ → List ℕ → Option (List ℕ)
spelled_in spelling text bytes = passing (are_bytes bytes && bytes_eq (spelling bytes) text) bytes

unfoldable pub name_in : List ℕ → Option (List ℕ)
name_in text = spelled_in escaped text (bytes_in text)

-- what stands between the first byte and the last
abbrev pub inside : List ℕ → List ℕ
inside text = take (length text - 2) (drop 1 text)

unfoldable pub quoted_in : List ℕ → Option (List ℕ)
quoted_in text = spelled_in quoted text (bytes_in (inside text))

-- a name or a descriptor is modified UTF-8 in the grammar of its kind
abbrev pub is_of_kind : Kind → List ℕ → Bool
is_of_kind ClassName text = is_class_name text
is_of_kind ClassOrArray text = is_class_or_array text
is_of_kind MemberName text = is_member_name text
is_of_kind FieldDesc text = is_field_desc text
is_of_kind MethodDesc text = is_method_desc text

abbrev pub kept : Kind → List ℕ → Option (List ℕ)
kept kind text = passing (is_mutf8 text && is_of_kind kind text) text

abbrev pub name_of_kind : Kind → List ℕ → Option (List ℕ)
name_of_kind kind text = do
  name ← name_in text
  kept kind name

-- ---- labels: any bytes, but no `:` among them

abbrev pub has_byte : ℕ → List ℕ → Bool
has_byte byte [] = false
has_byte byte (b ∷ bs) = if b == byte then true else has_byte byte bs

abbrev pub is_label : List ℕ → Bool
is_label name = not (length name == 0) && not (has_byte 58 name)

abbrev pub label_in : List ℕ → Option (List ℕ)
label_in text = do
  name ← name_in text
  passing (is_label name) name

-- ---- numbers

abbrev pub is_digit : ℕ → Bool
is_digit b = is_in_range 48 57 b

-- no sign, and no zero before other digits
abbrev pub is_magnitude : List ℕ → Bool
is_magnitude [] = false
is_magnitude (d ∷ []) = is_digit d
is_magnitude (d ∷ e ∷ more) = (is_digit d && not (d == 48)) && list_all is_digit (e ∷ more)

-- the number whose digits, behind those of the first number, these are
abbrev pub magnitude_from : ℕ → List ℕ → ℕ
magnitude_from high [] = high
magnitude_from high (d ∷ more) = magnitude_from (high * 10 + (d - 48)) more

abbrev pub magnitude : List ℕ → ℕ
magnitude digits = magnitude_from 0 digits

-- a number, where it has at most 32 bits
abbrev pub number_of : Bool → ℕ → Number
number_of false n = if nat_lt n (2 ^ 31) then Of (pos n) else TooLarge
number_of true n = if nat_le n (2 ^ 31) then Of (pos 0 -ℤ pos n) else TooLarge

-- the number whose decimal the text is: a minus sign where it is negative, no plus sign, no leading zero
unfoldable pub number_in : List ℕ → Option Number
number_in [] = None
number_in (b ∷ bs) =
    if b == 45 then passing (is_magnitude bs && not (magnitude bs == 0)) (number_of true (magnitude bs))
    else passing (is_magnitude (b ∷ bs)) (number_of false (magnitude (b ∷ bs)))

-- ---- flags: `0x` and four digits to the base sixteen, of either case

abbrev pub hex_value : ℕ → Option ℕ
hex_value d =
    if is_in_range 48 57 d then Some (d - 48)
    else if is_in_range 65 70 d then Some (d - 55)
    else if is_in_range 97 102 d then Some (d - 87)
    else None

abbrev pub hex_of : ℕ → ℕ → ℕ → ℕ → Option ℕ
hex_of a b c d = do
  high ← hex_value a
  next ← hex_value b
  third ← hex_value c
  low ← hex_value d
  Some (high * 4096 + next * 256 + third * 16 + low)

abbrev pub flags_in : List ℕ → Option ℕ
flags_in (z ∷ x ∷ a ∷ b ∷ c ∷ d ∷ []) = if z == 48 && x == 120 then hex_of a b c d else None
flags_in _ = None

-- ---- members: the class, a full stop, the name and the descriptor; a `:` stands before a field's descriptor, and a
-- method's begins with `(`

abbrev pub first_byte : ℕ → List ℕ → Option ℕ
first_byte byte text = position (λ b. b == byte) text

abbrev pub member_with : Kind → List ℕ → List ℕ → List ℕ → Option Member
member_with kind class name desc = do
  class ← kept ClassOrArray class
  name ← kept MemberName name
  desc ← kept kind desc
  Some (record { class = class; name = name; desc = desc })

abbrev pub field_behind : List ℕ → List ℕ → Option Member
field_behind class rest = do
  colon ← first_byte 58 rest
  member_with FieldDesc class (take colon rest) (drop (colon + 1) rest)

abbrev pub method_behind : List ℕ → List ℕ → Option Member
method_behind class rest = do
  parenthesis ← first_byte 40 rest
  member_with MethodDesc class (take parenthesis rest) (drop parenthesis rest)

abbrev pub field_in : List ℕ → Option Member
field_in text = do
  name ← name_in text
  stop ← first_byte 46 name
  field_behind (take stop name) (drop (stop + 1) name)

abbrev pub method_in : List ℕ → Option Member
method_in text = do
  name ← name_in text
  stop ← first_byte 46 name
  method_behind (take stop name) (drop (stop + 1) name)

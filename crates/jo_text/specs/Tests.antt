-- The grammars of names, descriptors and modified UTF-8 as tests. `laws::tests` says that each is true exactly by its grammar.
use Rattle.std.specs.Prelude.{ℕ, zero, suc, nat_le, Bool, true, false, ◌&&◌, ◌||◌, not, ◌==◌, if◌then◌else◌, List, [], ◌∷◌, length, codes, Option, Some, None}
use Rattle.std.specs.List.{list_any}
use Rattle.std.specs.Str.{bytes_eq}
use Rattle.jo_text.specs.declared.descriptors.FieldDesc.{FieldDesc}
use Rattle.jo_text.specs.Descriptors.{is_one_of}
use Rattle.jo_text.specs.Scan.{names_on, after_byte, read_field}
use Rattle.jo_text.specs.CharScan.{mutf8_lead}

-- what a value gives where there is one, and else this
abbrev pub where_found : {A B : Type 0} → Option A → B → (A → B) → B
where_found None other f = other
where_found (Some x) other f = f x

abbrev pub is_member_name : List ℕ → Bool
is_member_name name = not (length name == 0) && not (list_any (is_one_of (codes ".;[/(:")) name)

abbrev pub is_class_name : List ℕ → Bool
is_class_name name = names_on true name

abbrev pub ends_there : Option (FieldDesc × List ℕ) → Bool
ends_there None = false
ends_there (Some found) = length found.1 == 0

abbrev pub is_field_desc : List ℕ → Bool
is_field_desc bytes = ends_there (read_field bytes)

-- what follows the field descriptors that begin the bytes, at most so many
abbrev pub after_fields : ℕ → List ℕ → List ℕ
after_fields zero bytes = bytes
after_fields (suc n) bytes = where_found (read_field bytes) bytes (λ found. after_fields n found.1)

abbrev pub is_result_desc : Option (List ℕ) → Bool
is_result_desc None = false
is_result_desc (Some bytes) = bytes_eq bytes (codes "V") || is_field_desc bytes

abbrev pub is_params_desc : Option (List ℕ) → Bool
is_params_desc None = false
is_params_desc (Some bytes) = is_result_desc (after_byte 41 (after_fields (length bytes) bytes))

abbrev pub is_method_desc : List ℕ → Bool
is_method_desc bytes = is_params_desc (after_byte 40 bytes)

abbrev pub is_class_or_array : List ℕ → Bool
is_class_or_array [] = false
is_class_or_array (b ∷ bytes) = if b == 91 then is_field_desc (b ∷ bytes) else is_class_name (b ∷ bytes)

-- the bytes go on and end modified UTF-8, where so many bytes are awaited, the first of them in this range
abbrev pub mutf8_on : ℕ → ℕ → ℕ → List ℕ → Bool
mutf8_on count least most [] = count == 0
mutf8_on zero least most (b ∷ bytes) = where_found (mutf8_lead b) false (λ awaited. mutf8_on awaited.count awaited.least awaited.most bytes)
mutf8_on (suc n) least most (b ∷ bytes) = (nat_le least b && nat_le b most) && mutf8_on n 0x80 0xBF bytes

abbrev pub is_mutf8 : List ℕ → Bool
is_mutf8 bytes = mutf8_on 0 0x80 0xBF bytes

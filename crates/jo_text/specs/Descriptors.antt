-- Names and descriptors (JVM Specification SE 8, 4.2.1, 4.2.2, 4.3.2, 4.3.3, 4.4.1). This project's own are three
-- departures: a member's name has no `(` and no `:`, `<` and `>` may stand in any, and a method may have more than 255
-- words of arguments.
use Rattle.std.specs.Prelude.{◌≡◌, ◌⊎◌, ℕ, ◌<◌, ◌≤◌, Bool, false, ◌==◌, List, [], ◌∷◌, ◌++◌, length, replicate, Option, Some, None, codes}
use Rattle.std.specs.List.{list_any, flat_map, AllByRecursion}
use Rattle.jo_text.specs.declared.descriptors.Base.{Base}
use Rattle.jo_text.specs.declared.descriptors.Base.TheVariants.{Byte, Char, Double, Float, Int, Long, Short, Boolean, Class}
use Rattle.jo_text.specs.declared.descriptors.FieldDesc.{FieldDesc}
use Rattle.jo_text.specs.declared.descriptors.MethodDesc.{MethodDesc}

-- the byte is one of these
abbrev pub is_one_of : List ℕ → ℕ → Bool
is_one_of these byte = list_any (λ b. b == byte) these

-- an unqualified name: not empty, and without `.`, `;`, `[` and `/`
abbrev pub IsUnqualified : List ℕ → Type 0
IsUnqualified name = (0 < length name) × (list_any (is_one_of (codes ".;[/")) name ≡ false)

-- the name of a field or method
abbrev pub IsMemberName : List ℕ → Type 0
IsMemberName name = (0 < length name) × (list_any (is_one_of (codes ".;[/(:")) name ≡ false)

-- unqualified names with a `/` between each two
abbrev pub joined_by_slash : List ℕ → List (List ℕ) → List ℕ
joined_by_slash first [] = first
joined_by_slash first (next ∷ rest) = first ++ 47 ∷ joined_by_slash next rest

-- the internal form of a class's name
abbrev pub IsClassName : List ℕ → Type 0
IsClassName name = (first : List ℕ) × (rest : List (List ℕ)) × (name ≡ joined_by_slash first rest) × IsUnqualified first × AllByRecursion IsUnqualified rest

-- ---- descriptors: types in Rust, and here what spells them

-- a base type: its letter, or `L`, a class's name and `;`
abbrev pub base_text : Base → List ℕ
base_text Byte = codes "B"
base_text Char = codes "C"
base_text Double = codes "D"
base_text Float = codes "F"
base_text Int = codes "I"
base_text Long = codes "J"
base_text Short = codes "S"
base_text Boolean = codes "Z"
base_text (Class name) = 76 ∷ name ++ 59 ∷ []

-- a `[` for each array dimension, and the base type
abbrev pub field_text : FieldDesc → List ℕ
field_text desc = replicate desc.dims 91 ++ base_text desc.base

-- `V` where there is no result
abbrev pub result_text : Option FieldDesc → List ℕ
result_text None = codes "V"
result_text (Some desc) = field_text desc

-- the parameters' descriptors in parentheses, and the result's
abbrev pub method_text : MethodDesc → List ℕ
method_text desc = 40 ∷ flat_map field_text desc.params ++ 41 ∷ result_text desc.result

-- a class has a name, and an array at most 255 dimensions
abbrev pub HasName : Base → Type 0
HasName (Class name) = IsClassName name
HasName _ = Unit {0}

abbrev pub IsType : FieldDesc → Type 0
IsType desc = (desc.dims ≤ 255) × HasName desc.base

abbrev pub IsResult : Option FieldDesc → Type 0
IsResult None = Unit {0}
IsResult (Some desc) = IsType desc

-- the bytes are that descriptor
abbrev pub SpellsField : FieldDesc → List ℕ → Type 0
SpellsField desc bytes = (bytes ≡ field_text desc) × IsType desc

abbrev pub SpellsMethod : MethodDesc → List ℕ → Type 0
SpellsMethod desc bytes = (bytes ≡ method_text desc) × AllByRecursion IsType desc.params × IsResult desc.result

-- the bytes are some field or method descriptor
abbrev pub IsFieldDesc : List ℕ → Type 0
IsFieldDesc bytes = (desc : FieldDesc) × SpellsField desc bytes

abbrev pub IsMethodDesc : List ℕ → Type 0
IsMethodDesc bytes = (desc : MethodDesc) × SpellsMethod desc bytes

-- what a Class entry may name: a class, or an array
abbrev pub IsClassOrArray : List ℕ → Type 0
IsClassOrArray name = IsClassName name ⊎ ((desc : FieldDesc) × (0 < desc.dims) × SpellsField desc name)

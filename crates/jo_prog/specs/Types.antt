-- Subtypes among class and array types (JVM Specification SE 8, 4.10.1.2; that an array is a subtype of no interface is this
-- project's own rule).
use Rattle.std.specs.Prelude.{ℕ, Bool, false, ◌==◌, nat_lt, if◌then◌else◌, List, Option, Some}
use Rattle.std.specs.List.{position_from}
use Rattle.std.specs.Str.{bytes_eq}
use Rattle.jo_text.specs.declared.descriptors.FieldDesc.{FieldDesc}
use Rattle.jo_text.specs.declared.descriptors.Base.{Base}
use Rattle.jo_text.specs.declared.descriptors.Base.TheVariants.{Byte, Char, Double, Float, Int, Long, Short, Boolean, Class as OfName}
use Rattle.jo_prog.specs.declared.program.Program.{Program}
use Rattle.jo_prog.specs.declared.program.Class.{Class}
use Rattle.jo_prog.specs.declared.program.TypeRef.{TypeRef}
use Rattle.jo_prog.specs.declared.program.TypeRef.TheVariants.{Class as OfClass, Array as OfArray}
use Rattle.jo_prog.specs.PreludeClasses.{object_name, object_number}
use Rattle.jo_prog.specs.Hierarchy.{is_subtype}

-- the number of the first class with a name
abbrev pub class_named : Program → List ℕ → Option ℕ
class_named program name = position_from (λ (class : Class). bytes_eq class.name name) 0 program.classes

abbrev pub is_subtype_of : Program → Option ℕ → Option ℕ → Bool
is_subtype_of program (Some a) (Some b) = is_subtype program a b
is_subtype_of program _ _ = false

-- the letters of descriptors (4.3.2)
abbrev pub letter_of : Base → ℕ
letter_of Byte = 66
letter_of Char = 67
letter_of Double = 68
letter_of Float = 70
letter_of Int = 73
letter_of Long = 74
letter_of Short = 83
letter_of Boolean = 90
letter_of (OfName name) = 76

-- the same primitive type, or a class and one above it
abbrev pub base_fits : Program → Base → Base → Bool
base_fits program (OfName a) (OfName b) = is_subtype_of program (class_named program a) (class_named program b)
base_fits program a b = letter_of a == letter_of b

abbrev pub is_object : Base → Bool
is_object (OfName name) = bytes_eq name object_name
is_object _ = false

abbrev pub array_of : ℕ → Base → FieldDesc
array_of dims base = record { dims = dims; base = base }

-- Taking the element types as long as both are arrays: their bases are left, or an array and a base, which must be java/lang/Object,
-- or a base and an array, which never fit.
abbrev pub array_fits : Program → FieldDesc → FieldDesc → Bool
array_fits program a b =
    if a.dims == b.dims then base_fits program a.base b.base
    else if nat_lt b.dims a.dims then is_object b.base
    else false

-- a value of the first type is one of the second
abbrev pub type_fits : Program → TypeRef → TypeRef → Bool
type_fits program (OfClass a) (OfClass b) = is_subtype program a b
type_fits program (OfClass a) (OfArray b) = false
type_fits program (OfArray a) (OfClass b) = b == object_number
type_fits program (OfArray a) (OfArray b) = array_fits program a b

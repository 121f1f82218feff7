-- String constants and the first values of static fields (JVM Specification SE 8, 2.3, 2.4, 4.7.2 and 5.1).
use Rattle.std.specs.Prelude.{ℕ, suc, Bool, false, not, ◌==◌, ◌||◌, pos, if◌then◌else◌, List, [], ◌∷◌, ◌++◌, length, filter, flat_map, Option, Some, None, option_map, codes}
use Rattle.std.specs.Str.{bytes_eq}
use Rattle.jo_prog.specs.declared.program.Program.{Program}
use Rattle.jo_prog.specs.declared.program.Class.{Class}
use Rattle.jo_prog.specs.declared.program.Field.{Field}
use Rattle.jo_prog.specs.declared.program.Method.{Method}
use Rattle.jo_prog.specs.declared.program.Operand.{Operand}
use Rattle.jo_prog.specs.declared.program.Operand.TheVariants.{Int, Text}
use Rattle.jo_prog.specs.Values.{Value, int, null, ref}

-- ---- string constants: one object for each distinct text

abbrev pub text_of : Operand → List (List ℕ)
text_of (Text text) = text ∷ []
text_of _ = []

abbrev pub constant_text : Option Operand → List (List ℕ)
constant_text None = []
constant_text (Some operand) = text_of operand

-- the texts that instructions name, class by class in the order of pool indices, and those that fields start with
abbrev pub texts_of : Program → List (List ℕ)
texts_of program =
    flat_map (λ (class : Class). flat_map text_of class.operands) program.classes ++ flat_map (λ (field : Field). constant_text field.constant) program.fields

-- each text once, in the order of first occurrences
abbrev pub distinct : List (List ℕ) → List (List ℕ)
distinct [] = []
distinct (text ∷ texts) = text ∷ filter (λ other. not (bytes_eq other text)) (distinct texts)

unfoldable pub string_constants : Program → List (List ℕ)
string_constants program = distinct (texts_of program)

abbrev pub place_of : List ℕ → List (List ℕ) → Option ℕ
place_of text [] = None
place_of text (other ∷ others) = if bytes_eq other text then Some 0 else option_map (λ place. suc place) (place_of text others)

-- the address of a text's object is its place among the string constants
abbrev pub string_address : Program → List ℕ → Option ℕ
string_address program text = place_of text (string_constants program)

-- ---- static fields

-- null for a class or an array, whose descriptors begin with L (76) and [ (91), and 0 else
abbrev pub default_value : List ℕ → Value ℕ
default_value [] = int (pos 0)
default_value (first ∷ rest) = if first == 76 || first == 91 then null else int (pos 0)

-- each text of a field has an address, so null stands here for no case
abbrev pub reference_to : Option ℕ → Value ℕ
reference_to None = null
reference_to (Some address) = ref address

-- what a field has before the first step; an instance field has no cell of its own, and its value is never looked at
abbrev pub first_value : Program → Field → Value ℕ
first_value program field = value_by field.constant
  where
    value_by : Option Operand → Value ℕ
    value_by (Some (Int value)) = int value
    value_by (Some (Text text)) = reference_to (string_address program text)
    value_by _ = default_value field.desc

-- ---- the entry's array

abbrev pub takes_arguments : Option Method → Bool
takes_arguments None = false
takes_arguments (Some method) = bytes_eq method.desc (codes "([Ljava/lang/String;)V")

-- it stands behind the string constants
unfoldable pub arguments_address : Program → ℕ
arguments_address program = length (string_constants program)

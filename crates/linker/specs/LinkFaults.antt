-- Why classes make no program (JVM Specification SE 8, 4.1, 4.5, 4.6, 2.9; which faults there are is this project's own).
-- Classes have numbers by their places in a list, and the first that has a fault counts.
use Rattle.std.specs.Prelude.{ℕ, Bool, ◌&&◌, ◌||◌, not, List, map, take, slice_get, codes}
use Rattle.std.specs.List.{Contains, list_any}
use Rattle.std.specs.Option.{is_some, IsSomeAnd}
use Rattle.std.specs.Str.{bytes_eq}
use Rattle.jo_insn.specs.AccessFlags.{has_flag, static_flag}
use Rattle.class_pool.specs.declared.classes.ClassFile.{ClassFile}
use Rattle.class_pool.specs.declared.classes.FieldInfo.{FieldInfo}
use Rattle.class_pool.specs.declared.classes.MethodInfo.{MethodInfo}
use Rattle.program_faults.specs.SuperFaults.{interface_flag}
use Rattle.linker.specs.Linking.{text_at, this_name}

-- ---- two classes of one name

abbrev pub class_names : List ClassFile → List (List ℕ)
class_names classes = map this_name classes

-- a class has this name
abbrev pub is_known : List (List ℕ) → List ℕ → Bool
is_known names name = list_any (bytes_eq name) names

-- the class with this number has the name of an earlier one
abbrev pub IsTwiceDefined : List (List ℕ) → ℕ → Type 0
IsTwiceDefined names k = IsSomeAnd (slice_get names k) (λ name. Contains (take k names) name)

-- ---- interfaces (4.1): here their methods have no code, and their fields are static

abbrev pub has_code : MethodInfo → Bool
has_code method = is_some method.code

abbrev pub is_of_instances : FieldInfo → Bool
is_of_instances field = not (has_flag static_flag field.flags)

abbrev pub has_interface_body : ClassFile → Bool
has_interface_body class = has_flag interface_flag class.flags && (list_any has_code class.methods || list_any is_of_instances class.fields)

-- ---- class initializers (2.9)

abbrev pub is_static_init : ClassFile → MethodInfo → Bool
is_static_init class method = bytes_eq (text_at class.pool method.name) (codes "<clinit>")

abbrev pub has_static_init : ClassFile → Bool
has_static_init class = list_any (is_static_init class) class.methods

-- How methods are spelled in texts (this project's own).
use Rattle.std.specs.Prelude.{ℕ, List, [], ◌∷◌, ◌++◌, Option, Some, None}
use Rattle.jo_text.specs.Escapes.{escaped}
use Rattle.jo_prog.specs.declared.program.Program.{Program}
use Rattle.jo_prog.specs.declared.program.Class.{Class}
use Rattle.jo_prog.specs.declared.program.Method.{Method}
use Rattle.jo_prog.specs.Program.{method_at, class_at}

abbrev pub class_name : Option Class → List ℕ
class_name None = []
class_name (Some class) = class.name

-- a method: its class, a full stop, its name, its descriptor
abbrev pub spelled_in : Program → Option Method → List ℕ
spelled_in program None = []
spelled_in program (Some method) = escaped (class_name (class_at program method.class)) ++ 46 ∷ escaped method.name ++ escaped method.desc

abbrev pub spelled_method : Program → ℕ → List ℕ
spelled_method program m = spelled_in program (method_at program m)

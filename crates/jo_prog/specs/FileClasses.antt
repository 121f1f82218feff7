-- Which classes of a program are those of its files. A class of the files has no name of the prelude's: two classes of one name are no
-- program. So this needs no number at which the files begin.
use Rattle.std.specs.Prelude.{ℕ, Bool, false, not, List, Option, Some, None}
use Rattle.std.specs.List.{list_any}
use Rattle.std.specs.Str.{bytes_eq}
use Rattle.jo_prog.specs.declared.program.Program.{Program}
use Rattle.jo_prog.specs.declared.program.Class.{Class}
use Rattle.jo_prog.specs.declared.program.Method.{Method}
use Rattle.jo_prog.specs.PreludeClasses.{prelude_names}
use Rattle.jo_prog.specs.Program.{class_at}

unfoldable pub is_prelude_name : List ℕ → Bool
is_prelude_name text = list_any (λ name. bytes_eq name text) prelude_names

abbrev pub is_file_class : Option Class → Bool
is_file_class None = false
is_file_class (Some class) = not (is_prelude_name class.name)

-- the method stands in a class of the files
abbrev pub is_of_files : Program → Method → Bool
is_of_files program method = is_file_class (class_at program method.class)

-- The worked program with its secret shown: it loads the local that the high source set in place of the low one.
use Rattle.std.specs.Prelude.{[], ◌∷◌, Some, codes}
use Rattle.jo_prog.specs.declared.program.Program.{Program}
use Rattle.jo_prog.specs.declared.program.Code.{Code}
use Rattle.jo_prog.specs.Program.{program_with}
use Rattle.jo_prog.specs.PreludeClasses.{object_class}
use Rattle.jo_prog.specs.Worked.{native, worked_class}

-- 0 invokestatic get, 3 istore_0, 4 invokestatic secret, 7 istore_1, 8 iload_1, 9 iconst_1, 10 iadd, 11 invokestatic show, 14 return
abbrev pub leaking_code : Code
leaking_code = record {
  max_stack = 2;
  max_locals = 2;
  bytes = 0xb8 ∷ 0 ∷ 14 ∷ 0x3b ∷ 0xb8 ∷ 0 ∷ 16 ∷ 0x3c ∷ 0x1b ∷ 0x04 ∷ 0x60 ∷ 0xb8 ∷ 0 ∷ 18 ∷ 0xb1 ∷ [];
  rows = [];
}

abbrev pub leaking_program : Program
leaking_program = program_with (object_class ∷ worked_class ∷ []) []
    (native (codes "secret") (codes "()I") ∷ native (codes "get") (codes "()I") ∷ native (codes "show") (codes "(I)V")
    ∷ record { class = 1; name = codes "main"; desc = codes "()V"; flags = 0x0008; code = Some leaking_code } ∷ [])

-- A program, its labels and inputs as literal data: it shows the int that a low source gives, and one more.
--   static native int secret(); static native int get(); static native void show(int);
--   static void main() { int i = get(); int s = secret(); show(i + 1); }
use Rattle.std.specs.Prelude.{ℕ, ℤ, List, [], ◌∷◌, ◌++◌, Some, None, replicate, codes}
use Rattle.jo_prog.specs.declared.labels.Label.TheVariants.{Source, Sink}
use Rattle.jo_prog.specs.declared.labels.Labels.{Labels}
use Rattle.jo_prog.specs.declared.program.Program.{Program}
use Rattle.jo_prog.specs.declared.program.Class.{Class}
use Rattle.jo_prog.specs.declared.program.Method.{Method}
use Rattle.jo_prog.specs.declared.program.Code.{Code}
use Rattle.jo_prog.specs.declared.program.Operand.{Operand}
use Rattle.jo_prog.specs.declared.program.Operand.TheVariants.{Unused, Member}
use Rattle.jo_prog.specs.declared.program.TypeRef.TheVariants.{Class as OfClass}
use Rattle.jo_prog.specs.declared.runs.SourceInput.{SourceInput}
use Rattle.jo_prog.specs.Program.{program_with}
use Rattle.jo_prog.specs.PreludeClasses.{object_class}

-- 0 invokestatic get, 3 istore_0, 4 invokestatic secret, 7 istore_1, 8 iload_0, 9 iconst_1, 10 iadd, 11 invokestatic show, 14 return
abbrev pub worked_code : Code
worked_code = record {
  max_stack = 2;
  max_locals = 2;
  bytes = 0xb8 ∷ 0 ∷ 14 ∷ 0x3b ∷ 0xb8 ∷ 0 ∷ 16 ∷ 0x3c ∷ 0x1a ∷ 0x04 ∷ 0x60 ∷ 0xb8 ∷ 0 ∷ 18 ∷ 0xb1 ∷ [];
  rows = [];
}

abbrev pub native : List ℕ → List ℕ → Method
native name desc = record { class = 1; name = name; desc = desc; flags = 0x0108; code = None }

abbrev pub member : List ℕ → List ℕ → Operand
member name desc = Member (record { owner = OfClass 1; name = name; desc = desc })

abbrev pub worked_class : Class
worked_class = record {
  name = codes "Main";
  flags = 0x0020;
  superclass = Some 0;
  interfaces = [];
  fields = [];
  methods = 0 ∷ 1 ∷ 2 ∷ 3 ∷ [];
  operands = replicate 14 Unused ++ member (codes "get") (codes "()I") ∷ Unused ∷ member (codes "secret") (codes "()I") ∷ Unused ∷ member (codes "show") (codes "(I)V") ∷ [];
}

abbrev pub worked_program : Program
worked_program = program_with (object_class ∷ worked_class ∷ []) []
    (native (codes "secret") (codes "()I") ∷ native (codes "get") (codes "()I") ∷ native (codes "show") (codes "(I)V")
    ∷ record { class = 1; name = codes "main"; desc = codes "()V"; flags = 0x0008; code = Some worked_code } ∷ [])

-- level 0 is low and flows to level 1, which is high
abbrev pub worked_labels : Labels
worked_labels = record {
  levels = codes "low" ∷ codes "high" ∷ [];
  flows = (0, 1) ∷ [];
  observers = 0 ∷ [];
  entry = 3;
  labelled = (0, Source 1) ∷ (1, Source 0) ∷ (2, Sink 0) ∷ [];
}

-- the ints that `get` and `secret` give
abbrev pub worked_inputs : ℤ → ℤ → List SourceInput
worked_inputs got secret = record { source = 1; values = got ∷ [] } ∷ record { source = 0; values = secret ∷ [] } ∷ []

use Rattle.std.proofs.Common.{◌≡◌, ◌++◌, drop}
use Rattle.linker.specs.Linking.{fields_from}
use Rattle.linker.proofs.programs.fields_of.Given as goal

abbrev pub invariant-loop-class : goal.invariant-loop-class
invariant-loop-class l = l.fields ++ fields_from l.class (drop l.class l.files) ≡ fields_from 0 l.files

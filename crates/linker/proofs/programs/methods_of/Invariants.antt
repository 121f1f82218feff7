use Rattle.std.proofs.Common.{◌≡◌, ◌++◌, drop}
use Rattle.linker.specs.Linking.{methods_from}
use Rattle.linker.proofs.programs.methods_of.Given as goal

abbrev pub invariant-loop-class : goal.invariant-loop-class
invariant-loop-class l = l.methods ++ methods_from l.names l.class (drop l.class l.files) ≡ methods_from l.names 0 l.files

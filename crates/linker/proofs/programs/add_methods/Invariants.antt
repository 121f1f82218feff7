use Rattle.std.proofs.Common.{◌≡◌, ◌++◌, map, take}
use Rattle.linker.specs.Linking.{method_of}
use Rattle.linker.proofs.programs.add_methods.Given as goal

abbrev pub invariant-loop-method : goal.invariant-loop-method
invariant-loop-method l = l.methods ≡ l.initial.methods ++ map (method_of l.names l.class l.file.pool) (take l.method-index l.file.methods)

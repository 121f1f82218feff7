use Rattle.std.proofs.Common.{◌≡◌, drop}
use Rattle.std.specs.List.{list_all}
use Rattle.linker.specs.LinkFaults.{is_known}
use Rattle.linker.specs.NeededClasses.{is_method_there}
use Rattle.linker.proofs.needs.are_methods_there.Given as goal

-- what is left decides
abbrev pub invariant-loop-method : goal.invariant-loop-method
invariant-loop-method l = list_all (is_method_there (is_known l.names) l.pool) (drop l.method-index l.methods) ≡ list_all (is_method_there (is_known l.names) l.pool) l.methods

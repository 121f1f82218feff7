use Rattle.std.proofs.Common.{◌≡◌, drop}
use Rattle.std.specs.List.{list_all}
use Rattle.linker.specs.LinkFaults.{is_known}
use Rattle.linker.specs.NeededClasses.{is_interface_there}
use Rattle.linker.proofs.needs.are_interfaces_there.Given as goal

-- what is left decides
abbrev pub invariant-loop-index : goal.invariant-loop-index
invariant-loop-index l = list_all (is_interface_there (is_known l.names) l.pool) (drop l.index-index l.interfaces) ≡ list_all (is_interface_there (is_known l.names) l.pool) l.interfaces

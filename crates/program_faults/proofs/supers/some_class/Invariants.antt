use Rattle.std.proofs.Common.{◌≡◌, drop}
use Rattle.std.specs.List.{list_any}
use Rattle.program_faults.specs.SuperFaults.{is_no_interface}
use Rattle.program_faults.proofs.supers.some_class.Given as goal

-- what is left decides
abbrev pub invariant-loop-interface : goal.invariant-loop-interface
invariant-loop-interface l = list_any (is_no_interface l.program) (drop l.interface-index l.interfaces) ≡ list_any (is_no_interface l.program) l.interfaces

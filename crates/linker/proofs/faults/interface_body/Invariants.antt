use Rattle.std.proofs.Common.{◌≡◌, drop}
use Rattle.std.specs.List.{position_from}
use Rattle.linker.specs.LinkFaults.{has_interface_body}
use Rattle.linker.proofs.faults.interface_body.Given as goal

-- the first is among those that are left
abbrev pub invariant-loop-number : goal.invariant-loop-number
invariant-loop-number l = position_from has_interface_body l.number (drop l.number l.classes) ≡ position_from has_interface_body 0 l.classes

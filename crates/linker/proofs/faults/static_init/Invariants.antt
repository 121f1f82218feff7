use Rattle.std.proofs.Common.{◌≡◌, drop}
use Rattle.std.specs.List.{position_from}
use Rattle.linker.specs.LinkFaults.{has_static_init}
use Rattle.linker.proofs.faults.static_init.Given as goal

-- the first is among those that are left
abbrev pub invariant-loop-number : goal.invariant-loop-number
invariant-loop-number l = position_from has_static_init l.number (drop l.number l.classes) ≡ position_from has_static_init 0 l.classes

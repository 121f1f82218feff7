use Rattle.std.proofs.Common.{◌≡◌, drop}
use Rattle.std.specs.List.{position_from}
use Rattle.linker.specs.NeededClasses.{lacks_class}
use Rattle.linker.proofs.needs.missing_class.Given as goal

-- the first is among those that are left
abbrev pub invariant-loop-number : goal.invariant-loop-number
invariant-loop-number l = position_from (lacks_class l.names) l.number (drop l.number l.classes) ≡ position_from (lacks_class l.names) 0 l.classes

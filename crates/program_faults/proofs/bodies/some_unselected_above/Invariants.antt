use Rattle.std.proofs.Common.{◌≡◌, drop}
use Rattle.std.specs.List.{list_any}
use Rattle.program_faults.specs.BodyFaults.{has_unselected}
use Rattle.program_faults.proofs.bodies.some_unselected_above.Given as goal

-- what is left decides
abbrev pub invariant-loop-other : goal.invariant-loop-other
invariant-loop-other l = list_any (has_unselected l.program l.class) (drop l.other-index l.above) ≡ list_any (has_unselected l.program l.class) l.above

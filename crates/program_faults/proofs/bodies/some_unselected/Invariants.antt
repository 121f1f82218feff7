use Rattle.std.proofs.Common.{◌≡◌, drop}
use Rattle.std.specs.List.{list_any}
use Rattle.program_faults.specs.BodyFaults.{is_unselected}
use Rattle.program_faults.proofs.bodies.some_unselected.Given as goal

-- what is left decides
abbrev pub invariant-loop-method : goal.invariant-loop-method
invariant-loop-method l = list_any (is_unselected l.program l.class) (drop l.method-index l.methods) ≡ list_any (is_unselected l.program l.class) l.methods

use Rattle.std.proofs.Common.{ℕ, ◌<◌}
use Rattle.program_faults.specs.BodyFaults.{IsNotImplemented}
use Rattle.program_faults.proofs.bodies.not_implemented.Given as goal

-- none so far
abbrev pub invariant-loop-number : goal.invariant-loop-number
invariant-loop-number l = (k : ℕ) → k < l.number → IsNotImplemented l.program k → ⊥

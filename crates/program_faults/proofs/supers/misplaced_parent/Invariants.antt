use Rattle.std.proofs.Common.{ℕ, ◌<◌}
use Rattle.program_faults.specs.SuperFaults.{HasMisplacedParent}
use Rattle.program_faults.proofs.supers.misplaced_parent.Given as goal

-- none so far
abbrev pub invariant-loop-number : goal.invariant-loop-number
invariant-loop-number l = (k : ℕ) → k < l.number → HasMisplacedParent l.program k → ⊥

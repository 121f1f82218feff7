use Rattle.std.proofs.Common.{ℕ, ◌<◌}
use Rattle.program_faults.specs.MemberFaults.{LacksMember}
use Rattle.program_faults.proofs.member_faults.missing_member.Given as goal

-- none so far
abbrev pub invariant-loop-number : goal.invariant-loop-number
invariant-loop-number l = (k : ℕ) → k < l.number → LacksMember l.program k → ⊥

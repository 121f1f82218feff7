use Rattle.std.proofs.Common.{take}
use Rattle.fact_rules.specs.TargetRules.{LieBelow}
use Rattle.fact_rules.proofs.target_rules.end_of.Given as goal

abbrev pub invariant-loop-place : goal.invariant-loop-place
invariant-loop-place l = LieBelow (take l.place-index l.places) l.end

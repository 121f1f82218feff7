use Rattle.std.proofs.Common.{Contains}
use Rattle.fact_rules.specs.Adds.{Adds, FromBelow}
use Rattle.fact_rules.proofs.CallLemmas.{CallGivesAt}
use Rattle.fact_rules.proofs.call_rules.follow_calls.Given as goal

abbrev pub invariant-loop-place : goal.invariant-loop-place
invariant-loop-place g l = Adds (Contains l.initial.following.items) (Contains l.following.items) (FromBelow l.place (CallGivesAt l.facts))

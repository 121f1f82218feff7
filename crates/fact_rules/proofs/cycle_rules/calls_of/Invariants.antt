use Rattle.std.proofs.Common.{◌≡◌, ◌+◌, length}
use Rattle.fact_rules.specs.Adds.{Adds, FromBelow}
use Rattle.fact_rules.specs.CycleRules.{HasPair}
use Rattle.fact_rules.proofs.CycleLemmas.{IsPairAt}
use Rattle.fact_rules.proofs.cycle_rules.calls_of.Given as goal

abbrev pub invariant-loop-place : goal.invariant-loop-place
invariant-loop-place g l = record {
  pairs : Adds (HasPair l.initial.calls) (HasPair l.calls) (FromBelow l.place (IsPairAt l.facts l.count));
  room : length l.calls ≡ l.count + l.count;
}

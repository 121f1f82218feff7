use Rattle.std.proofs.Common.{◌≡◌, ◌+◌, length, Contains}
use Rattle.fact_rules.specs.Adds.{Adds, FromBelow}
use Rattle.fact_rules.specs.CycleRules.{RecursAt}
use Rattle.fact_rules.proofs.cycle_rules.add_recurring.Given as goal

abbrev pub invariant-loop-instance : goal.invariant-loop-instance
invariant-loop-instance g l = record {
  adds : Adds (Contains l.initial.following.items) (Contains l.following.items) (FromBelow l.instance (RecursAt l.facts l.calls (length l.facts.instances)));
  found : length l.found ≡ length l.facts.instances + length l.facts.instances;
  work : l.work ≡ length l.facts.instances + length l.facts.instances;
}

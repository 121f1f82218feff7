use Rattle.std.proofs.Common.{ℕ, ◌≤◌, take, Contains}
use Rattle.dependence.specs.declared.flow.Place.TheVariants.{Stack}
use Rattle.fact_rules.proofs.places.lowest.Given as goal

abbrev pub invariant-loop-place : goal.invariant-loop-place
invariant-loop-place l = record {
  there : Contains l.places (Stack l.height) → Contains l.places (Stack l.low);
  least : (h : ℕ) → Contains (take l.place-index l.places) (Stack h) → l.low ≤ h;
  bound : l.low ≤ l.height;
}

use Rattle.std.proofs.Common.{◌≡◌, ℕ, ◌<◌, length}
use Rattle.hierarchy.specs.Cycles.{IsOnCycle}
use Rattle.hierarchy.proofs.cycles.first_on_cycle.Given as goal

abbrev pub invariant-loop-number : goal.invariant-loop-number
invariant-loop-number l = record {
  found : length l.found ≡ length l.graph;
  work : l.work ≡ length l.graph;
  none : (k : ℕ) → k < l.number → IsOnCycle l.graph k → ⊥;
}

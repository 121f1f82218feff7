use Rattle.std.proofs.Common.{ℕ, ◌<◌, List, [], ◌*◌, length, replicate}
use Rattle.thread_regions.specs.Searches.{AddsSpots, PartBelow, IsInsideAt}
use Rattle.thread_regions.proofs.search.search_graph.Given as goal

abbrev pub invariant-loop-n : goal.invariant-loop-n
invariant-loop-n l = record {
  adds : AddsSpots (replicate {A = List ℕ} (5 * length l.graph) []) l.search (PartBelow l.graph l.ends.items l.calls.items l.n);
  inside : (k : ℕ) → k < l.n → IsInsideAt l.graph k;
}

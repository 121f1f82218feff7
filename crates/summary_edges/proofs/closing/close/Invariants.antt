use Rattle.std.proofs.Common.{◌≡◌, length}
use Rattle.summary_edges.proofs.ClosingLemmas.{Closing}
use Rattle.summary_edges.proofs.closing.close.Given as goal

abbrev pub invariant-loop-joins : goal.invariant-loop-joins
invariant-loop-joins l = record {
  closing : Closing l.graph l.levels l.joins.items;
  room : length l.found ≡ length l.graph;
  work : l.work ≡ length l.graph;
}

abbrev pub decreases-loop-joins : goal.decreases-loop-joins
decreases-loop-joins l = length l.joins.items

use Rattle.std.proofs.Common.{◌≡◌, length}
use Rattle.summary_edges.proofs.ClosingLemmas.{Round}
use Rattle.summary_edges.proofs.closing.lead_over.Given as goal

abbrev pub invariant-loop-join : goal.invariant-loop-join
invariant-loop-join l = record {
  round : Round l.graph l.joins l.initial.levels l.levels l.left.items l.join-index l.last l.found;
  room : length l.found ≡ length l.graph;
  work : l.work ≡ length l.graph;
}

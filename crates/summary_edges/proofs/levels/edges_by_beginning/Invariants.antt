use Rattle.std.proofs.Common.{◌≡◌, ℕ, [], length, replicate}
use Rattle.jo_graph.specs.Graphs.{HasEdge as Leads}
use Rattle.summary_edges.specs.Adds.{Adds, FromBelow}
use Rattle.summary_edges.specs.Levels.{way_test}
use Rattle.summary_edges.proofs.EdgeLemmas.{MakesInto}
use Rattle.summary_edges.proofs.levels.edges_by_beginning.Given as goal

abbrev pub invariant-loop-to : goal.invariant-loop-to
invariant-loop-to l = record {
  same_length : length l.rows ≡ length l.graph;
  adds : Adds (λ (p : ℕ × ℕ). Leads (replicate (length l.graph) []) p.0 p.1) (λ (p : ℕ × ℕ). Leads l.rows p.0 p.1) (FromBelow l.to (MakesInto l.graph (way_test l.way)));
}

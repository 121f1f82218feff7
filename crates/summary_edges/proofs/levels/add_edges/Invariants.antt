use Rattle.std.proofs.Common.{◌≡◌, ℕ, length, take}
use Rattle.jo_graph.specs.Graphs.{HasEdge as Leads}
use Rattle.summary_edges.specs.Adds.{Adds, From}
use Rattle.summary_edges.specs.Levels.{way_test, MakesEdge}
use Rattle.summary_edges.proofs.levels.add_edges.Given as goal

abbrev pub invariant-loop-edge : goal.invariant-loop-edge
invariant-loop-edge l = record {
  same_length : length l.rows ≡ length l.initial.rows;
  adds : Adds (λ (p : ℕ × ℕ). Leads l.initial.rows p.0 p.1) (λ (p : ℕ × ℕ). Leads l.rows p.0 p.1) (From (take l.edge-index l.edges) (MakesEdge (way_test l.way) l.count l.to));
}

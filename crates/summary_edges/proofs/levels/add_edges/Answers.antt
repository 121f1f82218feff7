use Rattle.std.proofs.Common.{ℕ, ◌∙◌, refl}
use Rattle.jo_graph.specs.Graphs.{HasEdge as Leads}
use Rattle.summary_edges.specs.Levels.{way_test, MakesEdge}
use Rattle.summary_edges.proofs.AddsLemmas.{over_none, over_item, over_all}
use Rattle.summary_edges.proofs.levels.add_edges.Goals as goal

pub loop-edge-init : goal.loop-edge-init
loop-edge-init c = record { same_length = refl; adds = over_none c.args.edges.now _ _ }

pub loop-edge-preserved : goal.loop-edge-preserved
loop-edge-preserved c = record {
  same_length = c.in_ok-add_edge.ensures.length ∙ c.loop-edge.invariant.same_length;
  adds =
      over_item c.args.edges.now (MakesEdge (way_test c.args.way) c.args.count c.args.to) (λ (p : ℕ × ℕ). Leads c.args.rows.now p.0 p.1) (λ (p : ℕ × ℕ). Leads c.loop-edge.rows p.0 p.1) (λ (p : ℕ × ℕ). Leads c.add_edge.new.rows p.0 p.1)
      c.loop-edge.edge-index c.edge-item.result c.loop-edge-test.true c.edge-item.is c.loop-edge.invariant.adds c.in_ok-add_edge.ensures.ok;
}

pub returns-clause-ok : goal.returns-clause-ok
returns-clause-ok c =
    over_all c.args.edges.now (MakesEdge (way_test c.args.way) c.args.count c.args.to) (λ (p : ℕ × ℕ). Leads c.args.rows.now p.0 p.1) (λ (p : ℕ × ℕ). Leads c.loop-edge.rows p.0 p.1) c.loop-edge.edge-index c.loop-edge-test.false
    c.loop-edge.invariant.adds

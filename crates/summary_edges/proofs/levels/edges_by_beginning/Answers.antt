use Rattle.std.proofs.Common.{◌≡◌, ℕ, List, [], length, replicate, ◌∙◌, sym, ap, subst, arith, rules}
use Rattle.std.proofs.lemmas.List.{length-replicate}
use Rattle.jo_graph.specs.Graphs.{HasEdge as Leads}
use Rattle.summary_edges.specs.Adds.{Adds, FromBelow}
use Rattle.summary_edges.specs.Levels.{way_test}
use Rattle.summary_edges.proofs.AddsLemmas.{below_none, below_step}
use Rattle.summary_edges.proofs.EdgeLemmas.{MakesInto, into_added, edges_done}
use Rattle.summary_edges.proofs.levels.edges_by_beginning.Goals as goal

pub loop-to-init : goal.loop-to-init
loop-to-init c =
    let n = length c.args.graph.now in
    let e : c.in_ok-rows.rows ≡ replicate {A = List ℕ} n [] = c.in_ok-rows.ensures ∙ ap (λ k. replicate {A = List ℕ} k []) c.len-count.ensures in
    record {
      same_length = ap (λ (g : List (List ℕ)). length g) e ∙ length-replicate {A = List ℕ} n [];
      adds =
          subst (λ (g : List (List ℕ)). Adds (λ (p : ℕ × ℕ). Leads (replicate n []) p.0 p.1) (λ (p : ℕ × ℕ). Leads g p.0 p.1) (FromBelow 0 (MakesInto c.args.graph.now (way_test c.args.way)))) (sym e)
          (below_none (λ (p : ℕ × ℕ). Leads (replicate n []) p.0 p.1) (MakesInto c.args.graph.now (way_test c.args.way)));
    }

pub loop-to-preserved : goal.loop-to-preserved
loop-to-preserved c =
    let n = length c.args.graph.now in
    record {
      same_length = c.in_ok-add_edges.ensures.length ∙ c.loop-to.invariant.same_length;
      adds =
          below_step (λ (p : ℕ × ℕ). Leads (replicate n []) p.0 p.1) (λ (p : ℕ × ℕ). Leads c.loop-to.rows p.0 p.1) (λ (p : ℕ × ℕ). Leads c.add_edges.new.rows p.0 p.1) c.loop-to.to (MakesInto c.args.graph.now (way_test c.args.way))
          c.loop-to.invariant.adds
          (into_added c.args.graph.now (way_test c.args.way) c.loop-to.to c.len-count.result c.edges_into.result.now (λ (p : ℕ × ℕ). Leads c.loop-to.rows p.0 p.1) (λ (p : ℕ × ℕ). Leads c.add_edges.new.rows p.0 p.1) c.len-count.ensures
          (search rules) c.in_ok-add_edges.ensures.ok);
    }

pub returns : goal.returns
returns c =
    let all : c.loop-to.to ≡ length c.args.graph.now = omega arith in
    edges_done c.args.graph.now (way_test c.args.way) c.loop-to.rows c.loop-to.to c.loop-to.invariant.same_length all c.loop-to.invariant.adds

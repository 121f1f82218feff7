use Rattle.std.proofs.Common.{List, ℕ, subst, arith}
use Rattle.std.specs.List.{Contains}
use Rattle.hierarchy.specs.Cycles.{AddsEdges}
use Rattle.hierarchy.proofs.CycleLemmas.{edges_more}
use Rattle.hierarchy.proofs.cycles.digraph_of.Goals as goal

pub add_edges-requires-clause-to : goal.add_edges-requires-clause-to
add_edges-requires-clause-to c =
    λ p among. omega (arith, c.requires.inside c.loop-number.number p (subst (λ (ys : List ℕ). Contains ys p) c.edges_at.ensures among), c.loop-number.invariant.same_length)

pub loop-number-preserved : goal.loop-number-preserved
loop-number-preserved c =
    edges_more c.args.graph.now c.loop-number.made c.add_edges.new.graph c.loop-number.number c.loop-number.invariant
    (subst (λ (ys : List ℕ). AddsEdges c.loop-number.made c.add_edges.new.graph c.loop-number.number ys) c.edges_at.ensures c.in_ok-add_edges.ensures)

use Rattle.std.proofs.Common.{◌≡◌, ◌∙◌, ◌+◌, ◌++◌, ◌∷◌, [], List, ℕ, take, sym, ap, subst, arith}
use Rattle.std.proofs.lemmas.List.{take_more}
use Rattle.jo_graph.specs.Graphs.{AddsEdge}
use Rattle.hierarchy.specs.Cycles.{AddsEdges}
use Rattle.hierarchy.proofs.CycleLemmas.{adds_more}
use Rattle.hierarchy.proofs.cycles.add_edges.Goals as goal

pub add-requires-clause-to : goal.add-requires-clause-to
add-requires-clause-to c =
    omega (arith, c.requires.to c.class-item.result (c.loop-class.class-index, c.loop-class-test.true, sym c.class-item.is), c.loop-class.invariant.same_length, c.number.ensures)

pub loop-class-preserved : goal.loop-class-preserved
loop-class-preserved c =
    let i = c.loop-class.class-index in
    let x = c.class-item.result in
    let next = c.args.next.now in
    let more : take (i + 1) next ≡ take i next ++ x ∷ [] = take_more next i x c.loop-class-test.true ∙ ap (λ (y : ℕ). take i next ++ y ∷ []) (sym c.class-item.is) in
    let step : AddsEdge c.loop-class.graph c.add.new.self c.args.number x = subst (λ b. AddsEdge c.loop-class.graph c.add.new.self c.args.number b) c.number.ensures c.in_ok-add.ensures.ok in
    subst (λ (ys : List ℕ). AddsEdges c.args.graph.now c.add.new.self c.args.number ys) (sym more)
    (adds_more c.args.graph.now c.loop-class.graph c.add.new.self c.args.number x (take i next) c.loop-class.invariant step)

use Rattle.std.proofs.Common.{◌≡◌, ◌==◌, ◌+◌, ◌++◌, ◌∷◌, [], take, cond, true, false, sym, ap, ◌∙◌, arith}
use Rattle.std.proofs.lemmas.List.{take_more, append-nil}
use Rattle.std.proofs.lemmas.Bool.{cond-true, cond-false}
use Rattle.dep_nodes.specs.declared.kinds.EdgeKind.TheVariants.{Heap}
use Rattle.dep_nodes.specs.Graphs.{edge}
use Rattle.plain_graph.specs.Building.{heap_edges}
use Rattle.plain_graph.proofs.BuildingLemmas.{heap_edges-push, append_two, and_true}
use Rattle.plain_graph.proofs.sdg.add_heap.Goals as goal
use Rattle.plain_graph.proofs.sdg.add_heap.Goals.{then-eq+in_ok-add_edge+in_ok-add_edge-2, else-eq}

pub loop-before-preserved : goal.loop-before-preserved
loop-before-preserved c =
    let rs = c.args.results.now in
    let i = c.loop-before.before-index in
    let r = c.before-item.result in
    let s = c.args.source in
    let n = c.args.node in
    let old = c.args.edges.now in
    let done = heap_edges (take i rs) s n in
    let both = edge r.node Heap n ∷ edge n Heap r.node ∷ [] in
    let more : take (i + 1) rs ≡ take i rs ++ r ∷ [] = take_more rs i r (omega arith) ∙ ap (λ y. take i rs ++ y ∷ []) (sym c.before-item.is) in
    let grown : heap_edges (take (i + 1) rs) s n ≡ done ++ cond (r.source == s) both [] = ap (λ t. heap_edges t s n) more ∙ heap_edges-push (take i rs) r s n in
    elim c.if-eq.branch [
      | then-eq+in_ok-add_edge+in_ok-add_edge-2 w ↦
          let same : (r.source == s) ≡ true = sym (and_true (r.source == s)) ∙ sym c.eq.ensures ∙ w.if-eq.true in
          w.edges-is ∙ append_two w.add_edge-then-eq.new.edges w.add_edge.new.edges c.loop-before.edges old done (edge r.node Heap n) (edge n Heap r.node) w.in_ok-add_edge-2.ensures w.in_ok-add_edge.ensures c.loop-before.invariant ∙ sym (ap (λ t. old ++ t) (grown ∙ ap (λ t. done ++ t) (cond-true (r.source == s) both [] same)))
      | else-eq w ↦
          let other : (r.source == s) ≡ false = sym (and_true (r.source == s)) ∙ sym c.eq.ensures ∙ w.if-eq.false in
          w.edges-is ∙ c.loop-before.invariant ∙ sym (ap (λ t. old ++ t) (grown ∙ ap (λ t. done ++ t) (cond-false (r.source == s) both [] other) ∙ append-nil done))
    ]

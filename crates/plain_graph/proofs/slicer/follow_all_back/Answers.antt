use Rattle.std.proofs.Common.{◌≡◌, ◌+◌, ◌++◌, ◌∷◌, [], take, Contains, sym, ap, subst, ◌∙◌, arith}
use Rattle.std.proofs.lemmas.List.{take_more, take_all}
use Rattle.std.proofs.lemmas.Bool.{OnFalse_from, OnTrue_at, OnFalse_at, MatchBool-at_false}
use Rattle.dep_nodes.specs.Graphs.{edge}
use Rattle.plain_graph.proofs.SlicerLemmas.{IsFollowed, followed-news, followed-quiet}
use Rattle.plain_graph.proofs.slicer.follow_all_back.Goals as goal
use Rattle.plain_graph.proofs.slicer.follow_all_back.Goals.{then-follow_back, else-follow_back}

pub follow_back-requires-clause-inside : goal.follow_back-requires-clause-inside
follow_back-requires-clause-inside c =
    let es = c.as_slice-edge-items.result.now in
    let e = c.edge-item.result in
    let of_graph : Contains es e = (c.loop-edge.edge-index, omega arith, sym c.edge-item.is) in
    (c.requires.inside e.from e.to e.kind (subst (λ t. Contains t e) c.as_slice-edge-items.ensures of_graph)).0

pub loop-edge-preserved : goal.loop-edge-preserved
loop-edge-preserved c =
    let es = c.as_slice-edge-items.result.now in
    let i = c.loop-edge.edge-index in
    let e = c.edge-item.result in
    let graph = c.args.graph.now in
    let first = c.args.marks.now.items in
    let old = c.loop-edge.marks.items in
    let new = c.follow_back.new.marks.items in
    let more : take (i + 1) es ≡ take i es ++ e ∷ [] = take_more es i e (omega arith) ∙ ap (λ y. take i es ++ y ∷ []) (sym c.edge-item.is) in
    elim c.if-follow_back.branch [
      | then-follow_back w ↦ rw w.news-is (followed-news graph first old new c.loop-edge.news (take i es) (take (i + 1) es) c.loop-edge.invariant c.follow_back.ensures.marking c.follow_back.ensures.grows (OnTrue_at w.if-follow_back.true c.follow_back.ensures.news))
      | else-follow_back w ↦ rw w.news-is (subst (λ t. IsFollowed graph first new c.loop-edge.news t) (sym more)
          (followed-quiet graph first old new c.loop-edge.news (take i es) e c.loop-edge.invariant c.follow_back.ensures.marking c.follow_back.ensures.grows (OnFalse_at w.if-follow_back.false c.follow_back.ensures.none) c.follow_back.ensures.closed))
    ]

pub returns-clause-closed : goal.returns-clause-closed
returns-clause-closed c =
    let es = c.as_slice-edge-items.result.now in
    let all : take c.loop-edge.edge-index es ≡ c.args.graph.now.edges = take_all c.loop-edge.edge-index es (omega arith) ∙ c.as_slice-edge-items.ensures in
    OnFalse_from c.loop-edge.news _ (λ quiet. λ i j kind is. (MatchBool-at_false _ _ quiet c.loop-edge.invariant.2).1 (edge i kind j) (subst (λ t. Contains t (edge i kind j)) (sym all) is))

use Rattle.std.proofs.Common.{◌≡◌, get_or, slice_get, Some, Contains, inl, inr, sym, ap, subst, ◌∙◌, arith}
use Rattle.std.proofs.lemmas.Bool.{cases_lt, both_ways}
use Rattle.std.proofs.lemmas.Option.{slice_get-get_or, get_or_from_slice_get}
use Rattle.dep_nodes.specs.Graphs.{IsWalk, walk_end}
use Rattle.plain_graph.specs.Slices.{IsMarked}
use Rattle.plain_graph.proofs.slicer.find_walk.Goals as goal

pub returns-then-marked-clause-found : goal.returns-then-marked-clause-found
returns-then-marked-clause-found c =
    let n = c.node-item.result in
    let steps = c.in_ok-chain.field-0.steps in
    let here : Contains c.args.from.now n = (c.loop-node.node-index, omega arith, sym c.node-item.is) in
    let start = sym c.in_ok-chain.ensures.start in (
      subst (λ k. Contains c.args.from.now k) start here,
      subst (λ k. IsWalk c.args.graph.now k steps) start c.in_ok-chain.ensures.walk,
      subst (λ k. Contains c.args.criteria.now (walk_end k steps)) start (c.in_ok-chain.ensures.end c.args.criteria.now c.mark.ensures),
    )

pub returns-then-marked-clause-first : goal.returns-then-marked-clause-first
returns-then-marked-clause-first c =
    let n = c.node-item.result in
    let i = c.loop-node.node-index in
    let here : slice_get c.args.from.now i ≡ Some n = slice_get-get_or c.args.from.now i n (omega arith) ∙ ap (λ k. Some k) (sym c.node-item.is) in
    (i, here ∙ ap (λ k. Some k) (sym c.in_ok-chain.ensures.start), c.loop-node.invariant)

pub loop-node-preserved : goal.loop-node-preserved
loop-node-preserved c = λ j m below found walks.
    let n = c.node-item.result in
    let i = c.loop-node.node-index in
    elim (cases_lt j i) [
      | inl before ↦ c.loop-node.invariant j m before found walks
      | inr past ↦
          let same : j ≡ i = omega arith in
          let item : n ≡ m = c.node-item.is ∙ ap (λ k. get_or c.args.from.now k n) (sym same) ∙ get_or_from_slice_get c.args.from.now j m n found in
          let marked = subst (λ k. IsMarked c.mark.new.self k) (sym item) ((c.mark.ensures.marked m).1 walks) in
          both_ways c.marked.result c.if-marked.false (c.marked.ensures.1 marked)
    ]

pub returns-clause-none : goal.returns-clause-none
returns-clause-none c = λ n among walks.
    let found : slice_get c.args.from.now among.0 ≡ Some n = slice_get-get_or c.args.from.now among.0 n among.1 ∙ ap (λ k. Some k) among.2 in
    c.loop-node.invariant among.0 n (omega (arith, among.1)) found walks

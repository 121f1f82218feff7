use Rattle.std.proofs.Common.{[], get_or, Contains, ◌∙◌, ap, subst}
use Rattle.summary_edges.specs.Adds.{Adds, From}
use Rattle.summary_edges.specs.Levels.{JoinsInside}
use Rattle.summary_edges.proofs.AddsLemmas.{over_none, over_item, over_all}
use Rattle.summary_edges.proofs.joins.join_returns.Goals as goal

pub loop-to-init : goal.loop-to-init
loop-to-init c = over_none c.at-to-items.result.now _ _

pub loop-to-preserved : goal.loop-to-preserved
loop-to-preserved c =
    over_item c.at-to-items.result.now (JoinsInside c.args.graph.now c.args.sides.now c.args.out) (Contains c.args.joins.now.items) (Contains c.loop-to.joins.items) (Contains c.join_return_inside.new.joins.items) c.loop-to.to-index
    c.to-item.result c.loop-to-test.true c.to-item.is c.loop-to.invariant c.in_ok-join_return_inside.ensures

pub returns : goal.returns
returns c =
    subst (λ xs. Adds (Contains c.args.joins.now.items) (Contains c.loop-to.joins.items) (From xs (JoinsInside c.args.graph.now c.args.sides.now c.args.out)))
    (c.at-to-items.ensures ∙ ap (λ k. get_or c.args.sides.now.returns k []) c.number.ensures)
    (over_all c.at-to-items.result.now (JoinsInside c.args.graph.now c.args.sides.now c.args.out) (Contains c.args.joins.now.items) (Contains c.loop-to.joins.items) c.loop-to.to-index c.loop-to-test.false c.loop-to.invariant)

use Rattle.std.proofs.Common.{Contains}
use Rattle.summary_edges.specs.Levels.{JoinsFrom}
use Rattle.summary_edges.proofs.AddsLemmas.{over_none, over_item, over_all}
use Rattle.summary_edges.proofs.JoinLemmas.{to_row}
use Rattle.summary_edges.proofs.joins.join_return.Goals as goal

pub loop-from-init : goal.loop-from-init
loop-from-init c = over_none c.at-from-items.result.now _ _

pub loop-from-preserved : goal.loop-from-preserved
loop-from-preserved c =
    over_item c.at-from-items.result.now (JoinsFrom c.args.graph.now c.args.sides.now c.args.out c.args.to) (Contains c.args.joins.now.items) (Contains c.loop-from.joins.items) (Contains c.join_from.new.joins.items) c.loop-from.from-index
    c.from-item.result c.loop-from-test.true c.from-item.is c.loop-from.invariant c.in_ok-join_from.ensures

pub returns : goal.returns
returns c =
    to_row c.args.graph.now c.args.sides.now c.args.out c.args.to (Contains c.args.joins.now.items) (Contains c.loop-from.joins.items) c.len.result c.in-Some.row c.node.result.now c.at-from-items.result.now c.len.ensures c.node.ensures
    c.in-Some.ensures.row c.at-from-items.ensures
    (over_all c.at-from-items.result.now (JoinsFrom c.args.graph.now c.args.sides.now c.args.out c.args.to) (Contains c.args.joins.now.items) (Contains c.loop-from.joins.items) c.loop-from.from-index c.loop-from-test.false
    c.loop-from.invariant)

use Rattle.std.proofs.lemmas.Result.{err_from_is_err_and}
use Rattle.sdg.specs.TargetLinks.{TargetLink}
use Rattle.sdg.proofs.GrowthLemmas.{over_none, over_item, over_all, over_refused}
use Rattle.sdg.proofs.target_links.add_targets.Goals as goal

pub loop-target-init : goal.loop-target-init
loop-target-init c = over_none c.args.targets.now (TargetLink c.args.node.now) c.args.graph.now

pub loop-target-preserved : goal.loop-target-preserved
loop-target-preserved c =
    over_item c.args.targets.now (TargetLink c.args.node.now) c.args.graph.now c.loop-target.graph c.add_target.new.graph c.loop-target.target-index c.target-item.result c.loop-target-test.true c.target-item.is c.loop-target.invariant c.in_ok-add_target.ensures

pub returns-in_err-add_target : goal.returns-in_err-add_target
returns-in_err-add_target c =
    let p = err_from_is_err_and c.from_residual.result c.from_residual.ensures.1 in
    rw (p.1, p.2) (over_refused c.args.targets.now (TargetLink c.args.node.now) _ c.args.graph.now c.loop-target.graph c.add_target.new.graph c.loop-target.target-index c.target-item.result c.loop-target-test.true c.target-item.is c.loop-target.invariant c.in_err-add_target.ensures)

pub returns : goal.returns
returns c = over_all c.args.targets.now (TargetLink c.args.node.now) c.args.graph.now c.loop-target.graph c.loop-target.target-index c.loop-target-test.false c.loop-target.invariant

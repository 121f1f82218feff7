use Rattle.std.proofs.lemmas.Result.{err_from_is_err_and}
use Rattle.sdg.specs.FlowLinks.{FlowStepLink}
use Rattle.sdg.proofs.GrowthLemmas.{over_none, over_number, over_all, number_refused}
use Rattle.sdg.proofs.flow_links.add_steps.Goals as goal

pub loop-to-init : goal.loop-to-init
loop-to-init c = over_none c.args.successors.now (FlowStepLink c.args.flow.now c.args.instance c.args.from) c.args.graph.now

pub loop-to-preserved : goal.loop-to-preserved
loop-to-preserved c =
    over_number c.args.successors.now (FlowStepLink c.args.flow.now c.args.instance c.args.from) c.args.graph.now c.loop-to.graph c.add_step.new.graph c.loop-to.to-index c.loop-to-test.true c.loop-to.invariant c.in_ok-add_step.ensures

pub returns-in_err-add_step : goal.returns-in_err-add_step
returns-in_err-add_step c =
    let p = err_from_is_err_and c.from_residual.result c.from_residual.ensures.1 in
    rw (p.1, p.2) (number_refused c.args.successors.now (FlowStepLink c.args.flow.now c.args.instance c.args.from) _ c.args.graph.now c.loop-to.graph c.add_step.new.graph c.loop-to.to-index c.loop-to-test.true c.loop-to.invariant c.in_err-add_step.ensures)

pub returns : goal.returns
returns c = over_all c.args.successors.now (FlowStepLink c.args.flow.now c.args.instance c.args.from) c.args.graph.now c.loop-to.graph c.loop-to.to-index c.loop-to-test.false c.loop-to.invariant

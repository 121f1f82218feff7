use Rattle.sdg.specs.Growth.{From}
use Rattle.sdg.specs.FlowLinks.{FlowStepLink, FlowFrom}
use Rattle.sdg.proofs.GrowthLemmas.{added_alike}
use Rattle.sdg.proofs.FlowLinkLemmas.{from_alike}
use Rattle.sdg.proofs.flow_links.add_from.Goals as goal

pub returns : goal.returns
returns c =
    let flow = c.args.flow.now in
    let successors = c.successors-successors.result.now in
    added_alike c.add_steps.result c.args.graph.now c.add_steps.new.graph (From successors (FlowStepLink flow c.args.instance c.args.from)) (FlowFrom flow c.args.instance c.args.from) c.add_steps.ensures
    (from_alike flow c.args.instance c.args.from successors c.successors-successors.ensures.successors)

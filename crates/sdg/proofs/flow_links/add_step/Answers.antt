use Rattle.std.proofs.Common.{◌≡◌}
use Rattle.sdg.specs.Links.{link, by_flow}
use Rattle.sdg.specs.FlowLinks.{FlowStepLink}
use Rattle.sdg.proofs.GrowthLemmas.{added_alike}
use Rattle.sdg.proofs.FlowLinkLemmas.{step_alike}
use Rattle.sdg.proofs.flow_links.add_step.Goals as goal

pub returns : goal.returns
returns c =
    let begin = c.node_of-begin.result in
    let end = c.node_of-end.result in
    added_alike c.add_flow_between.result c.args.graph.now c.add_flow_between.new.self (λ l. l ≡ link begin by_flow end) (FlowStepLink c.args.flow.now c.args.instance c.args.from c.args.to) c.add_flow_between.ensures
    (step_alike c.args.flow.now c.args.instance c.args.from c.args.to begin end c.node_of-begin.ensures.number c.node_of-begin.ensures.kind c.node_of-end.ensures.number c.node_of-end.ensures.kind)

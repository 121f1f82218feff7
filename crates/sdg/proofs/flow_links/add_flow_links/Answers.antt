use Rattle.std.proofs.Common.{length}
use Rattle.jo_prog.specs.TypingPaths.{HasHeightAt}
use Rattle.dependence.specs.FlowGraph.{EdgeOf}
use Rattle.fact_sets.specs.Seen.{Known, instance_seen}
use Rattle.sdg.specs.Growth.{FromBelow}
use Rattle.sdg.specs.FlowLinks.{FlowFrom, Within}
use Rattle.sdg.proofs.NamedLemmas.{seen_added}
use Rattle.sdg.proofs.FlowLinkLemmas.{flow_alike}
use Rattle.sdg.proofs.flow_links.add_flow_links.Goals as goal

pub returns : goal.returns
returns g c = λ program list key is_flow tells named is_key.
    let lists = c.args.facts.now in
    let flow = c.args.flow.now in
    let once = c.instances-count.ensures.once in
    let i = instance_seen list key in
    seen_added list tells lists.instances once c.args.graph.now c.add_numbered.new.graph (FromBelow (length flow) (FlowFrom flow c.args.instance))
    (Within i (EdgeOf program (Known list lists) (HasHeightAt program key.method) i)) named
    (flow_alike list tells lists once program flow c.args.instance key is_key is_flow c.args.graph.now) c.add_numbered.result c.add_numbered.ensures

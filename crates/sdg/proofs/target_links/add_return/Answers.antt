use Rattle.sdg.proofs.TargetLemmas.{return_added}
use Rattle.sdg.proofs.target_links.add_return.Goals as goal

pub returns : goal.returns
returns c =
    return_added c.add_flow_between.result c.args.graph.now c.add_edge_between.new.self c.add_flow_between.new.self c.args.instance c.args.pc c.args.target c.node_at-node.result c.node_at.result c.node_at-2.result
    c.node_at-node.ensures c.node_at.ensures c.node_at-2.ensures c.in_ok-add_edge_between.ensures c.add_flow_between.ensures

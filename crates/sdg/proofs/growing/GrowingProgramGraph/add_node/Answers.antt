use Rattle.std.proofs.Common.{refl}
use Rattle.dep_nodes.proofs.GrowingLemmas.{lacks}
use Rattle.sdg.proofs.GrowthLemmas.{node_growing}
use Rattle.sdg.proofs.growing.GrowingProgramGraph.add_node.Goals as goal

pub invariant_of-self-in-Ok-add_node : goal.invariant_of-self-in-Ok-add_node
invariant_of-self-in-Ok-add_node c =
    let nodes = c.self.inside.nodes in
    node_growing c.self.inside.graph c.add_node.new.self nodes c.push_new.new.self c.args.name c.args.node c.self.invariant c.in-Ok-add_node.ensures.ok c.in-Ok.ensures.ok
    (lacks c.has.result nodes nodes c.args.node refl c.has.ensures c.if-has.false)

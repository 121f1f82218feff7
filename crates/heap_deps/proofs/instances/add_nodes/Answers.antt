use Rattle.fact_sets.specs.Seen.{Known, instance_seen}
use Rattle.heap_deps.specs.Accesses.{NodeMakes}
use Rattle.heap_deps.proofs.GrowLemmas.{below_step}
use Rattle.heap_deps.proofs.instances.add_nodes.Goals as goal

pub loop-k-preserved : goal.loop-k-preserved
loop-k-preserved g c =
    below_step c.args.graph.now c.loop-k.graph c.add_node.new.graph c.loop-k.k (NodeMakes c.args.program.now c.args.labels.now (Known g.X.Contexts.list c.args.facts.now) (instance_seen g.X.Contexts.list c.args.key.now) c.args.flow.now c.args.first)
    c.loop-k.invariant c.in_ok-add_node.ensures

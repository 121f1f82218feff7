use Rattle.fact_sets.specs.Seen.{Known, instance_seen}
use Rattle.heap_deps.specs.Adds.{FromBelow}
use Rattle.heap_deps.specs.Items.{Grows}
use Rattle.heap_deps.specs.Accesses.{NodeMakes}
use Rattle.heap_deps.proofs.instances.add_nodes.Given as goal

abbrev pub invariant-loop-k : goal.invariant-loop-k
invariant-loop-k g l = Grows l.initial.graph l.graph (FromBelow l.k (NodeMakes l.program l.labels (Known g.X.Contexts.list l.facts) (instance_seen g.X.Contexts.list l.key) l.flow l.first))

use Rattle.std.proofs.Common.{take}
use Rattle.fact_sets.specs.Seen.{Known, instance_seen}
use Rattle.heap_deps.specs.Adds.{From}
use Rattle.heap_deps.specs.Items.{Grows}
use Rattle.heap_deps.specs.Accesses.{UseMakes}
use Rattle.heap_deps.proofs.instances.add_uses.Given as goal

abbrev pub invariant-loop-u : goal.invariant-loop-u
invariant-loop-u g l = Grows l.initial.graph l.graph (From (take l.u-index l.uses) (UseMakes (Known g.X.Contexts.list l.facts) (instance_seen g.X.Contexts.list l.key) l.typed l.flow l.first))

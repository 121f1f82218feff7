use Rattle.heap_deps.specs.Adds.{FromBelow}
use Rattle.heap_deps.specs.Items.{Grows}
use Rattle.heap_deps.specs.FlowSets.{NumberMakes}
use Rattle.heap_deps.proofs.accesses.add_accesses.Given as goal

abbrev pub invariant-loop-n : goal.invariant-loop-n
invariant-loop-n g l = Grows l.initial.graph l.graph (FromBelow l.n (NumberMakes l.program l.labels g.X.Contexts.list l.facts l.typings l.flows))

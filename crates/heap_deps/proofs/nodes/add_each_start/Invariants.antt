use Rattle.std.proofs.Common.{take}
use Rattle.heap_deps.specs.Adds.{From}
use Rattle.heap_deps.specs.Items.{Grows}
use Rattle.heap_deps.specs.ObjectCells.{OfObject}
use Rattle.heap_deps.specs.Accesses.{IsStartBy}
use Rattle.heap_deps.proofs.nodes.add_each_start.Given as goal

abbrev pub invariant-loop-id : goal.invariant-loop-id
invariant-loop-id g l = Grows l.initial.graph l.graph (From (take l.id-index l.held) (OfObject g.X.Contexts.list l.facts.objects (IsStartBy l.program l.method l.op l.named l.resolved l.node)))

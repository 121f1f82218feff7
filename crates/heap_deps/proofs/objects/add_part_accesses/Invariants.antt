use Rattle.std.proofs.Common.{take}
use Rattle.heap_deps.specs.Adds.{From}
use Rattle.heap_deps.specs.Items.{Grows}
use Rattle.heap_deps.specs.ObjectCells.{OfObject, IsPartAccess}
use Rattle.heap_deps.proofs.objects.add_part_accesses.Given as goal

abbrev pub invariant-loop-id : goal.invariant-loop-id
invariant-loop-id g l = Grows l.initial.graph l.graph (From (take l.id-index l.held) (OfObject g.X.Contexts.list l.facts.objects (IsPartAccess l.node l.access.part l.access.write)))

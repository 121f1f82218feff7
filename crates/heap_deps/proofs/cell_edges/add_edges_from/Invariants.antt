use Rattle.std.proofs.Common.{take}
use Rattle.heap_deps.specs.Adds.{From}
use Rattle.heap_deps.specs.Items.{Grows}
use Rattle.heap_deps.specs.CellEdges.{heap_to}
use Rattle.heap_deps.proofs.cell_edges.add_edges_from.Given as goal

abbrev pub invariant-loop-to : goal.invariant-loop-to
invariant-loop-to l = Grows l.initial.graph l.graph (From (take l.to-index l.readers) (heap_to l.from))

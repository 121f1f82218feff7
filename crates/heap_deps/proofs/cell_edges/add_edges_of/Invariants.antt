use Rattle.std.proofs.Common.{take}
use Rattle.heap_deps.specs.Adds.{From}
use Rattle.heap_deps.specs.Items.{Grows}
use Rattle.heap_deps.specs.CellEdges.{EdgesBetween}
use Rattle.heap_deps.proofs.cell_edges.add_edges_of.Given as goal

abbrev pub invariant-loop-ends : goal.invariant-loop-ends
invariant-loop-ends l = Grows l.initial.graph l.graph (From (take l.ends-index l.all) EdgesBetween)

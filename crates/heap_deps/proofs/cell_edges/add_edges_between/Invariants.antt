use Rattle.std.proofs.Common.{take}
use Rattle.heap_deps.specs.Adds.{From}
use Rattle.heap_deps.specs.Items.{Grows}
use Rattle.heap_deps.specs.CellEdges.{EdgesFrom}
use Rattle.heap_deps.proofs.cell_edges.add_edges_between.Given as goal

abbrev pub invariant-loop-from : goal.invariant-loop-from
invariant-loop-from l = Grows l.initial.graph l.graph (From (take l.from-index l.ends.writers) (EdgesFrom l.ends.readers))

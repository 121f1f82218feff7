use Rattle.std.proofs.Common.{take}
use Rattle.heap_deps.specs.CellEdges.{AreEndsOf}
use Rattle.heap_deps.proofs.cell_edges.ends_of.Given as goal

abbrev pub invariant-loop-at : goal.invariant-loop-at
invariant-loop-at l = AreEndsOf (take l.at-index l.cells) l.all

use Rattle.std.proofs.Common.{◌≡◌, length, take, replicate}
use Rattle.plain_graph.specs.declared.slicer.Mark.TheVariants.{Unmarked}
use Rattle.plain_graph.proofs.slicer.clear.Given as goal

abbrev pub invariant-loop-mark : goal.invariant-loop-mark
invariant-loop-mark l = (length l.mark-items ≡ length l.fn.marks.items) × (take l.mark-index l.mark-items ≡ replicate l.mark-index Unmarked)

use Rattle.std.proofs.Common.{◌≡◌, ◌++◌, Some, map, length, suc}
use Rattle.jvm_values.specs.Heaps.{content_of, contents_up}
use Rattle.jvm_values.proofs.heap.first_fields.Given as goal

abbrev pub invariant-loop-left : goal.invariant-loop-left
invariant-loop-left l = map content_of l.fields.items ++ contents_up l.program l.left (Some l.above) ≡ contents_up l.program (suc (length l.program.classes)) (Some l.fn.class)

abbrev pub decreases-loop-left : goal.decreases-loop-left
decreases-loop-left l = l.left

use Rattle.std.proofs.Common.{◌≡◌}
use Rattle.std.specs.Prelude.{replicate}
use Rattle.jo_prog.specs.Machine.{string_object}
use Rattle.jvm_values.proofs.heap.Heap.of_strings.Given as goal

abbrev pub invariant-loop : goal.invariant-loop
invariant-loop l = l.heap ≡ replicate l.counter string_object

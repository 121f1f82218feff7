use Rattle.std.proofs.Common.{◌≡◌, map, drop}
use Rattle.machine.specs.Heaps.{field_content}
use Rattle.jvm_values.specs.Heaps.{content_of}
use Rattle.jvm_values.proofs.heap.value_in.Given as goal

abbrev pub invariant-loop-own : goal.invariant-loop-own
invariant-loop-own l = field_content (map content_of (drop l.own-index l.fields)) l.field ≡ field_content (map content_of l.fields) l.field

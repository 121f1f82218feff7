use Rattle.std.proofs.Common.{◌≡◌, ◌++◌, map, drop, slice_get}
use Rattle.std.specs.List.{flat_map}
use Rattle.machine.specs.Heaps.{first_content}
use Rattle.jvm_values.specs.Heaps.{content_of}
use Rattle.jvm_values.proofs.heap.add_own_fields.Given as goal

abbrev pub invariant-loop-field : goal.invariant-loop-field
invariant-loop-field l = map content_of l.fields.items ++ flat_map (λ f. first_content f (slice_get l.program.fields f)) (drop l.field-index l.field-items) ≡ map content_of l.initial.fields.items ++ flat_map (λ f. first_content f (slice_get l.program.fields f)) l.field-items

use Rattle.std.proofs.Common.{◌≡◌, ◌+◌, drop}
use Rattle.std.specs.List.{position_or_len}
use Rattle.jvm_values.specs.Heaps.{is_field}
use Rattle.jvm_values.proofs.heap.place_of.Given as goal

abbrev pub invariant-loop-place : goal.invariant-loop-place
invariant-loop-place l = l.place + position_or_len (is_field l.field) (drop l.place l.fields) ≡ position_or_len (is_field l.field) l.fields

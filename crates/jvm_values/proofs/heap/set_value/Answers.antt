use Rattle.std.proofs.Common.{rules, ◌≡◌, slice_set}
use Rattle.std.specs.List.{position_or_len}
use Rattle.jvm_values.specs.Heaps.{is_field}
use Rattle.jvm_values.proofs.HeapLemmas.{value_set}
use Rattle.jvm_values.proofs.heap.set_value.Goals as goal

pub returns : goal.returns
returns c =
    let fields = c.args.fields.now.items in
    let is : c.set.new.items.items ≡ slice_set fields (position_or_len (is_field c.args.field) fields) (record { field = c.args.field; value = c.args.value }) = search rules in
    rw is (value_set fields c.args.field c.args.value)

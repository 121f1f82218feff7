use Rattle.std.proofs.Common.{rules, ◌≡◌, ◌<◌, length, get_or}
use Rattle.machine.specs.Heaps.{element_written}
use Rattle.jvm_values.specs.Values.{value_of}
use Rattle.jvm_values.proofs.HeapLemmas.{object_changed}
use Rattle.jvm_values.proofs.heap.Heap.set_element.Goals as goal

pub returns-then-place-len : goal.returns-then-place-len
returns-then-place-len c =
    let os = c.self.inside.objects.items in
    let was = c.index_mut-object.result.now in
    let same : c.len.result ≡ length os = search rules in
    let within : c.args.address < c.len.result = search rules in
    let read : was ≡ get_or os c.args.address was = search rules in
    rw (← c.self.view_is) (object_changed os c.len.result c.args.address was c.set_element.new.self (λ o. element_written o c.args.index (value_of c.args.value)) same within read c.set_element.ensures)

use Rattle.std.proofs.Common.{refl}
use Rattle.jvm_values.specs.Values.{value_of}
use Rattle.jvm_values.proofs.HeapLemmas.{replicated}
use Rattle.jvm_values.proofs.heap.array_of.Goals as goal

pub returns : goal.returns
returns c = λ program.
    rw (c.in_ok-own.ensures, c.in_ok-elements.ensures, c.new.ensures.items, replicated value_of c.count.result c.first_element.result, c.count.ensures.is, c.first_element.ensures) refl

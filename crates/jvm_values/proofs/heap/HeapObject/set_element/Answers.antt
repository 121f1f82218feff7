use Rattle.std.proofs.Common.{refl}
use Rattle.std.proofs.lemmas.List.{map-set}
use Rattle.jvm_values.specs.Values.{value_of}
use Rattle.jvm_values.proofs.heap.HeapObject.set_element.Goals as goal

pub returns : goal.returns
returns c = rw (c.set.ensures, map-set value_of c.args.self.now.elements.items c.args.index c.args.value) refl

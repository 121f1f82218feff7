use Rattle.std.proofs.Common.{◌∙◌, sym, ap, map}
use Rattle.std.proofs.lemmas.List.{take-map}
use Rattle.jvm_values.specs.Heaps.{object_of}
use Rattle.jvm_values.proofs.heap.Heap.take_back.Goals as goal

pub returns : goal.returns
returns c =
    rw (← c.self.view_is) (ap (map object_of) c.truncate.ensures.items ∙ sym (take-map object_of c.args.address c.self.inside.objects.items))

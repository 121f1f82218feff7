use Rattle.std.proofs.Common.{rules, ◌≡◌, ◌∙◌, ◌++◌, ◌∷◌, [], ap}
use Rattle.std.specs.Prelude.{List}
use Rattle.std.proofs.lemmas.List.{replicate_more}
use Rattle.jo_prog.specs.Machine.{HeapObject, string_object}
use Rattle.jvm_values.proofs.heap.Heap.of_strings.Goals as goal

pub loop-preserved : goal.loop-preserved
loop-preserved c =
    let added : c.add.new.self ≡ c.loop.heap ++ string_object ∷ [] = search rules in
    added ∙ ap (λ (heap : List HeapObject). heap ++ string_object ∷ []) c.loop.invariant ∙ replicate_more c.loop.counter string_object

use Rattle.std.proofs.Common.{◌∙◌, sym, ap, ◌++◌, ◌∷◌, [], List}
use Rattle.jo_prog.specs.Machine.{HeapObject, no_arguments}
use Rattle.jvm_step.proofs.StartLemmas.{heap_with, heap_without}
use Rattle.jvm_step.proofs.starts.first_heap.Goals as goal

pub returns-then-not-takes_arguments : goal.returns-then-not-takes_arguments
returns-then-not-takes_arguments c =
    c.in_ok-heap.ensures
    ∙ heap_without c.args.program.now c.args.labels.now c.count.result c.count.ensures (sym c.takes_arguments.ensures ∙ c.if-not-takes_arguments.true)

pub returns : goal.returns
returns c =
    c.in_ok-add_arguments.ensures
    ∙ ap (λ (heap : List HeapObject). heap ++ no_arguments ∷ []) c.in_ok-heap.ensures
    ∙ heap_with c.args.program.now c.args.labels.now c.count.result c.count.ensures (sym c.takes_arguments.ensures ∙ c.if-not-takes_arguments.false)

use Rattle.std.proofs.Common.{◌≡◌, ◌∙◌, ap, map}
use Rattle.jo_prog.specs.declared.calls.Taken.TheVariants.{Start, Join}
use Rattle.machine.specs.Invocation.{callee}
use Rattle.jvm_values.specs.Values.{value_of}
use Rattle.jvm_calls.specs.Invokes.{info_in, marked_in, starting, joining}
use Rattle.jvm_calls.proofs.InvokeLemmas.{taken_start, taken_join}
use Rattle.jvm_calls.proofs.invocation.by_taken.Goals as goal

pub returns-in-Start : goal.returns-in-Start
returns-in-Start c = λ current op method owner.
    let vs = map value_of c.args.values.now in
    let heap = c.args.heap.now in
    let called = callee c.args.program.now c.args.labels.now current op owner method in
    let is : c.args.taken ≡ Start = c.in-Start.is in
    rw is (c.starts.ensures vs c.args.labels.now current op method owner ∙ ap (starting called (info_in heap) (marked_in heap)) c.one_object.ensures ∙ taken_start called (info_in heap) (marked_in heap) vs)

pub returns-in-Join : goal.returns-in-Join
returns-in-Join c = λ current op method owner.
    let vs = map value_of c.args.values.now in
    let heap = c.args.heap.now in
    let called = callee c.args.program.now c.args.labels.now current op owner method in
    let is : c.args.taken ≡ Join = c.in-Join.is in
    rw is (c.joins.ensures vs ∙ ap joining c.one_object-in-Join.ensures ∙ taken_join called (info_in heap) (marked_in heap) vs)

use Rattle.std.proofs.Common.{◌≡◌, ◌∙◌, sym, ap, refl, true, false, map}
use Rattle.jo_prog.specs.declared.calls.Taken.{Taken}
use Rattle.jo_prog.specs.Calls.{takes}
use Rattle.machine.specs.Invocation.{by_taken}
use Rattle.jvm_values.specs.Values.{value_of}
use Rattle.jvm_calls.specs.Invokes.{info_in, marked_in, callee_of}
use Rattle.jvm_calls.proofs.invocation.on_object.Goals as goal

pub returns-then-not-implements : goal.returns-then-not-implements
returns-then-not-implements c =
    let test : (callee_of c.args.program.now c.args.labels.now c.args.call.now).implements (info_in c.args.heap.now c.args.address) ≡ false =
    sym (c.implements.ensures c.args.labels.now) ∙ c.if-not-implements.true in
    rw test refl

pub returns : goal.returns
returns c =
    let call = c.args.call.now in
    let called = callee_of c.args.program.now c.args.labels.now call in
    let heap = c.args.heap.now in
    let test : called.implements (info_in heap c.args.address) ≡ true = sym (c.implements.ensures c.args.labels.now) ∙ c.if-not-implements.false in
    let taken : c.taken_by-taken.result ≡ called.taken (info_in heap c.args.address) =
    c.taken_by-taken.ensures ∙ ap (takes c.args.program.now call.op call.current call.method) c.class.ensures in
    rw test
    (c.by_taken.ensures call.current call.op call.method call.owner.now
    ∙ ap (λ (t : Taken). by_taken called (info_in heap) (marked_in heap) t (map value_of c.args.values.now)) taken)

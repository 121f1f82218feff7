use Rattle.std.proofs.Common.{◌∙◌, ap, Bool}
use Rattle.jo_prog.specs.declared.calls.Taken.{Taken}
use Rattle.jo_prog.specs.Calls.{run_of}
use Rattle.machine.specs.Invocation.{begun}
use Rattle.jvm_calls.specs.Invokes.{marked_in}
use Rattle.jvm_calls.proofs.invocation.starts.Goals as goal

pub returns-in-Some : goal.returns-in-Some
returns-in-Some c = λ all labels current op method owner.
    let program = c.args.program.now in
    let a = c.in-Some.address in
    rw c.in-Some.is
    (c.begun.ensures all
    ∙ ap (λ (b : Bool). begun a b c.run_of.result) c.was_started.ensures
    ∙ ap (λ (run : Taken). begun a (marked_in c.args.heap.now a) run) (c.run_of.ensures ∙ ap (run_of program) c.class.ensures))

use Rattle.std.proofs.Common.{◌∙◌, sym, ap, refl, ◌∷◌, drop, None, option_map}
use Rattle.machine.specs.Steps.{at_pc, entered}
use Rattle.jvm_frames.specs.Frames.{frame_of}
use Rattle.jvm_step.specs.States.{state_of, threads_of}
use Rattle.jvm_step.proofs.CallLemmas.{framed_step}
use Rattle.jvm_step.proofs.StateLemmas.{same_state}
use Rattle.jvm_step.proofs.states.State.enter.Goals as goal

pub returns-in-Ok : goal.returns-in-Ok
returns-in-Ok c = λ f below top.
    let s = state_of c.args.self.now in
    let caller = at_pc f f.pc (drop c.args.count f.stack) in
    let new = frame_of c.in-Ok-Some.frame in
    ap (entered s c.args.place caller below) (sym (c.in-Ok-Some.ensures f below top) ∙ ap (option_map frame_of) c.in-Ok-Some.field-0-is)
    ∙ framed_step s c.args.place (new ∷ caller ∷ below) None None (threads_of c.enter_at.new.threads.items) (c.in-Ok.ensures.ok f below top)

pub returns-in-Err-enter_at : goal.returns-in-Err-enter_at
returns-in-Err-enter_at c = λ f below top. same_state refl refl refl c.in-Err-enter_at.ensures.err

pub returns-in-Ok-None : goal.returns-in-Ok-None
returns-in-Ok-None c = λ f below top.
    let s = state_of c.args.self.now in
    (ap (entered s c.args.place (at_pc f f.pc (drop c.args.count f.stack)) below) (sym (c.in-Ok-None.ensures f below top) ∙ ap (option_map frame_of) c.in-Ok-None.field-0-is), refl)

use Rattle.std.proofs.Common.{◌∙◌, sym, ap, refl, ◌∷◌, drop, option_map}
use Rattle.machine.specs.Steps.{at_pc, thread_begun}
use Rattle.jvm_frames.specs.Frames.{frame_of}
use Rattle.jvm_step.specs.States.{state_of, threads_of}
use Rattle.jvm_step.proofs.CallLemmas.{begun_after}
use Rattle.jvm_step.proofs.states.State.begin.Goals as goal

pub returns-in-Ok : goal.returns-in-Ok
returns-in-Ok c = λ f below top.
    let s = state_of c.args.self.now in
    let frames = at_pc f c.args.next (drop c.args.count f.stack) ∷ below in
    ap (thread_begun s c.args.place frames c.args.object) (sym c.in-Ok-Some.ensures ∙ ap (option_map frame_of) c.in-Ok-Some.field-0-is)
    ∙ begun_after s c.args.place frames c.args.object (frame_of c.in-Ok-Some.frame) f below (state_of c.add_thread.new.self) c.start.new.self (threads_of c.jump_at.new.threads.items) top c.in-Ok.ensures.ok c.start.ensures (c.jump_at.ensures f below)

pub returns-in-Err-add_thread : goal.returns-in-Err-add_thread
returns-in-Err-add_thread c = λ f below top. c.in-Err-add_thread.ensures.err

pub returns-in-Ok-None : goal.returns-in-Ok-None
returns-in-Ok-None c = λ f below top.
    let s = state_of c.args.self.now in
    (ap (thread_begun s c.args.place (at_pc f c.args.next (drop c.args.count f.stack) ∷ below) c.args.object) (sym c.in-Ok-None.ensures ∙ ap (option_map frame_of) c.in-Ok-None.field-0-is), refl)

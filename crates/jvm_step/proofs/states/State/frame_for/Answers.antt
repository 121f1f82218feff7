use Rattle.std.proofs.Common.{rules, ◌≡◌, ◌∙◌, ap, List, take, reverse, Option, Some, None, slice_get}
use Rattle.std.proofs.lemmas.Option.{none-some, same_Some}
use Rattle.jo_prog.specs.Machine.{Frame}
use Rattle.machine.specs.Steps.{new_frame}
use Rattle.jvm_values.specs.Values.{popped_values}
use Rattle.jvm_frames.specs.declared.threads.Thread.{Thread}
use Rattle.jvm_frames.specs.Frames.{frame_of}
use Rattle.jvm_step.specs.States.{state_of, threads_of, frames_at}
use Rattle.jvm_step.specs.Fetches.{values_of}
use Rattle.jvm_step.proofs.CallLemmas.{in_order, found_top}
use Rattle.jvm_step.proofs.states.State.frame_for.Goals as goal

pub returns-in_ok-frame-in-Some : goal.returns-in_ok-frame-in-Some
returns-in_ok-frame-in-Some c = λ f below top.
    let s = state_of c.args.self.now in
    let at : List Thread → Option Frame = λ ts. slice_get (frames_at (slice_get (threads_of ts) c.args.place)) 0 in
    let g = frame_of c.in-Some.caller.now in
    let same : g ≡ f = same_Some g f (found_top s.threads c.args.place (Some g) (c.in-Some.ensures ∙ ap at c.as_slice.ensures.value) f below top) in
    let values = c.top_values-values.result.now in
    let taken : popped_values values ≡ take c.args.count g.stack = search rules in
    c.in_ok-frame-in-Some.ensures
    ∙ ap (new_frame c.args.program.now c.args.method) (in_order values ∙ ap reverse taken ∙ ap (λ (h : Frame). values_of c.args.count h) same)

pub returns-in-None : goal.returns-in-None
returns-in-None c = λ f below top.
    let s = state_of c.args.self.now in
    let at : List Thread → Option Frame = λ ts. slice_get (frames_at (slice_get (threads_of ts) c.args.place)) 0 in
    absurd (none-some f (found_top s.threads c.args.place None (c.in-None.ensures ∙ ap at c.as_slice.ensures.value) f below top))

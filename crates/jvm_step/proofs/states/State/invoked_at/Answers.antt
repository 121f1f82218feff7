use Rattle.std.proofs.Common.{◌≡◌, ◌∙◌, ap, refl, subst, List, drop, Option, Some, None, option_map, slice_get}
use Rattle.std.proofs.lemmas.Option.{none-some, same_Some}
use Rattle.jo_prog.specs.Machine.{Frame, popped}
use Rattle.jvm_calls.specs.Invokes.{invoked_of}
use Rattle.jvm_frames.specs.declared.threads.Thread.{Thread}
use Rattle.jvm_frames.specs.Frames.{frame_of}
use Rattle.jvm_step.specs.States.{state_of, threads_of, frames_at}
use Rattle.jvm_step.specs.Fetches.{called_by, values_of}
use Rattle.jvm_step.proofs.CallLemmas.{found_top, has_top}
use Rattle.jvm_step.proofs.states.State.invoked_at.Goals as goal

pub invoked_in-requires-clause-from : goal.invoked_in-requires-clause-from
invoked_in-requires-clause-from c =
    let s = state_of c.args.self.now in
    let f = frame_of c.in-Some.frame.now in
    let at : List Thread → Option Frame = λ ts. slice_get (frames_at (slice_get (threads_of ts) c.args.place)) 0 in
    c.requires.from f (drop 1 (frames_at (slice_get s.threads c.args.place))) (has_top s.threads c.args.place (Some f) (c.in-Some.ensures ∙ ap at c.as_slice.ensures.value) f refl)

pub returns-in-Some : goal.returns-in-Some
returns-in-Some c = λ f below top.
    let s = state_of c.args.self.now in
    let program = c.args.setting.now.program.now in
    let at : List Thread → Option Frame = λ ts. slice_get (frames_at (slice_get (threads_of ts) c.args.place)) 0 in
    let g = frame_of c.in-Some.frame.now in
    let same : g ≡ f = same_Some g f (found_top s.threads c.args.place (Some g) (c.in-Some.ensures ∙ ap at c.as_slice.ensures.value) f below top) in
    subst (λ (h : Frame). option_map (invoked_of (values_of c.args.count h)) c.invoked_in.result ≡ called_by program c.args.setting.now.labels.now s h.method c.args.call.now (popped c.args.count h.stack)) same
    (c.invoked_in.ensures s.statics s.cursors s.threads)

pub returns-in-None : goal.returns-in-None
returns-in-None c = λ f below top.
    let s = state_of c.args.self.now in
    let at : List Thread → Option Frame = λ ts. slice_get (frames_at (slice_get (threads_of ts) c.args.place)) 0 in
    absurd (none-some f (found_top s.threads c.args.place None (c.in-None.ensures ∙ ap at c.as_slice.ensures.value) f below top))

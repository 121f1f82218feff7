use Rattle.std.proofs.Common.{rules, ◌≡◌, ◌∙◌, ap, List, map, Some, slice_get}
use Rattle.jo_prog.specs.Machine.{Frame}
use Rattle.jvm_values.specs.declared.values.Value.{Value}
use Rattle.jvm_values.specs.Values.{value_of}
use Rattle.jvm_values.specs.Resolved.{seen}
use Rattle.jvm_exec.specs.Forms.{state_with}
use Rattle.jvm_frames.specs.Frames.{frame_of}
use Rattle.jvm_step.specs.States.{state_of, threads_of, frames_at}
use Rattle.jvm_step.specs.Fetches.{performed}
use Rattle.jvm_step.proofs.ThreadLemmas.{top_read}
use Rattle.jvm_step.proofs.states.State.outcome_at.Goals as goal

pub returns-in-Some-clause-is : goal.returns-in-Some-clause-is
returns-in-Some-clause-is c = λ f below top.
    let program = c.args.setting.now.program.now in
    let instruction = seen program c.args.instruction.now in
    let s = state_of c.args.self.now in
    let one = frame_of c.in-Some.frame.now in
    let at : Some one ≡ slice_get (frames_at (slice_get (threads_of c.args.self.now.threads.items) c.args.place)) 0 = search rules in
    let statics : c.as_slice-in-Some.result.now ≡ c.args.self.now.statics.items = search rules in
    c.outcome_in.ensures.is s.cursors s.threads
    ∙ ap (λ (values : List Value). performed program (state_with s.heap (map value_of values) s.cursors s.threads) one instruction) statics
    ∙ ap (λ (g : Frame). performed program s g instruction) (top_read (threads_of c.args.self.now.threads.items) c.args.place f below top one at)

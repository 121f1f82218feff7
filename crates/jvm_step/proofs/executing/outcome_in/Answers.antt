use Rattle.std.proofs.Common.{◌∙◌, sym, ap, map}
use Rattle.jvm_values.specs.Values.{value_of}
use Rattle.jvm_values.specs.Resolved.{seen}
use Rattle.jvm_exec.specs.Forms.{state_with}
use Rattle.jvm_frames.specs.Frames.{frame_of}
use Rattle.jvm_step.specs.Fetches.{performed_by}
use Rattle.jvm_step.proofs.FetchLemmas.{fetched_of_local}
use Rattle.jvm_step.proofs.executing.outcome_in.Goals as goal

pub returns-in-Some-clause-is : goal.returns-in-Some-clause-is
returns-in-Some-clause-is c = λ cursors threads.
    let program = c.args.setting.now.program.now in
    let instruction = seen program c.args.instruction.now in
    let s = state_with c.args.heap.now (map value_of c.args.statics.now) cursors threads in
    let fetched = fetched_of_local instruction (frame_of c.args.frame.now) c.in-Some.local (sym (c.in-Some.ensures program)) in
    c.outcome_of_local.ensures.is cursors threads ∙ ap (performed_by program s instruction) (sym fetched)

use Rattle.std.proofs.Common.{◌∙◌, ap}
use Rattle.jo_prog.specs.Machine.{popped}
use Rattle.machine.specs.Runs.{waits_for}
use Rattle.jvm_frames.specs.Frames.{frame_of}
use Rattle.jvm_step.specs.States.{state_of}
use Rattle.jvm_step.specs.Fetches.{values_of}
use Rattle.jvm_step.proofs.WaitLemmas.{waits_if_called}
use Rattle.jvm_step.proofs.states.State.waits_with.Goals as goal

pub returns : goal.returns
returns c =
    let s = state_of c.args.self.now in
    let f = frame_of c.args.frame.now in
    let setting = c.args.setting.now in
    c.waits_for.ensures (values_of c.args.count f)
    ∙ ap (waits_for s) (c.invoked_in.ensures s.statics s.cursors s.threads)
    ∙ waits_if_called setting.program.now setting.labels.now s f c.args.call.now (popped c.args.count f.stack)

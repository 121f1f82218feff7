use Rattle.std.proofs.Common.{ap, drop}
use Rattle.jvm_exec.specs.Forms.{state_with}
use Rattle.jvm_frames.specs.Frames.{frame_of}
use Rattle.jvm_step.specs.Fetches.{called_by}
use Rattle.jvm_step.proofs.CallLemmas.{called_with}
use Rattle.jvm_step.proofs.calling.invoked_in.Goals as goal

pub returns-in-Some : goal.returns-in-Some
returns-in-Some c = λ statics cursors threads.
    let f = frame_of c.args.frame.now in
    let s = state_with c.args.heap.now statics cursors threads in
    called_with c.args.setting.now.program.now c.args.setting.now.labels.now s f.method c.args.count c.args.call.now f.stack (drop c.args.count f.stack) c.in-Some.values.now c.invoke.result c.requires.from c.in-Some.ensures c.invoke.ensures

pub returns-in-None : goal.returns-in-None
returns-in-None c = λ statics cursors threads.
    let f = frame_of c.args.frame.now in
    let s = state_with c.args.heap.now statics cursors threads in
    ap (called_by c.args.setting.now.program.now c.args.setting.now.labels.now s f.method c.args.call.now) c.in-None.ensures

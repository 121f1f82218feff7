use Rattle.std.proofs.Common.{sym, refl, drop}
use Rattle.jvm_frames.specs.Frames.{frame_of, thread_of}
use Rattle.jvm_step.proofs.CallLemmas.{first_apart, none_apart}
use Rattle.jvm_step.proofs.stepping.standing_of.Goals as goal

pub returns-in-Some-pending : goal.returns-in-Some-pending
returns-in-Some-pending c =
    let frames = (thread_of c.args.thread.now).frames in
    let f = frame_of c.in-Some.frame.now in
    (f, (drop 1 frames, (first_apart frames f (sym c.in-Some.ensures), c.in-Some-pending.is)))

pub returns-in-None-pending : goal.returns-in-None-pending
returns-in-None-pending c =
    let frames = (thread_of c.args.thread.now).frames in
    let f = frame_of c.in-Some.frame.now in
    (f, (drop 1 frames, (first_apart frames f (sym c.in-Some.ensures), (c.in-None-pending.is, (refl, refl)))))

pub returns-in-None : goal.returns-in-None
returns-in-None c = none_apart (thread_of c.args.thread.now).frames (sym c.in-None.ensures)

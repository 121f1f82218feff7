use Rattle.std.proofs.Common.{rules, ◌≡◌, ◌-◌, ◌∙◌, ap, suc, Some, length, get_or}
use Rattle.jvm_frames.specs.declared.frames.Frame.{Frame}
use Rattle.jvm_frames.specs.Frames.{frame_of}
use Rattle.jvm_frames.proofs.StackLemmas.{second_at}
use Rattle.jvm_frames.proofs.threads.Thread.second.Goals as goal

pub returns : goal.returns
returns c =
    let xs = c.args.self.now.frames.items in
    let f = c.index.result.now in
    let last : suc (suc (c.len-height.result - 2)) ≡ length xs = search rules in
    let read : f ≡ get_or xs (c.len-height.result - 2) f = search rules in
    ap (λ (f : Frame). Some (frame_of f)) read ∙ second_at xs (c.len-height.result - 2) f last

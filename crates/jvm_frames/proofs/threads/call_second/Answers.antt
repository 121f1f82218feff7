use Rattle.std.proofs.Common.{rules, ◌≡◌, suc, ◌-◌, length, get_or}
use Rattle.jvm_frames.specs.Frames.{calling}
use Rattle.jvm_frames.proofs.StackLemmas.{second_changed}
use Rattle.jvm_frames.proofs.threads.call_second.Goals as goal

pub returns-then-height-ge2 : goal.returns-then-height-ge2
returns-then-height-ge2 c =
    let xs = c.args.frames.now.items in
    let was = c.index_mut-frame.result.now in
    let last : suc (suc (c.len-height.result - 2)) ≡ length xs = search rules in
    let read : was ≡ get_or xs (c.len-height.result - 2) was = search rules in
    second_changed xs (c.len-height.result - 2) was c.call.new.self (calling c.args.count) last read (search rules)

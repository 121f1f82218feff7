use Rattle.std.proofs.Common.{rules, ◌≡◌, suc, ◌-◌, length, get_or}
use Rattle.jvm_frames.specs.Frames.{without}
use Rattle.jvm_frames.proofs.StackLemmas.{top_changed}
use Rattle.jvm_frames.proofs.threads.jump_top.Goals as goal

pub returns-then-height-gt0 : goal.returns-then-height-gt0
returns-then-height-gt0 c =
    let xs = c.args.frames.now.items in
    let was = c.index_mut-frame.result.now in
    let last : suc (c.len-height.result - 1) ≡ length xs = search rules in
    let read : was ≡ get_or xs (c.len-height.result - 1) was = search rules in
    top_changed xs (c.len-height.result - 1) was c.jump.new.self (without c.args.pc c.args.count) last read (search rules)

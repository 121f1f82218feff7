use Rattle.std.proofs.Common.{rules, ◌≡◌, suc, ◌-◌, length, get_or}
use Rattle.jvm_values.specs.Values.{value_of}
use Rattle.jvm_frames.specs.Frames.{with_put}
use Rattle.jvm_frames.proofs.StackLemmas.{top_changed}
use Rattle.jvm_frames.proofs.threads.put_top.Goals as goal

pub returns-then-height-gt0 : goal.returns-then-height-gt0
returns-then-height-gt0 c =
    let xs = c.args.frames.now.items in
    let was = c.index_mut-frame.result.now in
    let last : suc (c.len-height.result - 1) ≡ length xs = search rules in
    let read : was ≡ get_or xs (c.len-height.result - 1) was = search rules in
    top_changed xs (c.len-height.result - 1) was c.put.new.self (with_put c.args.pc c.args.count c.args.local (value_of c.args.value)) last read (search rules)

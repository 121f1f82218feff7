use Rattle.std.proofs.Common.{rules, ◌≡◌, ◌-◌, ◌≤◌, length, drop}
use Rattle.jvm_frames.proofs.StackLemmas.{popped_there}
use Rattle.jvm_frames.proofs.frames.Frame.popped.Goals as goal

pub returns : goal.returns
returns c =
    let xs = c.args.self.now.stack.items in
    let is : c.last_values.result.now ≡ drop (length xs - c.args.count) xs = search rules in
    let within : c.args.count ≤ length xs = search rules in
    rw is (popped_there xs c.args.count within)

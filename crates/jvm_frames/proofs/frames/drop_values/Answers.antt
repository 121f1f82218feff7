use Rattle.std.proofs.Common.{rules, ◌≡◌, ◌-◌, length, take}
use Rattle.jvm_frames.proofs.StackLemmas.{values_dropped}
use Rattle.jvm_frames.proofs.frames.drop_values.Goals as goal

pub returns : goal.returns
returns c =
    let xs = c.args.stack.now.items in
    let is : c.truncate.new.self.items ≡ take (length xs - c.args.count) xs = search rules in
    rw is (values_dropped xs c.args.count)

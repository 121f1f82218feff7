use Rattle.std.proofs.Common.{rules, ◌≡◌, ◌-◌, ◌++◌, length, take}
use Rattle.jvm_frames.proofs.StackLemmas.{values_replaced}
use Rattle.jvm_frames.proofs.frames.replace.Goals as goal

pub returns-clause-ok : goal.returns-clause-ok
returns-clause-ok c =
    let xs = c.args.stack.now.items in
    let is : c.extend_from_slice.new.self.items ≡ take (length xs - c.args.count) xs ++ c.args.values.now = search rules in
    rw is (values_replaced xs c.args.values.now c.args.count)

use Rattle.std.proofs.Common.{rules, ◌≡◌, ◌∙◌, ◌-◌, ap, length, drop}
use Rattle.jvm_values.specs.Values.{popped_values}
use Rattle.jvm_step.proofs.CallLemmas.{taken_anyway}
use Rattle.jvm_step.proofs.calling.top_values.Goals as goal

pub returns : goal.returns
returns c =
    let xs = c.args.stack.now in
    let is : c.split_at.result.1.now ≡ drop (length xs - c.args.count) xs = search rules in
    ap popped_values is ∙ taken_anyway xs c.args.count

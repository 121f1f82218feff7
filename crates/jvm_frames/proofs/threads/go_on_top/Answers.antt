use Rattle.std.proofs.Common.{rules, ◌≡◌, suc, ◌-◌, length, get_or}
use Rattle.jvm_values.specs.Values.{popped_values}
use Rattle.jvm_frames.specs.Frames.{gone_on}
use Rattle.jvm_frames.proofs.StackLemmas.{on_err_anyway, top_changed, top_kept}
use Rattle.jvm_frames.proofs.threads.go_on_top.Goals as goal

pub returns-clause-ok : goal.returns-clause-ok
returns-clause-ok c =
    let xs = c.args.frames.now.items in
    let was = c.index_mut-frame.result.now in
    let last : suc (c.len-height.result - 1) ≡ length xs = search rules in
    let read : was ≡ get_or xs (c.len-height.result - 1) was = search rules in
    top_changed xs (c.len-height.result - 1) was c.go_on.new.self (gone_on c.args.pc c.args.count (popped_values c.args.values.now)) last read (search rules)

pub returns-in_err-go_on-clause-err : goal.returns-in_err-go_on-clause-err
returns-in_err-go_on-clause-err c =
    let xs = c.args.frames.now.items in
    let was = c.index_mut-frame.result.now in
    let last : suc (c.len-height.result - 1) ≡ length xs = search rules in
    let read : was ≡ get_or xs (c.len-height.result - 1) was = search rules in
    on_err_anyway c.from_residual.result (top_kept xs (c.len-height.result - 1) was c.go_on.new.self last read (search rules))

use Rattle.std.proofs.Common.{rules, ◌≡◌, suc, ◌-◌, length, get_or, option_map}
use Rattle.jvm_values.specs.Values.{value_of}
use Rattle.jvm_frames.specs.Frames.{with_result}
use Rattle.jvm_frames.proofs.StackLemmas.{on_err_anyway, second_changed, second_kept}
use Rattle.jvm_frames.proofs.threads.resume_second.Goals as goal

pub returns-clause-ok : goal.returns-clause-ok
returns-clause-ok c =
    let xs = c.args.frames.now.items in
    let was = c.index_mut-frame.result.now in
    let last : suc (suc (c.len-height.result - 2)) ≡ length xs = search rules in
    let read : was ≡ get_or xs (c.len-height.result - 2) was = search rules in
    second_changed xs (c.len-height.result - 2) was c.resume.new.self (with_result c.args.pc (option_map value_of c.args.given)) last read (search rules)

pub returns-in_err-resume-clause-err : goal.returns-in_err-resume-clause-err
returns-in_err-resume-clause-err c =
    let xs = c.args.frames.now.items in
    let was = c.index_mut-frame.result.now in
    let last : suc (suc (c.len-height.result - 2)) ≡ length xs = search rules in
    let read : was ≡ get_or xs (c.len-height.result - 2) was = search rules in
    on_err_anyway c.from_residual.result (second_kept xs (c.len-height.result - 2) was c.resume.new.self last read (search rules))

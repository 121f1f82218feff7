use Rattle.std.proofs.Common.{rules, ◌≡◌, ◌∷◌, [], suc, ◌-◌, length, get_or}
use Rattle.jo_prog.specs.Values.{ref}
use Rattle.jvm_frames.specs.Frames.{with_only}
use Rattle.jvm_frames.proofs.StackLemmas.{on_err_anyway, top_changed, top_kept}
use Rattle.jvm_frames.proofs.threads.catch_top.Goals as goal

pub returns-clause-ok : goal.returns-clause-ok
returns-clause-ok c =
    let xs = c.args.frames.now.items in
    let was = c.index_mut-frame.result.now in
    let last : suc (c.len-height.result - 1) ≡ length xs = search rules in
    let read : was ≡ get_or xs (c.len-height.result - 1) was = search rules in
    top_changed xs (c.len-height.result - 1) was c.catch.new.self (with_only c.args.handler (ref c.args.exception ∷ [])) last read (search rules)

pub returns-in_err-catch-clause-err : goal.returns-in_err-catch-clause-err
returns-in_err-catch-clause-err c =
    let xs = c.args.frames.now.items in
    let was = c.index_mut-frame.result.now in
    let last : suc (c.len-height.result - 1) ≡ length xs = search rules in
    let read : was ≡ get_or xs (c.len-height.result - 1) was = search rules in
    on_err_anyway c.from_residual.result (top_kept xs (c.len-height.result - 1) was c.catch.new.self last read (search rules))

use Rattle.std.proofs.Common.{rules, ◌≡◌, ◌<◌, List, length, get_or, drop, None, option_map}
use Rattle.jo_prog.specs.Machine.{Frame}
use Rattle.jvm_values.specs.Values.{value_of}
use Rattle.jvm_frames.specs.Frames.{on_top, with_result}
use Rattle.jvm_frames.proofs.StackLemmas.{on_err_anyway}
use Rattle.jvm_step.proofs.ThreadLemmas.{reframed, as_before, no_thread}
use Rattle.jvm_step.proofs.threads.return_at.Goals as goal

pub returns-then-place-len-clause-ok : goal.returns-then-place-len-clause-ok
returns-then-place-len-clause-ok c = λ f below top. no_thread c.args.threads.now.items c.args.place f below (search rules) top

pub returns-clause-ok : goal.returns-clause-ok
returns-clause-ok c =
    let xs = c.args.threads.now.items in
    let was = c.index_mut-thread.result.now in
    let same : c.len.result ≡ length xs = search rules in
    let within : c.args.place < c.len.result = search rules in
    let read : was ≡ get_or xs c.args.place was = search rules in
    reframed xs c.len.result c.args.place was c.return_to.new.self same within read (λ (fs : List Frame). on_top (with_result c.args.pc (option_map value_of c.args.given)) (drop 1 fs)) None (search rules)

pub returns-in_err-return_to-clause-err : goal.returns-in_err-return_to-clause-err
returns-in_err-return_to-clause-err c =
    let xs = c.args.threads.now.items in
    let was = c.index_mut-thread.result.now in
    let same : c.len.result ≡ length xs = search rules in
    let within : c.args.place < c.len.result = search rules in
    let read : was ≡ get_or xs c.args.place was = search rules in
    on_err_anyway c.from_residual.result (as_before xs c.len.result c.args.place was c.return_to.new.self same within read (search rules))

use Rattle.std.proofs.Common.{rules, ◌≡◌, ◌<◌, length, get_or, None}
use Rattle.jvm_values.specs.Values.{popped_values}
use Rattle.jvm_frames.specs.Frames.{on_top, gone_on}
use Rattle.jvm_frames.proofs.StackLemmas.{on_err_anyway}
use Rattle.jvm_step.proofs.ThreadLemmas.{reframed, as_before, no_thread}
use Rattle.jvm_step.proofs.threads.go_on_at.Goals as goal

pub returns-then-place-len-clause-ok : goal.returns-then-place-len-clause-ok
returns-then-place-len-clause-ok c = λ f below top. no_thread c.args.threads.now.items c.args.place f below (search rules) top

pub returns-clause-ok : goal.returns-clause-ok
returns-clause-ok c =
    let xs = c.args.threads.now.items in
    let was = c.index_mut-thread.result.now in
    let same : c.len.result ≡ length xs = search rules in
    let within : c.args.place < c.len.result = search rules in
    let read : was ≡ get_or xs c.args.place was = search rules in
    reframed xs c.len.result c.args.place was c.go_on.new.self same within read (on_top (gone_on c.args.pc c.args.count (popped_values c.args.values.now))) None (search rules)

pub returns-in_err-go_on-clause-err : goal.returns-in_err-go_on-clause-err
returns-in_err-go_on-clause-err c =
    let xs = c.args.threads.now.items in
    let was = c.index_mut-thread.result.now in
    let same : c.len.result ≡ length xs = search rules in
    let within : c.args.place < c.len.result = search rules in
    let read : was ≡ get_or xs c.args.place was = search rules in
    on_err_anyway c.from_residual.result (as_before xs c.len.result c.args.place was c.go_on.new.self same within read (search rules))

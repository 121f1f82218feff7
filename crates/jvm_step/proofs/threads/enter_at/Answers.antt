use Rattle.std.proofs.Common.{rules, ◌≡◌, ◌<◌, ◌∷◌, List, length, get_or, None}
use Rattle.jo_prog.specs.Machine.{Frame}
use Rattle.jvm_frames.specs.Frames.{frame_of, on_top, calling}
use Rattle.jvm_frames.proofs.StackLemmas.{on_err_anyway}
use Rattle.jvm_step.proofs.ThreadLemmas.{reframed, as_before, no_thread}
use Rattle.jvm_step.proofs.threads.enter_at.Goals as goal

pub returns-then-place-len-clause-ok : goal.returns-then-place-len-clause-ok
returns-then-place-len-clause-ok c = λ f below top. no_thread c.args.threads.now.items c.args.place f below (search rules) top

pub returns-clause-ok : goal.returns-clause-ok
returns-clause-ok c =
    let xs = c.args.threads.now.items in
    let was = c.index_mut-thread.result.now in
    let same : c.len.result ≡ length xs = search rules in
    let within : c.args.place < c.len.result = search rules in
    let read : was ≡ get_or xs c.args.place was = search rules in
    reframed xs c.len.result c.args.place was c.enter.new.self same within read (λ (fs : List Frame). frame_of c.args.frame ∷ on_top (calling c.args.count) fs) None (search rules)

pub returns-in_err-enter-clause-err : goal.returns-in_err-enter-clause-err
returns-in_err-enter-clause-err c =
    let xs = c.args.threads.now.items in
    let was = c.index_mut-thread.result.now in
    let same : c.len.result ≡ length xs = search rules in
    let within : c.args.place < c.len.result = search rules in
    let read : was ≡ get_or xs c.args.place was = search rules in
    on_err_anyway c.from_residual.result (as_before xs c.len.result c.args.place was c.enter.new.self same within read (search rules))

use Rattle.std.proofs.Common.{rules, ◌≡◌, ◌<◌, List, length, get_or, Some}
use Rattle.jo_prog.specs.Machine.{Frame}
use Rattle.jvm_step.proofs.ThreadLemmas.{reframed, no_thread}
use Rattle.jvm_step.proofs.threads.throw_at.Goals as goal

pub returns-then-place-len : goal.returns-then-place-len
returns-then-place-len c =
    let xs = c.args.threads.now.items in
    let was = c.index_mut-thread.result.now in
    let same : c.len.result ≡ length xs = search rules in
    let within : c.args.place < c.len.result = search rules in
    let read : was ≡ get_or xs c.args.place was = search rules in
    reframed xs c.len.result c.args.place was c.throw.new.self same within read (λ (fs : List Frame). fs) (Some c.args.exception) c.throw.ensures

pub returns-else-place-len : goal.returns-else-place-len
returns-else-place-len c = λ f below top. no_thread c.args.threads.now.items c.args.place f below (search rules) top

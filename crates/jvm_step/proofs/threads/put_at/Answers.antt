use Rattle.std.proofs.Common.{rules, ◌≡◌, ◌<◌, length, get_or, None}
use Rattle.jvm_values.specs.Values.{value_of}
use Rattle.jvm_frames.specs.Frames.{on_top, with_put}
use Rattle.jvm_step.proofs.ThreadLemmas.{reframed, no_thread}
use Rattle.jvm_step.proofs.threads.put_at.Goals as goal

pub returns-then-place-len : goal.returns-then-place-len
returns-then-place-len c =
    let xs = c.args.threads.now.items in
    let was = c.index_mut-thread.result.now in
    let same : c.len.result ≡ length xs = search rules in
    let within : c.args.place < c.len.result = search rules in
    let read : was ≡ get_or xs c.args.place was = search rules in
    reframed xs c.len.result c.args.place was c.put.new.self same within read (on_top (with_put c.args.pc c.args.count c.args.local (value_of c.args.value))) None c.put.ensures

pub returns-else-place-len : goal.returns-else-place-len
returns-else-place-len c = λ f below top. no_thread c.args.threads.now.items c.args.place f below (search rules) top

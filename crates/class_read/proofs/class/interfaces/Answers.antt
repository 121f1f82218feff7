use Rattle.std.proofs.lemmas.Result.{err_from_is_err_and}
use Rattle.class_pool.specs.ClassOrder.{class_index}
use Rattle.class_pool.proofs.Many.{many_takes, many_stops, many_done}
use Rattle.class_read.proofs.class.interfaces.Goals as goal

pub returns-in_err-found : goal.returns-in_err-found
returns-in_err-found c =
    let p = err_from_is_err_and c.from_residual.result c.from_residual.ensures.1 in
    rw (p.1, p.2) (many_stops (class_index c.args.size c.args.pool.now) c.loop.interfaces c.args.count c.loop.counter c.loop.rest.now _ c.loop.invariant c.in_err-found.field-0.0 c.loop-test.true c.in_err-found.ensures)

pub loop-preserved : goal.loop-preserved
loop-preserved c =
    rw c.in_ok-push.ensures.ok (many_takes (class_index c.args.size c.args.pool.now) c.loop.interfaces c.args.count c.loop.counter c.loop.rest.now _ c.loop.invariant c.in_ok-found.found c.in_ok-found.behind.now c.loop-test.true c.in_ok-found.ensures)

pub returns : goal.returns
returns c = many_done (class_index c.args.size c.args.pool.now) c.loop.interfaces c.args.count c.loop.counter c.loop.rest.now _ c.loop.invariant c.loop-test.false

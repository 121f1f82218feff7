use Rattle.std.proofs.lemmas.Result.{err_from_is_err_and}
use Rattle.class_pool.specs.ClassOrder.{skip_attribute}
use Rattle.class_read.proofs.Skipping.{passes, stops, is_done}
use Rattle.class_read.proofs.parts.skip_attributes.Goals as goal

pub returns-in_err-behind : goal.returns-in_err-behind
returns-in_err-behind c =
    let p = err_from_is_err_and c.from_residual-in_err-behind.result c.from_residual-in_err-behind.ensures.1 in
    rw (p.1, p.2) (stops (skip_attribute c.args.size c.args.pool.now) c.in_ok-count.count c.loop.counter c.loop.behind.now _ c.loop.invariant c.in_err-behind.field-0.0 c.loop-test.true c.in_err-behind.ensures)

pub loop-preserved : goal.loop-preserved
loop-preserved c = passes (skip_attribute c.args.size c.args.pool.now) c.in_ok-count.count c.loop.counter c.loop.behind.now _ c.loop.invariant tt c.in_ok-behind.behind.now c.loop-test.true c.in_ok-behind.ensures

pub returns : goal.returns
returns c = is_done (skip_attribute c.args.size c.args.pool.now) c.in_ok-count.count c.loop.counter c.loop.behind.now _ c.loop.invariant c.loop-test.false

use Rattle.std.proofs.lemmas.Result.{err_from_is_err_and}
use Rattle.class_read.proofs.FieldSteps.{takes_attribute, stops_at_attribute, attributes_done}
use Rattle.class_read.proofs.fields.field_attributes.Goals as goal

pub returns-in_err-known : goal.returns-in_err-known
returns-in_err-known c =
    let p = err_from_is_err_and c.from_residual.result c.from_residual.ensures.1 in
    rw (p.1, p.2) (stops_at_attribute c.args.size c.args.pool.now c.args.head c.args.count c.loop.counter c.loop.known c.loop.rest.now _ c.loop.invariant c.in_err-known.field-0.0 c.loop-test.true c.in_err-known.ensures)

pub loop-preserved : goal.loop-preserved
loop-preserved c = takes_attribute c.args.size c.args.pool.now c.args.head c.args.count c.loop.counter c.loop.known c.loop.rest.now _ c.loop.invariant (c.in_ok-known.field-0-0, c.in_ok-known.field-0-1.now) c.loop-test.true c.in_ok-known.ensures

pub returns : goal.returns
returns c = attributes_done c.args.size c.args.pool.now c.args.head c.args.count c.loop.counter c.loop.known c.loop.rest.now _ c.loop.invariant c.loop-test.false

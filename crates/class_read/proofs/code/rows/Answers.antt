use Rattle.std.proofs.Common.{[], ◌∷◌, arith, length-append}
use Rattle.std.proofs.lemmas.Result.{err_from_is_err_and}
use Rattle.class_pool.specs.ClassOrder.{read_row}
use Rattle.class_pool.proofs.Many.{many_takes, many_stops, many_done}
use Rattle.class_read.proofs.code.rows.Goals as goal

pub returns-in_err-found-clause-value : goal.returns-in_err-found-clause-value
returns-in_err-found-clause-value c =
    let p = err_from_is_err_and c.from_residual.result c.from_residual.ensures.1 in
    rw (p.1, p.2) (many_stops (read_row c.args.size) c.loop.rows c.args.count c.loop.counter c.loop.rest.now _ c.loop.invariant.so_far c.in_err-found.field-0.0 c.loop-test.true c.in_err-found.ensures.value)

pub loop-preserved : goal.loop-preserved
loop-preserved c = record {
  so_far = rw c.in_ok-push.ensures.ok
      (many_takes (read_row c.args.size) c.loop.rows c.args.count c.loop.counter c.loop.rest.now _ c.loop.invariant.so_far c.in_ok-found.found c.in_ok-found.behind.now c.loop-test.true c.in_ok-found.ensures.value);
  counted = rw c.in_ok-push.ensures.ok (omega (arith, length-append c.loop.rows (c.in_ok-found.found ∷ [])));
  eights = rw c.in_ok-push.ensures.ok (omega (arith, length-append c.loop.rows (c.in_ok-found.found ∷ []), c.in_ok-found.ensures.eight));
}

pub returns-clause-value : goal.returns-clause-value
returns-clause-value c = many_done (read_row c.args.size) c.loop.rows c.args.count c.loop.counter c.loop.rest.now _ c.loop.invariant.so_far c.loop-test.false

use Rattle.std.proofs.Common.{sym, ◌∙◌}
use Rattle.std.proofs.lemmas.Result.{err_from_is_err_and}
use Rattle.class_pool.proofs.PoolEntries.{second_taken, entry_taken, entry_stops, owed_at_end, entries_done}
use Rattle.class_pool.proofs.reader.entries.Goals as goal
use Rattle.class_pool.proofs.reader.entries.Goals.{then-is_some+in_ok-push, else-is_some+in_ok-found+in_ok-push-2}

pub returns-in_err-found : goal.returns-in_err-found
returns-in_err-found c =
    let p = err_from_is_err_and c.from_residual-in_err-found.result c.from_residual-in_err-found.ensures.1 in
    rw (p.1, p.2) (entry_stops c.args.size c.args.count c.loop.counter c.loop.entries c.loop.rest.now _ c.loop.owed c.in_err-found.field-0.0
    (sym c.is_some.ensures ∙ c.if-is_some.false) c.loop-test.true c.in_err-found.ensures c.loop.invariant)

pub loop-preserved : goal.loop-preserved
loop-preserved c = elim c.if-is_some.branch [
  | then-is_some+in_ok-push w ↦ rw (w.entries-is, w.owed-is, w.rest-is, w.in_ok-push.ensures.ok)
      (second_taken c.args.size c.args.count c.loop.counter c.loop.entries c.loop.rest.now _ c.loop.owed (sym c.is_some.ensures ∙ w.if-is_some.true) c.loop-test.true c.loop.invariant)
  | else-is_some+in_ok-found+in_ok-push-2 w ↦ rw (w.entries-is, w.owed-is, w.rest-is, w.in_ok-push-2.ensures.ok, w.owed_by-owed.ensures, w.place_of.ensures)
      (entry_taken c.args.size c.args.count c.loop.counter c.loop.entries c.loop.rest.now _ c.loop.owed w.in_ok-found.found w.in_ok-found.behind.now
      (sym c.is_some.ensures ∙ w.if-is_some.false) c.loop-test.true w.in_ok-found.ensures c.loop.invariant)
]

pub returns-in-Some : goal.returns-in-Some
returns-in-Some c = rw c.fault_at.ensures (owed_at_end c.args.size c.args.count c.loop.counter c.loop.entries c.loop.rest.now _ c.loop.owed c.in-Some.place c.in-Some.is c.loop-test.false c.loop.invariant)

pub returns : goal.returns
returns c = entries_done c.args.size c.args.count c.loop.counter c.loop.entries c.loop.rest.now _ c.loop.owed c.in-None.is c.loop-test.false c.loop.invariant

use Rattle.std.proofs.Common.{◌≡◌, []}
use Rattle.std.proofs.lemmas.Result.{err_from_is_err_and}
use Rattle.toml.specs.View.{table_view}
use Rattle.jo_policy.proofs.PolicyAnswers.{IsSaid, order_with, key_stops, names_stop, unknown_stops, cycle_stops, policy_answers}
use Rattle.jo_policy.proofs.whole.from_tree.Goals as goal

pub returns-in_err-written : goal.returns-in_err-written
returns-in_err-written c =
    let p = err_from_is_err_and c.from_residual.result c.from_residual.ensures.1 in
    rw (p.1, p.2) (key_stops c.args.program.now (table_view c.args.tree.now) c.in_err-written.field-0.0 c.in_err-written.ensures)

pub returns-in_err-put_in_order : goal.returns-in_err-put_in_order
returns-in_err-put_in_order c =
    let p = err_from_is_err_and c.from_residual-in_err-put_in_order.result c.from_residual-in_err-put_in_order.ensures.1 in
    let none : c.as_slice-2.result.now ≡ [] = cc in
    rw (p.1, p.2) (names_stop c.args.program.now (table_view c.args.tree.now) c.in_ok-written.written c.as_slice.result.now c.as_slice-2.result.now
    c.in_err-put_in_order.field-0.0 c.in_ok-written.ensures c.as_slice.ensures none c.in_err-put_in_order.ensures.answers)

pub returns-in_err-numbered : goal.returns-in_err-numbered
returns-in_err-numbered c =
    let p = err_from_is_err_and c.from_residual-in_err-numbered.result c.from_residual-in_err-numbered.ensures.1 in
    let none : c.as_slice-2.result.now ≡ [] = cc in
    let said : IsSaid (table_view c.args.tree.now) c.in_ok-written.written = record {
      said = c.in_ok-written.ensures;
      named = order_with c.in_ok-written.written c.as_slice.result.now c.as_slice-2.result.now [] c.as_slice.ensures none c.in_ok-put_in_order.ensures.answers.0;
    } in
    rw (p.1, p.2) (unknown_stops c.args.program.now (table_view c.args.tree.now) c.in_ok-written.written c.in_err-numbered.field-0.0 said c.in_err-numbered.ensures)

pub returns-in_err-order : goal.returns-in_err-order
returns-in_err-order c =
    let p = err_from_is_err_and c.from_residual-in_err-order.result c.from_residual-in_err-order.ensures.1 in
    let none : c.as_slice-2.result.now ≡ [] = cc in
    let said : IsSaid (table_view c.args.tree.now) c.in_ok-written.written = record {
      said = c.in_ok-written.ensures;
      named = order_with c.in_ok-written.written c.as_slice.result.now c.as_slice-2.result.now [] c.as_slice.ensures none c.in_ok-put_in_order.ensures.answers.0;
    } in
    rw (p.1, p.2) (cycle_stops c.args.program.now (table_view c.args.tree.now) c.in_ok-written.written c.in_ok-numbered.numbered c.as_slice-3.result.now c.as_slice-4.result.now
    c.in_err-order.field-0.0 said c.in_ok-numbered.ensures c.as_slice-3.ensures c.as_slice-4.ensures c.in_err-order.ensures.answers)

pub returns : goal.returns
returns c =
    let none : c.as_slice-2.result.now ≡ [] = cc in
    let said : IsSaid (table_view c.args.tree.now) c.in_ok-written.written = record {
      said = c.in_ok-written.ensures;
      named = order_with c.in_ok-written.written c.as_slice.result.now c.as_slice-2.result.now [] c.as_slice.ensures none c.in_ok-put_in_order.ensures.answers.0;
    } in
    policy_answers c.args.program.now (table_view c.args.tree.now) c.in_ok-written.written c.in_ok-numbered.numbered c.label_program.result said c.in_ok-numbered.ensures
    (order_with c.in_ok-written.written c.as_slice-3.result.now c.as_slice-4.result.now c.in_ok-numbered.numbered.flows c.as_slice-3.ensures c.as_slice-4.ensures c.in_ok-order.ensures.answers.0)
    c.label_program.ensures.labels c.label_program.ensures.contexts

use Rattle.std.proofs.Common.{get_or, refl}
use Rattle.jo_order.proofs.RowsLemmas.{rows_joined}
use Rattle.jo_order.proofs.closing.join_through.Goals as goal

pub returns : goal.returns
returns c = rows_joined c.loop-row.row-index c.args.level (get_or c.args.rows.now c.args.level 0) c.args.rows.now c.loop-row.rows c.loop-row.invariant c.loop-row-test.false refl

use Rattle.jo_order.proofs.RowsLemmas.{JoinsBelow}
use Rattle.jo_order.proofs.closing.join_through.Given as goal

abbrev pub invariant-loop-row : goal.invariant-loop-row
invariant-loop-row l = JoinsBelow l.row-index l.level l.through l.initial.rows l.rows

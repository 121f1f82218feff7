use Rattle.jo_order.proofs.ClosingLemmas.{ClosesBelow}
use Rattle.jo_order.proofs.closing.close.Given as goal

abbrev pub invariant-loop-level : goal.invariant-loop-level
invariant-loop-level l = ClosesBelow l.level l.initial.rows l.rows

use Rattle.std.proofs.Common.{take}
use Rattle.jo_order.specs.Closing.{HasPairs}
use Rattle.jo_order.proofs.closing.mark_pairs.Given as goal

abbrev pub invariant-loop-a : goal.invariant-loop-a
invariant-loop-a l = HasPairs (take l.a-index l.pairs) l.initial.rows l.rows

use Rattle.std.proofs.Common.{ℕ, ◌<◌}
use Rattle.jo_order.specs.LevelRows.{AreMutual}
use Rattle.jo_order.proofs.closing.first_mutual_above.Given as goal

abbrev pub invariant-loop-b : goal.invariant-loop-b
invariant-loop-b l = (d : ℕ) → d < l.b → AreMutual l.rows l.a d → ⊥

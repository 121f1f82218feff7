use Rattle.std.proofs.Common.{ℕ, ◌<◌}
use Rattle.jo_order.specs.LevelRows.{AreMutual}
use Rattle.jo_order.proofs.closing.first_mutual.Given as goal

abbrev pub invariant-loop-a : goal.invariant-loop-a
invariant-loop-a l = (c d : ℕ) → c < l.a → AreMutual l.rows c d → ⊥

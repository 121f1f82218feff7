use Rattle.std.proofs.Common.{ℕ, ◌<◌}
use Rattle.jo_order.specs.Orders.{IsUnknown}
use Rattle.jo_order.proofs.closing.first_unknown.Given as goal

abbrev pub invariant-loop-place : goal.invariant-loop-place
invariant-loop-place l = (k : ℕ) → k < l.place → IsUnknown l.count l.pairs k → ⊥

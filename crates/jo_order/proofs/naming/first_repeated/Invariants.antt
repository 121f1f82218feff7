use Rattle.std.proofs.Common.{ℕ, ◌<◌, take}
use Rattle.jo_order.specs.Orders.{IsRepeated}
use Rattle.jo_order.proofs.NameLemmas.{HasSeen}
use Rattle.jo_order.proofs.naming.first_repeated.Given as goal

abbrev pub invariant-loop-place : goal.invariant-loop-place
invariant-loop-place l = HasSeen (take l.place l.names) l.seen × ((k : ℕ) → k < l.place → IsRepeated l.names k → ⊥)

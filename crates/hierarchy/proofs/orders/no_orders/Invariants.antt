use Rattle.std.proofs.Common.{◌≡◌, ℕ, List, [], replicate}
use Rattle.hierarchy.proofs.orders.no_orders.Given as goal

abbrev pub invariant-loop : goal.invariant-loop
invariant-loop l = l.orders.items ≡ replicate {A = List ℕ} l.index []

use Rattle.hierarchy.specs.Orders.{VisitsUpTo}
use Rattle.hierarchy.proofs.orders.round.Given as goal

abbrev pub invariant-loop-number : goal.invariant-loop-number
invariant-loop-number l = VisitsUpTo l.graph l.initial.orders.items l.orders.items l.number

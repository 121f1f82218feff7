use Rattle.hierarchy.specs.Orders.{AreRight, AreMadeBy}
use Rattle.hierarchy.proofs.orders.walks.Given as goal

abbrev pub invariant-loop : goal.invariant-loop
invariant-loop l = record {
  right : AreRight l.graph l.orders.items;
  made : AreMadeBy l.graph l.orders.items l.counter;
}

use Rattle.std.proofs.Common.{◌++◌, ◌∷◌, drop}
use Rattle.std.specs.List.{AllByRecursion, flat_map}
use Rattle.hierarchy.specs.Orders.{SameFirst, IsMade, edges}
use Rattle.hierarchy.proofs.orders.order_of.Given as goal

abbrev pub invariant-loop-class : goal.invariant-loop-class
invariant-loop-class l = record {
  made : AllByRecursion (IsMade l.orders) (drop l.class-index l.next) → AllByRecursion (IsMade l.orders) l.next;
  same : SameFirst (l.order ++ flat_map (edges l.orders) (drop l.class-index l.next)) (l.fn.number ∷ flat_map (edges l.orders) l.next);
}

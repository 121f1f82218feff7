use Rattle.std.proofs.Common.{◌++◌, drop}
use Rattle.hierarchy.specs.Orders.{SameFirst}
use Rattle.hierarchy.proofs.orders.add_new.Given as goal

abbrev pub invariant-loop-class : goal.invariant-loop-class
invariant-loop-class l = SameFirst (l.order ++ drop l.class-index l.more) (l.initial.order ++ l.more)

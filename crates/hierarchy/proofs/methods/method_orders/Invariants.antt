use Rattle.std.proofs.Common.{take}
use Rattle.hierarchy.specs.Hierarchies.{AreMethodsBy}
use Rattle.hierarchy.proofs.methods.method_orders.Given as goal

abbrev pub invariant-loop-above : goal.invariant-loop-above
invariant-loop-above l = AreMethodsBy l.interfaces l.walks (take l.above-index l.superclasses) l.orders.items

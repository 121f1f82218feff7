use Rattle.std.proofs.Common.{◌++◌, drop}
use Rattle.std.specs.List.{flat_map}
use Rattle.hierarchy.specs.Orders.{SameFirst, edges}
use Rattle.hierarchy.specs.Hierarchies.{methods_by}
use Rattle.hierarchy.proofs.methods.method_order.Given as goal

abbrev pub invariant-loop-class : goal.invariant-loop-class
invariant-loop-class l = SameFirst (l.order ++ flat_map (λ c. flat_map (edges l.walks) (edges l.interfaces c)) (drop l.class-index l.superclasses)) (methods_by l.interfaces l.walks l.superclasses)

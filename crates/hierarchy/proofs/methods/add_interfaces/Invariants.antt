use Rattle.std.proofs.Common.{◌++◌, drop}
use Rattle.std.specs.List.{flat_map}
use Rattle.hierarchy.specs.Orders.{SameFirst, edges}
use Rattle.hierarchy.proofs.methods.add_interfaces.Given as goal

abbrev pub invariant-loop-interface : goal.invariant-loop-interface
invariant-loop-interface l = SameFirst (l.order ++ flat_map (edges l.walks) (drop l.interface-index l.interfaces)) (l.initial.order ++ flat_map (edges l.walks) l.interfaces)

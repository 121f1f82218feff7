use Rattle.std.proofs.Common.{◌≡◌, ◌++◌, drop}
use Rattle.std.specs.List.{flat_map}
use Rattle.class_dis.specs.Listing.{interface_line}
use Rattle.class_dis.proofs.classes.push_interfaces.Given as goal

abbrev pub invariant-loop-interface : goal.invariant-loop-interface
invariant-loop-interface l = l.out.items ++ flat_map (interface_line l.pool) (drop l.interface-index l.interfaces) ≡ l.fn.out.items ++ flat_map (interface_line l.pool) l.interfaces

use Rattle.std.proofs.Common.{◌≡◌, map, take}
use Rattle.hierarchy.specs.Hierarchies.{interface_list}
use Rattle.hierarchy.proofs.interface_lists.Given as goal

abbrev pub invariant-loop-class : goal.invariant-loop-class
invariant-loop-class l = l.lists.items ≡ map interface_list (take l.class-index l.classes)

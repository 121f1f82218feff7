use Rattle.std.proofs.Common.{◌↔◌, length, drop}
use Rattle.std.specs.List.{AllByRecursion}
use Rattle.hierarchy.specs.Hierarchies.{IsInside}
use Rattle.hierarchy.proofs.parents.has_its_parents.Given as goal

abbrev pub invariant-loop-class : goal.invariant-loop-class
invariant-loop-class l = AllByRecursion (IsInside (length l.classes)) (drop l.class-index l.classes) ↔ AllByRecursion (IsInside (length l.classes)) l.classes

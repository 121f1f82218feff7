use Rattle.std.proofs.Common.{◌≡◌, ◌++◌, take}
use Rattle.hierarchy.proofs.add_all.Given as goal

abbrev pub invariant-loop-class : goal.invariant-loop-class
invariant-loop-class l = l.list ≡ l.initial.list ++ take l.class-index l.classes

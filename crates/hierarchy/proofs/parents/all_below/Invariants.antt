use Rattle.std.proofs.Common.{ℕ, ◌<◌, take}
use Rattle.std.specs.List.{Contains}
use Rattle.hierarchy.proofs.parents.all_below.Given as goal

abbrev pub invariant-loop-class : goal.invariant-loop-class
invariant-loop-class l = (c : ℕ) → Contains (take l.class-index l.classes) c → c < l.count

use Rattle.std.proofs.Common.{◌≤◌, length, drop}
use Rattle.typing_effects.specs.ClassNames.{AreNamesFrom}
use Rattle.typing_effects.proofs.class_names.class_names.Given as goal

abbrev pub invariant-loop-left : goal.invariant-loop-left
invariant-loop-left l = (l.left ≤ length l.classes) × AreNamesFrom l.left (drop l.left l.classes) l.names

abbrev pub decreases-loop-left : goal.decreases-loop-left
decreases-loop-left l = l.left

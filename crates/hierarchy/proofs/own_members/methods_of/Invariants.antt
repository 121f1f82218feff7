use Rattle.std.proofs.Common.{◌≤◌, length, drop}
use Rattle.hierarchy.specs.OwnMembers.{AreMethodsOf}
use Rattle.hierarchy.proofs.own_members.methods_of.Given as goal

abbrev pub invariant-loop-left : goal.invariant-loop-left
invariant-loop-left l = (l.left ≤ length l.numbers) × AreMethodsOf l.program (drop l.left l.numbers) l.methods

abbrev pub decreases-loop-left : goal.decreases-loop-left
decreases-loop-left l = l.left

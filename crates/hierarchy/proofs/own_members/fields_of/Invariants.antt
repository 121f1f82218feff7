use Rattle.std.proofs.Common.{◌≤◌, length, drop}
use Rattle.hierarchy.specs.OwnMembers.{AreFieldsOf}
use Rattle.hierarchy.proofs.own_members.fields_of.Given as goal

abbrev pub invariant-loop-left : goal.invariant-loop-left
invariant-loop-left l = (l.left ≤ length l.numbers) × AreFieldsOf l.program (drop l.left l.numbers) l.fields

abbrev pub decreases-loop-left : goal.decreases-loop-left
decreases-loop-left l = l.left

use Rattle.std.proofs.Common.{◌≤◌, length}
use Rattle.jo_policy.proofs.Tables.{IsEntered}
use Rattle.jo_policy.proofs.labelling.label_table.Given as goal

-- the labels from this one on are entered
abbrev pub invariant-loop-i : goal.invariant-loop-i
invariant-loop-i l = (l.i ≤ length l.placed) × IsEntered l.count l.placed l.i l.labels.items l.twice

abbrev pub decreases-loop-i : goal.decreases-loop-i
decreases-loop-i l = l.i

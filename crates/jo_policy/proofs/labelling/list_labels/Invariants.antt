use Rattle.std.proofs.Common.{◌≡◌, ◌++◌, drop}
use Rattle.jo_policy.specs.Labelling.{ordered_from}
use Rattle.jo_policy.proofs.labelling.list_labels.Given as goal

-- the labels before this one are listed
abbrev pub invariant-loop-i : goal.invariant-loop-i
invariant-loop-i l = l.labelled ++ ordered_from l.i (drop l.i l.labels) ≡ ordered_from 0 l.labels

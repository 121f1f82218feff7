use Rattle.std.proofs.Common.{◌≡◌, ◌++◌, ◌-◌, [], map}
use Rattle.jo_prog.specs.Labels.{label_among}
use Rattle.jo_prog.specs.Numbers.{count_from}
use Rattle.jo_policy.specs.Labelling.{table_of}
use Rattle.jo_policy.proofs.labelling.no_labels.Given as goal

-- so many are there
abbrev pub invariant-loop-place : goal.invariant-loop-place
invariant-loop-place l = l.labels.items ++ map (label_among []) (count_from l.place (l.count - l.place)) ≡ table_of l.count []

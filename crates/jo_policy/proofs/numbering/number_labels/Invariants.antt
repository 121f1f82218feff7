use Rattle.std.proofs.Common.{◌≡◌, drop}
use Rattle.policy_tree.specs.Outcomes.{behind}
use Rattle.jo_policy.specs.Numbering.{labels_numbered}
use Rattle.jo_policy.proofs.numbering.number_labels.Given as goal

-- the labels before this one have numbers
abbrev pub invariant-loop-written : goal.invariant-loop-written
invariant-loop-written l = behind l.numbered (labels_numbered l.levels (drop l.written-index l.labels)) ≡ labels_numbered l.levels l.labels

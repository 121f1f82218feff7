use Rattle.std.proofs.Common.{◌≡◌, drop}
use Rattle.policy_tree.specs.Outcomes.{behind}
use Rattle.jo_policy.specs.Labelling.{placed_by}
use Rattle.jo_policy.proofs.labelling.place_labels.Given as goal

-- the labels before this one have their methods
abbrev pub invariant-loop-label : goal.invariant-loop-label
invariant-loop-label l = behind l.placed (placed_by l.program (drop l.label-index l.labels)) ≡ placed_by l.program l.labels

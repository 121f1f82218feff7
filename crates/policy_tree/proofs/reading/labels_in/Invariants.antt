use Rattle.std.proofs.Common.{◌≡◌}
use Rattle.toml.specs.View.{members_view, table_view}
use Rattle.policy_tree.specs.Outcomes.{behind}
use Rattle.policy_tree.specs.PolicyTree.{labels_in}
use Rattle.policy_tree.proofs.reading.labels_in.Given as goal

-- the keys before this one have been read
abbrev pub invariant-loop-key : goal.invariant-loop-key
invariant-loop-key l = behind l.labels (labels_in l.table (members_view l.key-iterator)) ≡ behind l.initial.labels (labels_in l.table (table_view l.entries))

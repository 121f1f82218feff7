use Rattle.std.proofs.Common.{◌≡◌}
use Rattle.toml.specs.View.{members_view, table_view}
use Rattle.policy_tree.specs.Outcomes.{behind}
use Rattle.policy_tree.specs.PolicyTree.{releases_in}
use Rattle.policy_tree.proofs.reading.releases_in.Given as goal

-- the keys before this one have been read
abbrev pub invariant-loop-key : goal.invariant-loop-key
invariant-loop-key l = behind l.labels (releases_in (members_view l.key-iterator)) ≡ behind l.initial.labels (releases_in (table_view l.entries))

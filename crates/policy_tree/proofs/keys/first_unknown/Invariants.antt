use Rattle.std.proofs.Common.{◌≡◌, not}
use Rattle.std.specs.Prelude.{find}
use Rattle.toml.specs.View.{members_view, table_view}
use Rattle.policy_tree.specs.TreeKeys.{keys_of, is_known}
use Rattle.policy_tree.proofs.keys.first_unknown.Given as goal

-- the keys before this one are known
abbrev pub invariant-loop-key : goal.invariant-loop-key
invariant-loop-key l = find (λ key. not (is_known l.keys key)) (keys_of (members_view l.key-iterator)) ≡ find (λ key. not (is_known l.keys key)) (keys_of (table_view l.table))

use Rattle.std.proofs.Common.{◌≡◌, drop}
use Rattle.toml.specs.View.{items_view}
use Rattle.policy_tree.specs.Outcomes.{behind}
use Rattle.policy_tree.specs.PolicyTree.{pairs_in}
use Rattle.policy_tree.proofs.reading.pairs_in.Given as goal

-- the values before this one are pairs, and have been copied
abbrev pub invariant-loop-value : goal.invariant-loop-value
invariant-loop-value l = behind l.pairs (pairs_in l.key (items_view (drop l.value-index l.values))) ≡ pairs_in l.key (items_view l.values)

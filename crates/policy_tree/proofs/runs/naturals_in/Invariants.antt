use Rattle.std.proofs.Common.{◌≡◌, drop}
use Rattle.toml.specs.View.{items_view}
use Rattle.policy_tree.specs.Outcomes.{behind}
use Rattle.policy_tree.specs.RunTree.{naturals_in}
use Rattle.policy_tree.proofs.runs.naturals_in.Given as goal

-- the values before this one are integers, and have been read
abbrev pub invariant-loop-value : goal.invariant-loop-value
invariant-loop-value l = behind l.numbers (naturals_in (items_view (drop l.value-index l.values))) ≡ naturals_in (items_view l.values)

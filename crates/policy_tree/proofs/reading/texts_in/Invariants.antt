use Rattle.std.proofs.Common.{◌≡◌, drop}
use Rattle.toml.specs.View.{items_view}
use Rattle.policy_tree.specs.Outcomes.{behind}
use Rattle.policy_tree.specs.PolicyTree.{texts_in}
use Rattle.policy_tree.proofs.reading.texts_in.Given as goal

-- the values before this one are texts, and have been copied
abbrev pub invariant-loop-value : goal.invariant-loop-value
invariant-loop-value l = behind l.texts (texts_in l.key (items_view (drop l.value-index l.values))) ≡ texts_in l.key (items_view l.values)

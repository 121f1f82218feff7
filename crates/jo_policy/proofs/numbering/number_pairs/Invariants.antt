use Rattle.std.proofs.Common.{◌≡◌, drop}
use Rattle.policy_tree.specs.Outcomes.{behind}
use Rattle.jo_policy.specs.Numbering.{pairs_numbered}
use Rattle.jo_policy.proofs.numbering.number_pairs.Given as goal

-- the pairs before this one have numbers
abbrev pub invariant-loop-low : goal.invariant-loop-low
invariant-loop-low l = behind l.numbered (pairs_numbered l.levels (drop l.low-index l.pairs)) ≡ pairs_numbered l.levels l.pairs

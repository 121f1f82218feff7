use Rattle.std.proofs.Common.{◌≡◌, drop}
use Rattle.policy_tree.specs.Outcomes.{behind}
use Rattle.jo_policy.specs.Numbering.{levels_numbered}
use Rattle.jo_policy.proofs.numbering.number_levels.Given as goal

-- the names before this one have numbers
abbrev pub invariant-loop-name : goal.invariant-loop-name
invariant-loop-name l = behind l.numbered (levels_numbered l.levels (drop l.name-index l.names)) ≡ levels_numbered l.levels l.names

use Rattle.std.proofs.Common.{◌≡◌, drop}
use Rattle.policy_tree.specs.Outcomes.{behind}
use Rattle.run_plans.specs.RunFiles.{within}
use Rattle.run_plans.proofs.run_file.ints_within.Given as goal

-- the numbers before this one are in their range
abbrev pub invariant-loop-value : goal.invariant-loop-value
invariant-loop-value l = behind l.numbers (within (drop l.value-index l.values)) ≡ within l.values

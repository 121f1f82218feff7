use Rattle.std.proofs.Common.{◌≡◌, drop}
use Rattle.policy_tree.specs.Outcomes.{behind}
use Rattle.run_plans.specs.RunFiles.{inputs_within}
use Rattle.run_plans.proofs.run_file.inputs_within.Given as goal

-- the inputs before this one are in their ranges
abbrev pub invariant-loop-input : goal.invariant-loop-input
invariant-loop-input l = behind l.inputs (inputs_within (drop l.input-index l.placed)) ≡ inputs_within l.placed

use Rattle.std.proofs.Common.{◌≡◌, drop}
use Rattle.policy_tree.specs.Outcomes.{behind}
use Rattle.run_plans.specs.RunFiles.{placed_inputs}
use Rattle.run_plans.proofs.run_file.place_inputs.Given as goal

-- the inputs before this one have their sources
abbrev pub invariant-loop-input : goal.invariant-loop-input
invariant-loop-input l = behind l.placed (placed_inputs l.program l.policy.labels (drop l.input-index l.inputs)) ≡ placed_inputs l.program l.policy.labels l.inputs

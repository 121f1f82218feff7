use Rattle.std.proofs.Common.{◌≡◌, ◌++◌, drop}
use Rattle.run_plans.proofs.run_file.copy_values.Given as goal

-- the values before this one have been copied
abbrev pub invariant-loop-value : goal.invariant-loop-value
invariant-loop-value l = l.copied ++ drop l.value-index l.values ≡ l.values

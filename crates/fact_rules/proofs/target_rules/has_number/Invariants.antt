use Rattle.std.proofs.Common.{take}
use Rattle.fact_rules.specs.TargetRules.{HasNumber}
use Rattle.fact_rules.proofs.target_rules.has_number.Given as goal

abbrev pub invariant-loop-target : goal.invariant-loop-target
invariant-loop-target l = HasNumber (take l.target-index l.targets) l.instance → ⊥

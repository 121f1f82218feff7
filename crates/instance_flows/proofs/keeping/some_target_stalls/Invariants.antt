use Rattle.std.proofs.Common.{Contains}
use Rattle.fact_sets.specs.declared.numbered.NumberedFact.TheVariants.{Stalls as MayStall}
use Rattle.instance_flows.proofs.TargetLemmas.{NoneEnds}
use Rattle.instance_flows.proofs.keeping.some_target_stalls.Given as goal

abbrev pub invariant-loop-target : goal.invariant-loop-target
invariant-loop-target g l = NoneEnds l.targets (λ j. Contains l.facts.facts (MayStall j)) l.target-index

use Rattle.fact_sets.specs.Seen.{Known, instance_seen}
use Rattle.fact_rules.specs.Adds.{FromBelow}
use Rattle.fact_rules.specs.Additions.{AddsSeen}
use Rattle.fact_rules.specs.TargetRules.{ArgumentGives}
use Rattle.fact_rules.proofs.target_rules.add_arguments.Given as goal

abbrev pub invariant-loop-k : goal.invariant-loop-k
invariant-loop-k g l = AddsSeen l.initial.following.items l.following.items (λ list. FromBelow l.k (ArgumentGives l.view.program.now (Known list l.facts) (instance_seen list l.caller) l.pc (instance_seen list l.to)))

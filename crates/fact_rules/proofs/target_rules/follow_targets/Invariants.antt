use Rattle.fact_sets.specs.Seen.{Known, Listed, instance_seen}
use Rattle.fact_rules.specs.Adds.{Adds, FromBelow}
use Rattle.fact_rules.specs.Places.{instance_of}
use Rattle.fact_rules.specs.TargetRules.{NodeGives}
use Rattle.fact_rules.proofs.target_rules.follow_targets.Given as goal

abbrev pub invariant-loop-n : goal.invariant-loop-n
invariant-loop-n g l = Adds (Listed g.X.Contexts.list l.initial.following.items) (Listed g.X.Contexts.list l.following.items)
    (FromBelow l.n (NodeGives l.view.program.now (Known g.X.Contexts.list l.facts) (instance_seen g.X.Contexts.list (instance_of l.view.method l.context)) (g.X.Contexts.policy l.contexts) l.view.wide.now))

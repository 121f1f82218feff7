use Rattle.jo_prog.specs.TypingPaths.{HasHeightAt}
use Rattle.fact_sets.specs.Seen.{Known, Listed, instance_seen}
use Rattle.fact_rules.specs.Adds.{Adds, FromBelow}
use Rattle.fact_rules.specs.Places.{instance_of}
use Rattle.fact_rules.specs.ValueSteps.{ValuesAt}
use Rattle.fact_rules.proofs.value_rules.follow_values.Given as goal

abbrev pub invariant-loop-n : goal.invariant-loop-n
invariant-loop-n g l = Adds (Listed g.X.Contexts.list l.initial.following.items) (Listed g.X.Contexts.list l.following.items)
    (FromBelow l.n (ValuesAt l.view.program.now (g.X.Contexts.policy l.contexts) (Known g.X.Contexts.list l.facts) (HasHeightAt l.view.program.now l.view.method)
    (instance_seen g.X.Contexts.list (instance_of l.view.method l.context)) l.view.wide.now))

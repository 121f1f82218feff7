use Rattle.std.proofs.Common.{take}
use Rattle.fact_sets.specs.Seen.{Listed, instance_seen}
use Rattle.fact_rules.specs.Adds.{Adds, From}
use Rattle.fact_rules.specs.Places.{instance_of}
use Rattle.fact_rules.specs.RaiseRules.{ThrowsRaised}
use Rattle.fact_rules.proofs.raise_rules.add_each.Given as goal

abbrev pub invariant-loop-r : goal.invariant-loop-r
invariant-loop-r g l = Adds (Listed g.X.Contexts.list l.initial.following.items) (Listed g.X.Contexts.list l.following.items)
    (From (take l.r-index l.raised) (ThrowsRaised l.view.program.now (g.X.Contexts.policy l.contexts) (instance_seen g.X.Contexts.list (instance_of l.view.method l.context))))

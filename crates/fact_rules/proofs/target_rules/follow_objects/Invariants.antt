use Rattle.std.proofs.Common.{take}
use Rattle.fact_sets.specs.Seen.{Known, Listed, instance_seen}
use Rattle.fact_rules.specs.Adds.{Adds, From}
use Rattle.fact_rules.specs.Additions.{OfObject}
use Rattle.fact_rules.specs.Places.{instance_of}
use Rattle.fact_rules.specs.TargetRules.{ObjectGives}
use Rattle.fact_rules.proofs.target_rules.follow_objects.Given as goal

abbrev pub invariant-loop-o : goal.invariant-loop-o
invariant-loop-o g l = Adds (Listed g.X.Contexts.list l.initial.following.items) (Listed g.X.Contexts.list l.following.items)
    (From (take l.o-index l.held) (OfObject g.X.Contexts.list l.facts.objects
    (ObjectGives l.view.program.now (Known g.X.Contexts.list l.facts) (instance_seen g.X.Contexts.list (instance_of l.view.method l.context)) l.call.pc (g.X.Contexts.policy l.contexts) l.call.op l.call.member.now l.call.resolved)))

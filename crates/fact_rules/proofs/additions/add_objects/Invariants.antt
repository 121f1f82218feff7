use Rattle.std.proofs.Common.{◌≡◌, take}
use Rattle.dependence.specs.declared.facts.Fact.TheVariants.{Holds}
use Rattle.fact_sets.specs.Seen.{instance_seen}
use Rattle.fact_rules.specs.Adds.{From}
use Rattle.fact_rules.specs.Additions.{AddsSeen, OfObject}
use Rattle.fact_rules.proofs.additions.add_objects.Given as goal

abbrev pub invariant-loop-o : goal.invariant-loop-o
invariant-loop-o g l =
    AddsSeen l.initial.following.items l.following.items (λ list. From (take l.o-index l.objects) (OfObject list l.facts.objects (λ o f. f ≡ Holds (instance_seen list l.key) l.kind o)))

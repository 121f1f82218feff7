use Rattle.std.proofs.Common.{take}
use Rattle.fact_sets.specs.Seen.{instance_seen}
use Rattle.fact_rules.specs.Adds.{From}
use Rattle.fact_rules.specs.Additions.{AddsSeen, OfObject}
use Rattle.fact_rules.specs.CatchRules.{ThrownGives}
use Rattle.fact_rules.proofs.catch_rules.follow_throw.Given as goal

abbrev pub invariant-loop-o : goal.invariant-loop-o
invariant-loop-o g l =
    AddsSeen l.initial.following.items l.following.items (λ list. From (take l.o-index l.held) (OfObject list l.facts.objects (ThrownGives l.view.program.now (instance_seen list l.key) l.pc)))

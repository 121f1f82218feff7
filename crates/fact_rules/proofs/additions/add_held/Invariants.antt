use Rattle.std.proofs.Common.{Contains, take}
use Rattle.fact_rules.specs.Adds.{Adds, From}
use Rattle.fact_rules.specs.Additions.{SaysHeld}
use Rattle.fact_rules.proofs.additions.add_held.Given as goal

abbrev pub invariant-loop-o : goal.invariant-loop-o
invariant-loop-o g l = Adds (Contains l.initial.following.items) (Contains l.following.items) (From (take l.o-index l.objects) (SaysHeld l.facts.objects l.key l.kind))

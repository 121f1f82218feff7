use Rattle.std.proofs.Common.{ℕ, List, take}
use Rattle.fact_sets.specs.Seen.{TellsApart, Known, Listed, instance_seen}
use Rattle.fact_rules.specs.Adds.{Adds, From, FromBelow}
use Rattle.fact_rules.specs.TargetRules.{ArgumentGives}
use Rattle.fact_rules.proofs.ListLevel.{OfTarget}
use Rattle.fact_rules.proofs.target_rules.follow_arguments.Given as goal

abbrev pub invariant-loop-target : goal.invariant-loop-target
invariant-loop-target g l =
    (list : g.row.C.Denot → List ℕ) (tells : TellsApart list) → Adds (Listed list l.initial.following.items) (Listed list l.following.items)
    (From (take l.target-index l.targets) (OfTarget list tells l.facts (λ j. FromBelow l.end (ArgumentGives l.view.program.now (Known list l.facts) (instance_seen list l.caller) l.pc j))))

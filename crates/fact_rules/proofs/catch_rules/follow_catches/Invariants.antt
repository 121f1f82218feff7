use Rattle.fact_sets.specs.Seen.{instance_seen, Known}
use Rattle.fact_rules.specs.Adds.{FromBelow}
use Rattle.fact_rules.specs.Additions.{AddsSeen}
use Rattle.fact_rules.proofs.CatchLemmas.{CatchGivesAt}
use Rattle.fact_rules.proofs.catch_rules.follow_catches.Given as goal

abbrev pub invariant-loop-n : goal.invariant-loop-n
invariant-loop-n g l = AddsSeen l.initial.following.items l.following.items (λ list. FromBelow l.n (CatchGivesAt l.view.program.now (Known list l.facts) (instance_seen list l.key) l.view.wide.now))

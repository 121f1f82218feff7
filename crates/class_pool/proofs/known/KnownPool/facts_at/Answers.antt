use Rattle.class_pool.proofs.KnownFacts.{found_at, none_at}
use Rattle.class_pool.proofs.known.KnownPool.facts_at.Goals as goal

pub returns-in-Some : goal.returns-in-Some
returns-in-Some c =
    rw (← c.self.view_is) (found_at c.self.inside.pool c.self.inside.facts.items c.self.invariant c.args.index c.in-Some.facts.now (rw c.as_slice.ensures.value at c.in-Some.ensures))

pub returns-in-None : goal.returns-in-None
returns-in-None c =
    rw (← c.self.view_is) (none_at c.self.inside.pool c.self.inside.facts.items c.self.invariant c.args.index (rw c.as_slice.ensures.value at c.in-None.ensures))

use Rattle.std.proofs.Common.{take}
use Rattle.points_to.specs.Additions.{IsFew, Takes, TakesOnly}
use Rattle.points_to.proofs.additions.take_all.Given as goal

abbrev pub invariant-loop-fact : goal.invariant-loop-fact
invariant-loop-fact g l =
    TakesOnly l.fn.facts l.facts (take l.fact-index l.fn.following) × Takes l.fn.facts l.facts (take l.fact-index l.fn.following) × IsFew l.facts

use Rattle.std.proofs.Common.{◌+◌, []}
use Rattle.points_to.proofs.TakeLemmas.{none_only, takes_none, only_next, takes_next, only_of}
use Rattle.points_to.proofs.additions.take_all.Goals as goal

pub loop-fact-init : goal.loop-fact-init
loop-fact-init g c = (none_only c.args.facts.now [], takes_none c.args.facts.now, c.requires)

pub returns-in_err-take-clause-only : goal.returns-in_err-take-clause-only
returns-in_err-take-clause-only g c =
    only_of c.args.facts.now c.take.new.facts c.args.following.now (c.loop-fact.fact-index + 1)
    (only_next c.args.following.now c.loop-fact.fact-index c.fact-item.result c.loop-fact-test.true c.fact-item.is c.args.facts.now c.loop-fact.facts c.take.new.facts c.loop-fact.invariant.0 c.take.ensures.only)

pub loop-fact-preserved : goal.loop-fact-preserved
loop-fact-preserved g c = (
  only_next c.args.following.now c.loop-fact.fact-index c.fact-item.result c.loop-fact-test.true c.fact-item.is c.args.facts.now c.loop-fact.facts c.take.new.facts c.loop-fact.invariant.0 c.take.ensures.only,
  takes_next c.args.following.now c.loop-fact.fact-index c.fact-item.result c.loop-fact-test.true c.fact-item.is c.args.facts.now c.loop-fact.facts c.take.new.facts c.loop-fact.invariant.1 c.in_ok-take.ensures.ok,
  c.in_ok-take.ensures.few,
)

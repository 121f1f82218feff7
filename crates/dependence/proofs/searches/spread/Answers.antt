use Rattle.dependence.proofs.BehindLemmas.{spreads_first, spreads_more, all_behind}
use Rattle.dependence.proofs.searches.spread.Goals as goal

pub loop-done-init : goal.loop-done-init
loop-done-init c = spreads_first c.args.flow.now c.args.stop c.args.start c.args.found.now c.args.queue.now c.args.end c.requires.first

pub loop-done-preserved : goal.loop-done-preserved
loop-done-preserved c =
    spreads_more c.args.flow.now c.args.stop c.args.start c.loop-done.found c.loop-done.queue c.loop-done.done c.loop-done.end c.loop-done.invariant c.loop-done-test.true
    c.follow_on-end.new.found c.follow_on-end.new.queue c.follow_on-end.result c.follow_on-end.ensures

pub returns-clause-found : goal.returns-clause-found
returns-clause-found c = all_behind c.args.flow.now c.args.stop c.args.start c.loop-done.found c.loop-done.queue c.loop-done.done c.loop-done.end c.loop-done.invariant c.loop-done-test.false

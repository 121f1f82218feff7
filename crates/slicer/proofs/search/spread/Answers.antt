use Rattle.std.proofs.Common.{refl, ◌∙◌, arith}
use Rattle.slicer.proofs.SearchLemmas.{spreads_first, spreads_more, spreads_closed}
use Rattle.slicer.proofs.search.spread.Goals as goal

pub loop-done-init : goal.loop-done-init
loop-done-init c = (refl, spreads_first c.args.graph.now c.args.finds.now.found c.requires.search)

pub loop-done-preserved : goal.loop-done-preserved
loop-done-preserved c = (
  c.follow.ensures.count ∙ c.loop-done.invariant.0,
  spreads_more c.args.graph.now c.args.finds.now.found c.loop-done.finds.found c.follow.new.finds.found c.loop-done.done c.loop-done.invariant.1 (omega arith) c.follow.ensures.more c.follow.ensures.all,
)

pub returns-clause-closed : goal.returns-clause-closed
returns-clause-closed c = spreads_closed c.args.graph.now c.args.finds.now.found c.loop-done.finds.found c.loop-done.done c.loop-done.invariant.1 (omega arith)

use Rattle.slicer.proofs.SearchLemmas.{begun_is_search, is_slice, criteria_are}
use Rattle.slicer.proofs.marking.Slicer.mark.Goals as goal

pub spread-requires-clause-search : goal.spread-requires-clause-search
spread-requires-clause-search c = begun_is_search c.args.graph.now c.args.criteria.now c.begin.new.finds.found c.begin.ensures.begins

pub returns-clause-marked : goal.returns-clause-marked
returns-clause-marked c = is_slice c.args.graph.now c.args.criteria.now c.begin.new.finds.found c.spread.new.finds.found c.begin.ensures.begins c.spread.ensures.more c.spread.ensures.search c.spread.ensures.closed

pub returns-clause-criteria : goal.returns-clause-criteria
returns-clause-criteria c = criteria_are c.args.graph.now c.args.criteria.now c.begin.new.finds.found c.spread.new.finds.found c.begin.ensures.begins c.spread.ensures.more c.spread.ensures.search c.spread.ensures.closed

use Rattle.std.proofs.Common.{get_or, length, ◌-◌}
use Rattle.jo_graph.proofs.GraphLemmas.{Spreads}
use Rattle.jo_graph.proofs.spread.Given as goal

abbrev pub invariant-loop-done : goal.invariant-loop-done
invariant-loop-done l = Spreads l.graph (get_or l.initial.queue 0 0) l.found l.queue l.done l.end

abbrev pub decreases-loop-done : goal.decreases-loop-done
decreases-loop-done l = length l.initial.queue - l.done

use Rattle.std.proofs.Common.{◌≡◌, length, ◌-◌}
use Rattle.dependence.proofs.BehindLemmas.{Spreads}
use Rattle.dependence.proofs.searches.spread.Given as goal

abbrev pub invariant-loop-done : goal.invariant-loop-done
invariant-loop-done l = Spreads l.flow l.stop l.start l.found l.queue l.done l.end

abbrev pub decreases-loop-done : goal.decreases-loop-done
decreases-loop-done l = length l.initial.queue - l.done

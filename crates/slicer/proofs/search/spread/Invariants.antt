use Rattle.std.proofs.Common.{◌≡◌, ◌+◌, ◌-◌}
use Rattle.slicer.proofs.SearchLemmas.{Spreads}
use Rattle.slicer.proofs.search.spread.Given as goal

abbrev pub invariant-loop-done : goal.invariant-loop-done
invariant-loop-done l = (l.finds.count ≡ l.initial.finds.count) × Spreads l.graph l.initial.finds.found l.finds.found l.done

abbrev pub decreases-loop-done : goal.decreases-loop-done
decreases-loop-done l = (l.initial.finds.count + l.initial.finds.count) - l.done

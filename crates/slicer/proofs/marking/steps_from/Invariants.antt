use Rattle.std.proofs.Common.{get_or}
use Rattle.slicer.specs.declared.finds.Found.{Found}
use Rattle.slicer.proofs.SearchLemmas.{Walks}
use Rattle.slicer.proofs.marking.steps_from.Given as goal

abbrev pub invariant-loop-word : goal.invariant-loop-word
invariant-loop-word l = (d : Found) → Walks l.graph l.finds.found (get_or l.finds.found l.fn.number d).place.node l.fn.number l.number l.steps

abbrev pub decreases-loop-word : goal.decreases-loop-word
decreases-loop-word l = l.number

use Rattle.std.proofs.Common.{◌≡◌, ℕ, length, take}
use Rattle.plain_graph.specs.Slices.{mark_at, HasNoStep, AreMarkedAs}
use Rattle.plain_graph.proofs.slicer.mark_criteria.Given as goal

abbrev pub invariant-loop-criterion : goal.invariant-loop-criterion
invariant-loop-criterion l =
    (length l.marks.items ≡ length l.initial.marks.items) × AreMarkedAs l.marks.items (take l.criterion-index l.criteria)
    × ((n : ℕ) → HasNoStep (mark_at l.marks.items n))

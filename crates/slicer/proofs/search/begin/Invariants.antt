use Rattle.std.proofs.Common.{◌≡◌, take}
use Rattle.slicer.specs.Slices.{BeginsWith}
use Rattle.slicer.proofs.search.begin.Given as goal

abbrev pub invariant-loop-criterion : goal.invariant-loop-criterion
invariant-loop-criterion l = (l.finds.count ≡ l.initial.finds.count) × BeginsWith (take l.criterion-index l.criteria) l.finds.found

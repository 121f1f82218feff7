use Rattle.std.proofs.Common.{◌≡◌, ℕ, ◌<◌, get_or}
use Rattle.slicer.specs.Finds.{place, HasPlace}
use Rattle.slicer.specs.Slices.{Appends, IsPassTo}
use Rattle.slicer.proofs.search.follow_passes.Given as goal

abbrev pub invariant-loop-node : goal.invariant-loop-node
invariant-loop-node l =
    record {
      count : l.finds.count ≡ l.initial.finds.count;
      more : Appends (IsPassTo l.nodes l.number l.place) l.initial.finds.found l.finds.found;
      all : (k : ℕ) → k < l.node-index → HasPlace l.finds.found (place (get_or l.nodes k 0) l.place.phase);
    }

use Rattle.std.proofs.Common.{◌≡◌, ℕ, ◌<◌, get_or}
use Rattle.dep_nodes.specs.declared.kinds.EdgeKind.{EdgeKind}
use Rattle.slicer.specs.declared.finds.Phase.{Phase}
use Rattle.slicer.specs.Finds.{place, HasPlace}
use Rattle.slicer.specs.Slices.{Appends, IsStepTo, IsPhaseBefore}
use Rattle.slicer.proofs.search.follow_edges.Given as goal

abbrev pub invariant-loop-edge : goal.invariant-loop-edge
invariant-loop-edge l =
    record {
      count : l.finds.count ≡ l.initial.finds.count;
      more : Appends (IsStepTo l.graph l.number l.place) l.initial.finds.found l.finds.found;
      all : (k : ℕ) (d : ℕ × EdgeKind) (phase : Phase) → k < l.edge-index → IsPhaseBefore l.graph (get_or l.edges k d).0 (get_or l.edges k d).1 l.place phase → HasPlace l.finds.found (place (get_or l.edges k d).0 phase);
    }

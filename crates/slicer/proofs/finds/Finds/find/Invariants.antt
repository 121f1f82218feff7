use Rattle.std.proofs.Common.{◌≡◌, ℕ, ◌<◌, get_or}
use Rattle.slicer.specs.declared.finds.Found.{Found}
use Rattle.slicer.proofs.finds.Finds.find.Given as goal

abbrev pub invariant-loop-number : goal.invariant-loop-number
invariant-loop-number l = (k : ℕ) (d : Found) → k < l.number → (get_or l.self-inside.places.items k d).place.node ≡ l.node → ⊥

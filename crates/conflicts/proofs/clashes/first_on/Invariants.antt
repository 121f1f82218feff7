use Rattle.std.proofs.Common.{◌≡◌, ℕ, ◌<◌, Some, slice_get}
use Rattle.dep_nodes.specs.declared.access_table.Accessor.{Accessor}
use Rattle.conflicts.specs.Sides.{side_of}
use Rattle.conflicts.specs.Clashes.{IsOn}
use Rattle.conflicts.proofs.clashes.first_on.Given as goal

abbrev pub invariant-loop-accessor : goal.invariant-loop-accessor
invariant-loop-accessor l = (k : ℕ) (x : Accessor) → k < l.accessor-index → slice_get l.accessors k ≡ Some x → IsOn (side_of l.regions l.side) l.leads l.wanted x → ⊥

use Rattle.std.proofs.Common.{◌≡◌, ℕ, ◌<◌, Some, slice_get}
use Rattle.dep_nodes.specs.declared.access_table.Accessor.{Accessor}
use Rattle.dep_nodes.specs.declared.access_table.CellAccesses.{CellAccesses}
use Rattle.conflicts.specs.Clashes.{AreClashing}
use Rattle.conflicts.proofs.finding.data_among.Given as goal

abbrev pub invariant-loop-cell : goal.invariant-loop-cell
invariant-loop-cell l = (k : ℕ) (at : CellAccesses) → k < l.cell-index → slice_get l.cells k ≡ Some at → (a b : Accessor) → AreClashing l.regions l.leads at.accessors a b → ⊥

-- Cells, each with its accesses (this project's own): what conflicts between threads are found from.
use Rattle.std.specs.Prelude.{◌≡◌, ◌⊎◌, ℕ, List, [], ◌∷◌, ◌++◌, map, Contains, slice_get, slice_set, IsSomeAnd}
use Rattle.dep_nodes.specs.declared.accesses.Cell.{Cell}
use Rattle.dep_nodes.specs.declared.access_table.Accessor.{Accessor}
use Rattle.dep_nodes.specs.declared.access_table.CellAccesses.{CellAccesses}

-- the access stands at its cell
abbrev pub IsListed : List CellAccesses → Cell → Accessor → Type 0
IsListed cells cell accessor = (k : ℕ) × IsSomeAnd (slice_get cells k) (λ at. (at.cell ≡ cell) × Contains at.accessors accessor)

-- the access stands behind those of its cell besides
abbrev pub ListsAtCell : List CellAccesses → List CellAccesses → Cell → Accessor → Type 0
ListsAtCell old new cell accessor =
    (k : ℕ) × IsSomeAnd (slice_get old k) (λ at. (at.cell ≡ cell) × (new ≡ slice_set old k (record at { accessors = at.accessors ++ accessor ∷ [] })))

-- the cell, which wasn't there, stands at the end with the access
abbrev pub ListsCell : List CellAccesses → List CellAccesses → Cell → Accessor → Type 0
ListsCell old new cell accessor = (Contains (map (λ at. at.cell) old) cell → ⊥) × (new ≡ old ++ record { cell = cell; accessors = accessor ∷ [] } ∷ [])

-- the table has the access besides, and everything else is as before
abbrev pub ListsAccess : List CellAccesses → List CellAccesses → Cell → Accessor → Type 0
ListsAccess old new cell accessor = ListsAtCell old new cell accessor ⊎ ListsCell old new cell accessor

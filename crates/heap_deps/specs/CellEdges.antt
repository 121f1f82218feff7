-- Edges from what writes a cell to what reads it.
use Rattle.std.specs.Prelude.{◌≡◌, ◌↔◌, ℕ, true, false, List, Contains}
use Rattle.dep_nodes.specs.declared.kinds.EdgeKind.TheVariants.{Heap}
use Rattle.dep_nodes.specs.declared.accesses.Access.{Access}
use Rattle.dep_nodes.specs.declared.accesses.Cell.{Cell}
use Rattle.dep_nodes.specs.declared.access_table.Accessor.{Accessor}
use Rattle.dep_nodes.specs.declared.access_table.CellAccesses.{CellAccesses}
use Rattle.dep_nodes.specs.declared.dependence_graph.GraphNode.{GraphNode}
use Rattle.dep_nodes.specs.GrowingGraphs.{HasAccess}
use Rattle.heap_deps.specs.declared.cell_edges.CellEnds.{CellEnds}
use Rattle.heap_deps.specs.Items.{Item, access, edge}
use Rattle.heap_deps.specs.Adds.{From}

abbrev pub writing : Cell → Access
writing cell = record { cell = cell; write = true }

abbrev pub reading : Cell → Access
reading cell = record { cell = cell; write = false }

-- one node writes a cell, and the other reads it
pub record IsThroughCell (rows : List GraphNode) (from to : ℕ) : Type 0 where
  pub cell : Cell
  pub writes : HasAccess rows from (writing cell)
  pub reads : HasAccess rows to (reading cell)

-- the heap edges by the accesses of a graph
abbrev pub IsHeapItem : List GraphNode → Item → Type 0
IsHeapItem rows (access n a) = ⊥
IsHeapItem rows (edge from kind to) = (kind ≡ Heap) × IsThroughCell rows from to

-- ---- the same from one cell

-- among these accesses of a cell
abbrev pub LeadsBy : List Accessor → ℕ → ℕ → Type 0
LeadsBy accessors from to = Contains accessors (record { node = from; write = true }) × Contains accessors (record { node = to; write = false })

abbrev pub LeadsThrough : CellEnds → ℕ → ℕ → Type 0
LeadsThrough ends from to = Contains ends.writers from × Contains ends.readers to

abbrev pub heap_to : ℕ → ℕ → Item → Type 0
heap_to from to x = x ≡ edge from Heap to

abbrev pub EdgesFrom : List ℕ → ℕ → Item → Type 0
EdgesFrom readers from = From readers (heap_to from)

abbrev pub EdgesBetween : CellEnds → Item → Type 0
EdgesBetween ends = From ends.writers (EdgesFrom ends.readers)

-- what stands for the cells leads from what writes one of them to what reads it
abbrev pub AreEndsOf : List CellAccesses → List CellEnds → Type 0
AreEndsOf cells all =
    (pair : ℕ × ℕ) → From all (λ (ends : CellEnds) (p : ℕ × ℕ). LeadsThrough ends p.0 p.1) pair ↔ From cells (λ (at : CellAccesses) (p : ℕ × ℕ). LeadsBy at.accessors p.0 p.1) pair

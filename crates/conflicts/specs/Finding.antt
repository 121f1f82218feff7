-- Which conflict is found, fork by fork (this project's own).
use Rattle.std.specs.Prelude.{◌≡◌, ℕ, Bool, true, false, List, Option, Some, None, slice_get}
use Rattle.jo_ids.specs.Rows.{has_number}
use Rattle.dep_nodes.specs.declared.access_table.Accessor.{Accessor}
use Rattle.dep_nodes.specs.declared.access_table.CellAccesses.{CellAccesses}
use Rattle.dep_nodes.specs.declared.dependence_graph.GraphNode.{GraphNode}
use Rattle.dep_nodes.specs.Regions.{ParallelAt}
use Rattle.dep_nodes.specs.Conflicts.{MayClash, OrderConflict, DataConflict}
use Rattle.thread_regions.specs.declared.tables.ForkRegions.{ForkRegions}
use Rattle.thread_regions.specs.declared.conflicting.Conflict.{Conflict}
use Rattle.conflicts.specs.Clashes.{AreClashing}

-- ---- the answer

abbrev pub IsIn : List Bool → ℕ → Type 0
IsIn row n = has_number row n ≡ true

-- the two nodes are parallel at the fork, and both are seen
pub record IsOrderConflict (nodes : List GraphNode) (seen : ℕ → Type 0) (c : Conflict) : Type 0 where
  pub parallel : ParallelAt nodes c.fork c.inside c.after
  pub sees_inside : seen c.inside
  pub sees_after : seen c.after

-- the two nodes are parallel at the fork, they clash, and both lead to what is seen
pub record IsDataConflict (nodes : List GraphNode) (leads : ℕ → Type 0) (c : Conflict) : Type 0 where
  pub parallel : ParallelAt nodes c.fork c.inside c.after
  pub clash : MayClash nodes c.inside c.after
  pub inside_leads : leads c.inside
  pub after_leads : leads c.after

abbrev pub HasNoOrderConflict : List GraphNode → (ℕ → Type 0) → Type 0
HasNoOrderConflict nodes seen = (a b : ℕ) → OrderConflict nodes seen a b → ⊥

abbrev pub HasNoDataConflict : List GraphNode → (ℕ → Type 0) → Type 0
HasNoDataConflict nodes leads = (a b : ℕ) → DataConflict nodes leads a b → ⊥

abbrev pub IsConflictOfKind : List GraphNode → (ℕ → Type 0) → (ℕ → Type 0) → Conflict → Bool → Type 0
IsConflictOfKind nodes seen leads c true = IsOrderConflict nodes seen c
IsConflictOfKind nodes seen leads c false = HasNoOrderConflict nodes seen × IsDataConflict nodes leads c

-- an order conflict if there is one, else a data conflict, and none where there is neither
abbrev pub IsFirstConflict : List GraphNode → (ℕ → Type 0) → (ℕ → Type 0) → Option Conflict → Type 0
IsFirstConflict nodes seen leads None = HasNoOrderConflict nodes seen × HasNoDataConflict nodes leads
IsFirstConflict nodes seen leads (Some c) = IsConflictOfKind nodes seen leads c c.order

-- ---- at one fork, and at several

-- both nodes are seen, on the two sides of the fork
pub record AreSeenAt (r : ForkRegions) (seen : List Bool) (a b : ℕ) : Type 0 where
  pub in_child : has_number r.child a ≡ true
  pub in_after : has_number r.after b ≡ true
  pub sees_inside : has_number seen a ≡ true
  pub sees_after : has_number seen b ≡ true

-- both nodes lead on, on the two sides of the fork, and they clash
pub record AreClashingAt (nodes : List GraphNode) (r : ForkRegions) (leads : List Bool) (a b : ℕ) : Type 0 where
  pub in_child : has_number r.child a ≡ true
  pub in_after : has_number r.after b ≡ true
  pub inside_leads : has_number leads a ≡ true
  pub after_leads : has_number leads b ≡ true
  pub clash : MayClash nodes a b

-- a conflict at the fork, between two nodes that At relates
pub record IsAt (r : ForkRegions) (At : ℕ → ℕ → Type 0) (order : Bool) (c : Conflict) : Type 0 where
  pub kind : c.order ≡ order
  pub of_fork : c.fork ≡ r.fork
  pub related : At c.inside c.after

abbrev pub IsOrderAt : ForkRegions → List Bool → Option Conflict → Type 0
IsOrderAt r seen None = (a b : ℕ) → AreSeenAt r seen a b → ⊥
IsOrderAt r seen (Some c) = IsAt r (AreSeenAt r seen) true c

abbrev pub IsOrderAmong : List ForkRegions → List Bool → Option Conflict → Type 0
IsOrderAmong forks seen None = (k : ℕ) (r : ForkRegions) → slice_get forks k ≡ Some r → (a b : ℕ) → AreSeenAt r seen a b → ⊥
IsOrderAmong forks seen (Some c) = (k : ℕ) × (r : ForkRegions) × (slice_get forks k ≡ Some r) × IsAt r (AreSeenAt r seen) true c

-- a data conflict at the fork between two accessors of the cell
pub record IsAtCell (at : CellAccesses) (r : ForkRegions) (leads : List Bool) (c : Conflict) : Type 0 where
  pub first : Accessor
  pub second : Accessor
  pub clashing : AreClashing r leads at.accessors first second
  pub is : c ≡ record { order = false; fork = r.fork; inside = first.node; after = second.node }

abbrev pub IsDataAtCell : CellAccesses → ForkRegions → List Bool → Option Conflict → Type 0
IsDataAtCell at r leads None = (a b : Accessor) → AreClashing r leads at.accessors a b → ⊥
IsDataAtCell at r leads (Some c) = IsAtCell at r leads c

abbrev pub IsDataAtCells : List CellAccesses → ForkRegions → List Bool → Option Conflict → Type 0
IsDataAtCells cells r leads None =
    (k : ℕ) (at : CellAccesses) → slice_get cells k ≡ Some at
    → (a b : Accessor) → AreClashing r leads at.accessors a b → ⊥
IsDataAtCells cells r leads (Some c) =
    (k : ℕ) × (at : CellAccesses) × (slice_get cells k ≡ Some at) × IsAtCell at r leads c

abbrev pub IsDataAt : List GraphNode → ForkRegions → List Bool → Option Conflict → Type 0
IsDataAt nodes r leads None = (a b : ℕ) → AreClashingAt nodes r leads a b → ⊥
IsDataAt nodes r leads (Some c) = IsAt r (AreClashingAt nodes r leads) false c

abbrev pub IsDataAmong : List GraphNode → List ForkRegions → List Bool → Option Conflict → Type 0
IsDataAmong nodes forks leads None = (k : ℕ) (r : ForkRegions) → slice_get forks k ≡ Some r → (a b : ℕ) → AreClashingAt nodes r leads a b → ⊥
IsDataAmong nodes forks leads (Some c) = (k : ℕ) × (r : ForkRegions) × (slice_get forks k ≡ Some r) × IsAt r (AreClashingAt nodes r leads) false c

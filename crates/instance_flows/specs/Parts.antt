-- The part of a graph that a node reaches, with numbers of its own (reachability is standard; this form is this project's own).
use Rattle.std.specs.Prelude.{◌≡◌, ◌↔◌, ℕ, Bool, true, List, Contains, Some, option_map, slice_get}
use Rattle.std.specs.List.{AllZip}
use Rattle.jo_ids.specs.Path.{Path}
use Rattle.jo_ids.specs.Rows.{has_number}
use Rattle.dep_nodes.specs.OnceLists.{IsOnceEach}
use Rattle.dependence.specs.declared.flow.Place.{Place}
use Rattle.dependence.specs.declared.flows.FlowRow.{FlowRow}
use Rattle.dependence.specs.FlowData.{EdgeIn, ReadsIn, WritesIn}
use Rattle.flow_graph.specs.Adding.{HasThose}

-- one of these numbers stands at the place
abbrev pub IsPlaceAmong : List ℕ → List ℕ → ℕ → Type 0
IsPlaceAmong numbers ends x = (b : ℕ) × Contains ends b × (slice_get numbers x ≡ Some b)

-- the set has the number, and it is this one
abbrev pub IsFoundAt : List Bool → ℕ → ℕ → Type 0
IsFoundAt found n x = (x ≡ n) × (has_number found x ≡ true)

abbrev pub IsFound : List Bool → ℕ → Type 0
IsFound found n = has_number found n ≡ true

-- the row of a node that had number n: its node and places as they were, and the edges that are kept
pub record IsPartRow (flow kept : List FlowRow) (numbers : List ℕ) (n : ℕ) (row : FlowRow) : Type 0 where
  pub node : option_map (λ (old : FlowRow). old.node) (slice_get flow n) ≡ Some row.node
  pub successors : HasThose (λ x. (b : ℕ) × EdgeIn kept n b × (slice_get numbers x ≡ Some b)) row.successors
  pub once : IsOnceEach row.successors
  pub reads : (v : Place) → Contains row.reads v ↔ ReadsIn flow n v
  pub writes : (v : Place) → Contains row.writes v ↔ WritesIn flow n v

-- the nodes of a graph that a node reaches by the edges that are kept
pub record IsPart (flow kept : List FlowRow) (start : ℕ) (part : List FlowRow) : Type 0 where
  pub numbers : List ℕ
  pub once : IsOnceEach numbers
  pub each : (n : ℕ) → Contains numbers n ↔ Path (EdgeIn kept) start n
  pub rows : AllZip (IsPartRow flow kept numbers) numbers part

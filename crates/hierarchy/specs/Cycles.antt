-- Cycles of a graph that is given by the numbers to which edges lead from each number.
use Rattle.std.specs.Prelude.{◌≡◌, ◌⊎◌, ◌↔◌, ℕ, ◌<◌, List, length, Option, Some, None}
use Rattle.std.specs.List.{Contains}
use Rattle.jo_ids.specs.Path.{Path}
use Rattle.jo_graph.specs.Graphs.{HasEdge}
use Rattle.jo_prog.specs.Walks.{Leads}
use Rattle.hierarchy.specs.Orders.{edges}

-- the new graph has the edges of the old one, and those from a number to these
pub record AddsEdges (old new : List (List ℕ)) (number : ℕ) (next : List ℕ) : Type 0 where
  pub same_length : length new ≡ length old
  pub edge : (x y : ℕ) → HasEdge new x y ↔ (HasEdge old x y ⊎ ((x ≡ number) × Contains next y))

-- the graph has the edges of the first numbers
pub record HasEdgesOf (graph made : List (List ℕ)) (count : ℕ) : Type 0 where
  pub same_length : length made ≡ length graph
  pub edge : (x y : ℕ) → HasEdge made x y ↔ ((x < count) × Leads (edges graph) x y)

-- a way from one of the parents leads to a number
abbrev pub LeadsTo : List (List ℕ) → List ℕ → ℕ → Type 0
LeadsTo made parents a = (p : ℕ) × Contains parents p × Path (HasEdge made) p a

-- a number is on a cycle
abbrev pub IsOnCycle : List (List ℕ) → ℕ → Type 0
IsOnCycle graph a = (p : ℕ) × Leads (edges graph) a p × Path (Leads (edges graph)) p a

-- the first number on a cycle, or none where there is no cycle
abbrev pub IsFirstOnCycle : List (List ℕ) → Option ℕ → Type 0
IsFirstOnCycle graph None = (a : ℕ) → IsOnCycle graph a → ⊥
IsFirstOnCycle graph (Some a) = IsOnCycle graph a × ((k : ℕ) → k < a → IsOnCycle graph k → ⊥)

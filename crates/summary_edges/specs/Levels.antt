-- The ways within a call and what it calls, along which summary edges are found (after Reps, Horwitz, Sagiv and Rosay 1994;
-- the closure of joins is this project's own).
use Rattle.std.specs.Prelude.{◌≡◌, ◌↔◌, ◌⊎◌, ℕ, ◌<◌, ◌≤◌, Bool, true, false, List, [], ◌∷◌, ◌++◌, Some, length, Contains, slice_index_or}
use Rattle.jo_ids.specs.Path.{Path}
use Rattle.jo_graph.specs.Graphs.{HasEdge as Leads, AddsEdge}
use Rattle.dep_nodes.specs.declared.kinds.EdgeKind.{EdgeKind}
use Rattle.dep_nodes.specs.declared.kinds.EdgeKind.TheVariants.{Ret}
use Rattle.dep_nodes.specs.declared.dependence_graph.GraphNode.{GraphNode}
use Rattle.dep_nodes.specs.BalancedPaths.{stays_level, begins_call}
use Rattle.dep_nodes.specs.GrowingGraphs.{HasEdge}
use Rattle.dep_nodes.specs.NumberedChains.{name_at, IsNumberedMatched}
use Rattle.summary_edges.specs.declared.joins.Join.{Join}
use Rattle.summary_edges.specs.declared.joins.Sides.{Sides}
use Rattle.summary_edges.specs.declared.levels.Way.{Way}
use Rattle.summary_edges.specs.declared.levels.Way.TheVariants.{Begins, Ends}
use Rattle.summary_edges.specs.Adds.{Adds, From}
use Rattle.summary_edges.specs.Calls.{passes_over, row_of_node}

-- ---- edges by what they do

-- the word of edges that end a call
abbrev pub ends_call : EdgeKind → Bool
ends_call Ret = true
ends_call _ = false

-- an edge with such a word, between nodes of the graph
pub record HasEdgeLike (nodes : List GraphNode) (test : EdgeKind → Bool) (from to : ℕ) : Type 0 where
  pub kind : EdgeKind
  pub word : test kind ≡ true
  pub edge : HasEdge nodes from kind to
  pub inside : from < length nodes

abbrev pub way_test : Way → EdgeKind → Bool
way_test Begins = begins_call
way_test Ends = ends_call

-- the edge with this beginning and word makes the pair of its beginning and its end
abbrev pub MakesEdge : (EdgeKind → Bool) → ℕ → ℕ → ℕ × EdgeKind → ℕ × ℕ → Type 0
MakesEdge test count to edge pair = (test edge.1 ≡ true) × (edge.0 < count) × (pair ≡ (edge.0, to))

-- the new graph has more edges, as pairs of beginning and end
abbrev pub AddsEdges : List (List ℕ) → List (List ℕ) → (ℕ × ℕ → Type 0) → Type 0
AddsEdges old new = Adds (λ (p : ℕ × ℕ). Leads old p.0 p.1) (λ (p : ℕ × ℕ). Leads new p.0 p.1)

-- the same, turned round
abbrev pub AddsTurned : List (List ℕ) → List (List ℕ) → (ℕ × ℕ → Type 0) → Type 0
AddsTurned old new = Adds (λ (p : ℕ × ℕ). Leads old p.1 p.0) (λ (p : ℕ × ℕ). Leads new p.1 p.0)

-- exactly the edges with such a word, as the ends by the beginnings
pub record AreEdgesLike (nodes : List GraphNode) (test : EdgeKind → Bool) (rows : List (List ℕ)) : Type 0 where
  pub same_length : length rows ≡ length nodes
  pub each : (from to : ℕ) → Leads rows from to ↔ HasEdgeLike nodes test from to

-- ---- joins

-- where a call begins and where it ends: from where values go in into what is called, and out of there to where the same
-- call comes out
pub record IsJoin (nodes : List GraphNode) (join : Join) : Type 0 where
  pub begins : HasEdgeLike nodes begins_call join.from join.into
  pub ends : HasEdgeLike nodes ends_call join.out join.to
  pub over : passes_over (name_at nodes join.from) (name_at nodes join.to) ≡ true

abbrev pub joined : ℕ → ℕ → ℕ → ℕ → Join
joined from into out to = record { from = from; into = into; out = out; to = to }

-- ---- joins as they are found

abbrev pub AddsJoins : List Join → List Join → (Join → Type 0) → Type 0
AddsJoins old new = Adds (Contains old) (Contains new)

-- the joins with this return that begin at a node, by the edges from there
abbrev pub JoinsFrom : List GraphNode → Sides → ℕ → ℕ → ℕ → Join → Type 0
JoinsFrom nodes sides out to from join =
    (from < length nodes) × (passes_over (name_at nodes from) (name_at nodes to) ≡ true)
    × From (slice_index_or sides.openings from []) (λ into j. j ≡ joined from into out to) join

-- the joins with this return, by the row of its call
abbrev pub JoinsTo : List GraphNode → Sides → ℕ → ℕ → Join → Type 0
JoinsTo nodes sides out to join =
    (row : ℕ) × (row_of_node (length nodes) (name_at nodes to) ≡ Some row)
    × From (slice_index_or sides.calls row []) (JoinsFrom nodes sides out to) join

-- the joins with this return, where it ends in the graph
abbrev pub JoinsInside : List GraphNode → Sides → ℕ → ℕ → Join → Type 0
JoinsInside nodes sides out to join = (to < length nodes) × JoinsTo nodes sides out to join

-- the joins with a return from this node
abbrev pub JoinsOut : List GraphNode → Sides → ℕ → Join → Type 0
JoinsOut nodes sides out = From (slice_index_or sides.returns out []) (JoinsInside nodes sides out)

-- ---- graphs that lead from a node back to where a matched path to it begins

-- exactly the edges that stay on their level, turned round
pub record AreLevels (nodes : List GraphNode) (levels : List (List ℕ)) : Type 0 where
  pub same_length : length levels ≡ length nodes
  pub each : (from to : ℕ) → Leads levels to from ↔ HasEdgeLike nodes stays_level from to

-- each edge stands for a matched path
abbrev pub AreMatched : List GraphNode → List (List ℕ) → Type 0
AreMatched nodes levels = (from to : ℕ) → Leads levels to from → IsNumberedMatched nodes from to

-- the new graph has the edges of the old one
abbrev pub KeepsEdges : List (List ℕ) → List (List ℕ) → Type 0
KeepsEdges old new = (a b : ℕ) → Leads old a b → Leads new a b

-- if what a join calls leads through, then the join leads over the call
abbrev pub LeadsOver : List (List ℕ) → Join → Type 0
LeadsOver levels join = Path (Leads levels) join.out join.into → Leads levels join.to join.from

-- the edges that stay, those over each call that leads through, and none that stands for no matched path
pub record AreClosed (nodes : List GraphNode) (levels : List (List ℕ)) : Type 0 where
  pub same_length : length levels ≡ length nodes
  pub stays : (from to : ℕ) → HasEdgeLike nodes stays_level from to → Leads levels to from
  pub over : (join : Join) → IsJoin nodes join → LeadsOver levels join
  pub matched : AreMatched nodes levels

-- ---- one pass over the joins

-- a join that leads through is led over, and another is left
abbrev pub Leading : Bool → Join → List (List ℕ) → List (List ℕ) → List Join → List Join → Type 0
Leading true join old new left new_left = AddsEdge old new join.to join.from × (new_left ≡ left)
Leading false join old new left new_left = (new ≡ old) × (new_left ≡ left ++ join ∷ [])

-- Each of the joins is led over or left. Where none was led over, none leads through.
pub record IsRound (nodes : List GraphNode) (joins : List Join) (old new : List (List ℕ)) (left : List Join)
    : Type 0 where
  pub same_length : length new ≡ length old
  pub keeps : KeepsEdges old new
  pub matched : AreMatched nodes new
  pub left_of : (join : Join) → Contains left join → Contains joins join
  pub led : (join : Join) → Contains joins join → Contains left join ⊎ Leads new join.to join.from
  pub fewer : length left ≤ length joins
  pub quiet : length left ≡ length joins → (join : Join) → Contains joins join
      → Path (Leads new) join.out join.into → ⊥

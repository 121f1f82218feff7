-- The graph in which regions are searched (this project's own). An Exit leads to the end of its instance, from there a
-- call edge leads on to the way back to its call, and from there a way leads to each RetKind of that call.
use Rattle.std.specs.Prelude.{◌≡◌, ◌↔◌, ◌⊎◌, ℕ, ◌+◌, ◌*◌, ◌<◌, List, Some, length, map, All, Contains, slice_get, slice_index}
use Rattle.jo_graph.specs.Graphs.{HasEdge as Leads}
use Rattle.dep_nodes.specs.declared.kinds.NodeKind.{NodeKind}
use Rattle.dep_nodes.specs.declared.kinds.NodeKind.TheVariants.{Exit, RetKind}
use Rattle.dep_nodes.specs.declared.kinds.EdgeKind.{EdgeKind}
use Rattle.dep_nodes.specs.declared.kinds.EdgeKind.TheVariants.{Call, Fork}
use Rattle.dep_nodes.specs.declared.dependence_graph.GraphNode.{GraphNode}
use Rattle.thread_regions.specs.declared.places.Group.TheVariants.{Instances, Calls}
use Rattle.thread_regions.specs.declared.search.Spot.{Spot}
use Rattle.thread_regions.specs.declared.search.Spot.TheVariants.{Node, EndOf, BackAt, ChildOf, AfterOf}
use Rattle.thread_regions.specs.Places.{place_of, AreFirsts}

abbrev pub number_of : Spot → ℕ
number_of (Node n) = 5 * n
number_of (EndOf n) = 5 * n + 1
number_of (BackAt n) = 5 * n + 2
number_of (ChildOf n) = 5 * n + 3
number_of (AfterOf n) = 5 * n + 4

-- the numbers of two spots that E relates
pub record Related (E : Spot → Spot → Type 0) (x y : ℕ) : Type 0 where
  pub from : Spot
  pub to : Spot
  pub is_from : x ≡ number_of from
  pub is_to : y ≡ number_of to
  pub relates : E from to

-- the new graph has the edges of the old one, and those between spots that E relates
pub record AddsSpots (old new : List (List ℕ)) (E : Spot → Spot → Type 0) : Type 0 where
  pub same_length : length new ≡ length old
  pub edges : (x y : ℕ) → Leads new x y ↔ (Leads old x y ⊎ Related E x y)

-- ---- what is added for each part of a node

abbrev pub Just : Spot → Spot → Spot → Spot → Type 0
Just from to a b = (a ≡ from) × (b ≡ to)

pub record ForEach {A : Type 0} (items : List A) (Part : A → Spot → Spot → Type 0) (a b : Spot) : Type 0 where
  pub item : A
  pub among : Contains items item
  pub part : Part item a b

abbrev pub FlowPart : ℕ → ℕ → Spot → Spot → Type 0
FlowPart n to a b = Just (Node n) (Node to) a b ⊎ Just (AfterOf n) (Node to) a b

abbrev pub KindOfEdgePart : List ℕ → List ℕ → ℕ → ℕ → EdgeKind → Spot → Spot → Type 0
KindOfEdgePart ends calls n from Call a b = Just (Node from) (Node n) a b ⊎ Just (EndOf (slice_index ends n)) (BackAt (slice_index calls from)) a b
KindOfEdgePart ends calls n from Fork a b = Just (Node from) (Node n) a b ⊎ Just (ChildOf from) (Node n) a b
KindOfEdgePart ends calls n from _ a b = ⊥

abbrev pub EdgePart : List ℕ → List ℕ → ℕ → ℕ × EdgeKind → Spot → Spot → Type 0
EdgePart ends calls n edge a b = KindOfEdgePart ends calls n edge.0 edge.1 a b

abbrev pub KindPart : List ℕ → List ℕ → ℕ → NodeKind → Spot → Spot → Type 0
KindPart ends calls n Exit a b = Just (Node n) (EndOf (slice_index ends n)) a b
KindPart ends calls n (RetKind pc) a b = Just (BackAt (slice_index calls n)) (Node n) a b
KindPart ends calls n _ a b = ⊥

abbrev pub OneNodePart : List ℕ → List ℕ → ℕ → GraphNode → Spot → Spot → Type 0
OneNodePart ends calls n one a b = (ForEach one.flows (FlowPart n) a b ⊎ ForEach one.edges (EdgePart ends calls n) a b) ⊎ KindPart ends calls n one.name.kind a b

-- what is added for the node with that number
pub record NodePart (nodes : List GraphNode) (ends calls : List ℕ) (n : ℕ) (a b : Spot) : Type 0 where
  pub one : GraphNode
  pub is_one : slice_get nodes n ≡ Some one
  pub part : OneNodePart ends calls n one a b

-- what is added for the nodes below a number
pub record PartBelow (nodes : List GraphNode) (ends calls : List ℕ) (i : ℕ) (a b : Spot) : Type 0 where
  pub n : ℕ
  pub below : n < i
  pub part : NodePart nodes ends calls n a b

-- the edges of the node with that number are between nodes of the graph
pub record IsInsideAt (nodes : List GraphNode) (n : ℕ) : Type 0 where
  pub edges : (one : GraphNode) → slice_get nodes n ≡ Some one → All (λ edge. edge.0 < length nodes) one.edges
  pub flows : (one : GraphNode) → slice_get nodes n ≡ Some one → All (λ to. to < length nodes) one.flows

-- ---- the whole

-- the first nodes of instances and of calls
pub record AreGroups (nodes : List GraphNode) (ends calls : List ℕ) : Type 0 where
  pub ends_are : AreFirsts (map (λ n. place_of Instances n.name) nodes) ends
  pub calls_are : AreFirsts (map (λ n. place_of Calls n.name) nodes) calls

-- for each node of the graph there is a first node, which has its spots
pub record EndsBelow (firsts : List ℕ) (size : ℕ) : Type 0 where
  pub counted : 5 * length firsts ≡ size
  pub below : (i : ℕ) → i < length firsts → slice_index firsts i < length firsts

pub record IsSearchGraph (nodes : List GraphNode) (search : List (List ℕ)) : Type 0 where
  pub same_length : length search ≡ 5 * length nodes
  pub ends : List ℕ
  pub calls : List ℕ
  pub groups : AreGroups nodes ends calls
  pub inside : (n : ℕ) → n < length nodes → IsInsideAt nodes n
  pub edges : (x y : ℕ) → Leads search x y ↔ Related (PartBelow nodes ends calls (length nodes)) x y

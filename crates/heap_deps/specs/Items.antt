-- What a growing graph has besides its nodes: accesses and dependence edges, as things of one kind, so that one relation says
-- what steps add (this project's own).
use Rattle.std.specs.Prelude.{◌≡◌, ◌↔◌, ◌⊎◌, ℕ, List, [], Result, Ok, Err, map}
use Rattle.std.specs.List.{AllByRecursion}
use Rattle.jo_ids.specs.declared.LimitKind.TheVariants.{M5}
use Rattle.dep_nodes.specs.declared.kinds.EdgeKind.{EdgeKind}
use Rattle.dep_nodes.specs.declared.accesses.Access.{Access}
use Rattle.dep_nodes.specs.declared.dependence_graph.GraphNode.{GraphNode}
use Rattle.dep_nodes.specs.declared.dependence_graph.GraphFault.{GraphFault}
use Rattle.dep_nodes.specs.declared.dependence_graph.GraphFault.TheVariants.{Limit, Memory}
use Rattle.dep_nodes.specs.OnceLists.{IsOnceEach}
use Rattle.dep_nodes.specs.GrowingGraphs.{HasAccess, HasEdge, HasMostEdges}

pub data Item : Type 0 where
  access : ℕ → Access → Item
  edge : ℕ → EdgeKind → ℕ → Item

-- the node accesses a cell, or an edge leads from the first node to the second
abbrev pub HasItem : List GraphNode → Item → Type 0
HasItem rows (access n a) = HasAccess rows n a
HasItem rows (edge from kind to) = HasEdge rows from kind to

-- the name of a node and its flow edges, which stay as they are
abbrev pub frame : GraphNode → GraphNode
frame row = record { name = row.name; edges = []; flows = row.flows; accesses = [] }

-- no node has an edge or an access twice
pub record IsRowOnce (row : GraphNode) : Type 0 where
  pub edges : IsOnceEach row.edges
  pub accesses : IsOnceEach row.accesses

abbrev pub AreOnce : List GraphNode → Type 0
AreOnce rows = AllByRecursion IsRowOnce rows

-- the graph has exactly these items besides
pub record Grows (old new : List GraphNode) (P : Item → Type 0) : Type 0 where
  pub frames : map frame new ≡ map frame old
  pub items : (x : Item) → HasItem new x ↔ (HasItem old x ⊎ P x)
  pub once : AreOnce old → AreOnce new

-- it has some of these besides
pub record GrowsPartly (old new : List GraphNode) (P : Item → Type 0) : Type 0 where
  pub frames : map frame new ≡ map frame old
  pub keeps : (x : Item) → HasItem old x → HasItem new x
  pub only : (x : Item) → HasItem new x → HasItem old x ⊎ P x
  pub once : AreOnce old → AreOnce new

-- it is full and lacks one of these
pub record IsFull (new : List GraphNode) (P : Item → Type 0) : Type 0 where
  pub most : HasMostEdges new
  pub item : Item
  pub belongs : P item
  pub missing : HasItem new item → ⊥

-- the graph has them, or there is no room for one of them, or memory is wanting
abbrev pub GrowsOrStops : Result (Unit {0}) GraphFault → List GraphNode → List GraphNode → (Item → Type 0) → Type 0
GrowsOrStops (Ok a) old new P = Grows old new P
GrowsOrStops (Err (Limit kind)) old new P = (kind ≡ M5) × (GrowsPartly old new P × IsFull new P)
GrowsOrStops (Err Memory) old new P = GrowsPartly old new P

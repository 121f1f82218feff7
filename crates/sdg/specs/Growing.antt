-- A dependence graph that grows beside the table of its nodes: the node at a place of the table is the row with that number (this
-- project's own).
use Rattle.std.specs.Prelude.{◌≡◌, ◌⊎◌, List, [], ◌∷◌, ◌++◌, length, Contains}
use Rattle.std.specs.List.{AllByRecursion}
use Rattle.dep_nodes.specs.declared.graphs.NodeName.{NodeName}
use Rattle.dep_nodes.specs.declared.dependence_graph.GraphNode.{GraphNode}
use Rattle.dep_nodes.specs.OnceLists.{IsOnceEach}
use Rattle.dep_nodes.specs.GrowingGraphs.{bare, HasIdsInside}
use Rattle.sdg.specs.declared.instance_nodes.InstanceNode.{InstanceNode}

pub record Growing : Type 0 where
  pub rows : List GraphNode
  pub nodes : List InstanceNode

-- each of the three lists of a row has each item once
pub record HasOnceEach (row : GraphNode) : Type 0 where
  pub edges : IsOnceEach row.edges
  pub flows : IsOnceEach row.flows
  pub accesses : IsOnceEach row.accesses

-- each row has its node, no node stands twice, and edges are between rows
pub record IsGrowing (rows : List GraphNode) (nodes : List InstanceNode) : Type 0 where
  pub long : length rows ≡ length nodes
  pub nodes_once : IsOnceEach nodes
  pub inside : HasIdsInside rows
  pub lists_once : AllByRecursion HasOnceEach rows

-- the node stands at the end under its name, unless it was there
abbrev pub AddsNode : Growing → Growing → InstanceNode → NodeName → Type 0
AddsNode old new node name =
    (Contains old.nodes node × (new ≡ old))
    ⊎ ((Contains old.nodes node → ⊥) × (new ≡ record { rows = old.rows ++ bare name ∷ []; nodes = old.nodes ++ node ∷ [] }))

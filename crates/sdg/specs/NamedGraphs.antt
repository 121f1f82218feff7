-- A growing graph whose nodes are named by instances over lists of sites (this project's own form).
use Rattle.std.specs.Prelude.{◌≡◌, ℕ, List, Result}
use Rattle.dep_nodes.specs.declared.kinds.NodeKind.{NodeKind}
use Rattle.dep_nodes.specs.declared.dependence_graph.GraphFault.{GraphFault}
use Rattle.dependence.specs.declared.facts.InstKey.{InstKey}
use Rattle.dependence.specs.ProgramGraph.{IsNamed}
use Rattle.fact_sets.specs.FactLists.{IsInstance}
use Rattle.fact_sets.specs.Seen.{instance_seen}
use Rattle.sdg.specs.declared.instance_nodes.InstanceNode.{InstanceNode}
use Rattle.sdg.specs.Growing.{Growing}
use Rattle.sdg.specs.Links.{Link, InTable}
use Rattle.sdg.specs.Growth.{AddsAmong, AddedAmong}

-- a node of an instance over lists of sites
pub record Spot : Type 0 where
  pub instance : InstKey (List ℕ)
  pub kind : NodeKind

abbrev pub spot : InstKey (List ℕ) → NodeKind → Spot
spot i kind = record { instance = i; kind = kind }

-- the number names an instance that is seen as that of the spot, and the kinds are the same
pub record IsSeenAs {C : Type 0} (list : C → List ℕ) (instances : List (ℕ × C)) (node : InstanceNode) (s : Spot) : Type 0 where
  pub key : InstKey C
  pub is_key : IsInstance instances node.instance key
  pub seen : instance_seen list key ≡ s.instance
  pub same_kind : node.kind ≡ s.kind

-- each node of the table has a row under its name, and each row names a node of the table
pub record AreNamed {C : Type 0} (list : C → List ℕ) (instances : List (ℕ × C)) (graph : Growing) : Type 0 where
  pub keyed : (k : ℕ) (node : InstanceNode) → InTable graph.nodes k node
      → (key : InstKey C) × IsInstance instances node.instance key × IsNamed graph.rows k (instance_seen list key) node.kind
  pub node_of : (k : ℕ) (s : Spot) → IsNamed graph.rows k s.instance s.kind → (node : InstanceNode) × InTable graph.nodes k node × IsSeenAs list instances node s

-- the row with that number has the name of that spot
abbrev pub RowAt : Growing → ℕ → Spot → Type 0
RowAt graph k s = IsNamed graph.rows k s.instance s.kind

abbrev pub AddsSeen : Growing → Growing → (Link Spot → Type 0) → Type 0
AddsSeen old new R = AddsAmong RowAt old new R

abbrev pub SeenAdded : {A : Type 0} → Result A GraphFault → Growing → Growing → (Link Spot → Type 0) → Type 0
SeenAdded result old new R = AddedAmong RowAt result old new R

-- How a graph grows by edges and flow edges (this project's own).
use Rattle.std.specs.Prelude.{◌≡◌, ◌↔◌, ◌⊎◌, ℕ, ◌<◌, List, [], map, Contains, Result, Ok, Err}
use Rattle.jo_ids.specs.declared.LimitKind.TheVariants.{M5}
use Rattle.dep_nodes.specs.declared.dependence_graph.GraphNode.{GraphNode}
use Rattle.dep_nodes.specs.declared.dependence_graph.GraphFault.{GraphFault}
use Rattle.dep_nodes.specs.declared.dependence_graph.GraphFault.TheVariants.{Limit, Memory}
use Rattle.dep_nodes.specs.GrowingGraphs.{HasMostEdges}
use Rattle.sdg.specs.declared.instance_nodes.InstanceNode.{InstanceNode}
use Rattle.sdg.specs.Growing.{Growing}
use Rattle.sdg.specs.Links.{Link, HasLink, Stands, InTable}

-- what one of the items makes
abbrev pub From : {A X : Type 0} → List A → (A → X → Type 0) → X → Type 0
From {A} items makes x = (a : A) × Contains items a × makes a x

-- what one of the numbers below the end makes
abbrev pub FromBelow : {X : Type 0} → ℕ → (ℕ → X → Type 0) → X → Type 0
FromBelow end makes x = (n : ℕ) × (n < end) × makes n x

-- a row without its edges and flow edges
abbrev pub unlinked : GraphNode → GraphNode
unlinked row = record row { edges = []; flows = [] }

-- nothing but edges and flow edges has changed
pub record KeepsNodes (old new : Growing) : Type 0 where
  pub nodes : new.nodes ≡ old.nodes
  pub rows : map unlinked new.rows ≡ map unlinked old.rows

-- ---- over any names of nodes: what a name names at a place is told by the graph

-- the new graph has the edges and the flow edges of the old one, and these besides between nodes of the graph
pub record AddsAmong {N : Type 0} (At : Growing → ℕ → N → Type 0) (old new : Growing) (P : Link N → Type 0) : Type 0 where
  pub kept : KeepsNodes old new
  pub links : (l : Link N) → HasLink (At new) new.rows l ↔ (HasLink (At old) old.rows l ⊎ (Stands (At old) l × P l))

-- one of these is missing between nodes of the graph
pub record LacksAmong {N : Type 0} (At : Growing → ℕ → N → Type 0) (graph : Growing) (P : Link N → Type 0) : Type 0 where
  pub missing : Link N
  pub belongs : P missing
  pub stands : Stands (At graph) missing
  pub lacks : HasLink (At graph) graph.rows missing → ⊥

-- the limit is given where the graph is full and lacks one of these
abbrev pub IsFullAmong : {N : Type 0} → (Growing → ℕ → N → Type 0) → GraphFault → Growing → (Link N → Type 0) → Type 0
IsFullAmong At (Limit kind) graph P = (kind ≡ M5) × HasMostEdges graph.rows × LacksAmong At graph P
IsFullAmong At Memory graph P = Unit {0}

pub record RefusesAmong {N : Type 0} (At : Growing → ℕ → N → Type 0) (fault : GraphFault) (old new : Growing) (P : Link N → Type 0) : Type 0 where
  pub kept : KeepsNodes old new
  pub full : IsFullAmong At fault new P

-- all of these are added, or there is a reason why not
abbrev pub AddedAmong : {N A : Type 0} → (Growing → ℕ → N → Type 0) → Result A GraphFault → Growing → Growing → (Link N → Type 0) → Type 0
AddedAmong At (Ok a) old new P = AddsAmong At old new P
AddedAmong At (Err fault) old new P = RefusesAmong At fault old new P

-- ---- where names are those of the table

abbrev pub TableAt : Growing → ℕ → InstanceNode → Type 0
TableAt graph place node = InTable graph.nodes place node

abbrev pub AddsLinks : Growing → Growing → (Link InstanceNode → Type 0) → Type 0
AddsLinks old new P = AddsAmong TableAt old new P

abbrev pub IsFull : GraphFault → Growing → (Link InstanceNode → Type 0) → Type 0
IsFull fault graph P = IsFullAmong TableAt fault graph P

abbrev pub Refuses : GraphFault → Growing → Growing → (Link InstanceNode → Type 0) → Type 0
Refuses fault old new P = RefusesAmong TableAt fault old new P

abbrev pub LinksAdded : {A : Type 0} → Result A GraphFault → Growing → Growing → (Link InstanceNode → Type 0) → Type 0
LinksAdded result old new P = AddedAmong TableAt result old new P

-- ---- nodes

-- the limit is given only where the graph is full
abbrev pub LimitOnlyWhere : {A : Type 0} → Result A GraphFault → Type 0 → Type 0
LimitOnlyWhere (Ok a) full = full → ⊥
LimitOnlyWhere (Err (Limit kind)) full = (kind ≡ M5) × full
LimitOnlyWhere (Err Memory) full = Unit {0}

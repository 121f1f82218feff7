-- Edges by their words and flow edges as one relation of nodes, whatever names the rows of a graph (this project's own).
use Rattle.std.specs.Prelude.{◌≡◌, ℕ, List, Some, slice_get, Contains, IsSomeAnd}
use Rattle.dep_nodes.specs.declared.kinds.EdgeKind.{EdgeKind}
use Rattle.dep_nodes.specs.declared.dependence_graph.GraphNode.{GraphNode}
use Rattle.dep_nodes.specs.GrowingGraphs.{HasEdge}
use Rattle.sdg.specs.declared.instance_nodes.InstanceNode.{InstanceNode}

-- an edge with its word, or a flow edge
pub data Tie : Type 0 where
  by_word : EdgeKind → Tie
  by_flow : Tie

pub record Link (N : Type 0) : Type 0 where
  pub from : N
  pub tie : Tie
  pub to : N

abbrev pub link : {N : Type 0} → N → Tie → N → Link N
link from tie to = record { from = from; tie = tie; to = to }

abbrev pub HasFlow : List GraphNode → ℕ → ℕ → Type 0
HasFlow rows from to = IsSomeAnd (slice_get rows from) (λ row. Contains row.flows to)

abbrev pub HasTie : List GraphNode → ℕ → Tie → ℕ → Type 0
HasTie rows from (by_word word) to = HasEdge rows from word to
HasTie rows from by_flow to = HasFlow rows from to

-- the rows have it between nodes at these places
pub record HasLink {N : Type 0} (At : ℕ → N → Type 0) (rows : List GraphNode) (l : Link N) : Type 0 where
  pub begin : ℕ
  pub end : ℕ
  pub from : At begin l.from
  pub to : At end l.to
  pub tied : HasTie rows begin l.tie end

-- both of its ends have places
pub record Stands {N : Type 0} (At : ℕ → N → Type 0) (l : Link N) : Type 0 where
  pub begin : ℕ
  pub end : ℕ
  pub from : At begin l.from
  pub to : At end l.to

abbrev pub InTable : List InstanceNode → ℕ → InstanceNode → Type 0
InTable nodes place node = slice_get nodes place ≡ Some node

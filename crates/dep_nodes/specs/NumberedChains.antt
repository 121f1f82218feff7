-- Matched paths and valid chains in a graph that grows, from number to number of its nodes: two numbers may have one name.
-- The pairs of a call's ends with a matched path between them are the summary edges of Horwitz, Reps and Binkley 1990.
use Rattle.std.specs.Prelude.{◌≡◌, ◌↔◌, ℕ, List, [], Option, Some, None, length, Contains, slice_get, slice_index_or}
use Rattle.std.specs.List.Sorted.{IsStrictlyIncreasing}
use Rattle.dep_nodes.specs.declared.kinds.NodeKind.TheVariants.{Entry}
use Rattle.dep_nodes.specs.declared.dependence_graph.GraphNode.{GraphNode}
use Rattle.dep_nodes.specs.Nodes.{Node, CallSite, node, node_named}
use Rattle.dep_nodes.specs.Chains.{LinkTo, MatchedOver, IsMatchedOver, IsPassOver, IsChainOver, HasChainOver, HasEdgeChainOver}
use Rattle.dep_nodes.specs.GrowingGraphs.{HasEdge}

-- the name of a number that is no node's: it has no pc, and no edge ends at it
abbrev pub nameless : Node
nameless = node (record { method = 0; context = [] }) Entry

abbrev pub name_or_none : Option GraphNode → Node
name_or_none None = nameless
name_or_none (Some n) = node_named n.name

-- the name of the node with that number
abbrev pub name_at : List GraphNode → ℕ → Node
name_at nodes n = name_or_none (slice_get nodes n)

-- ---- chains from number to number

-- a path from a number where these calls are open to one where none is
abbrev pub NumberedPath : List GraphNode → List CallSite → ℕ → ℕ → Type 0
NumberedPath nodes = MatchedOver (name_at nodes) (HasEdge nodes)

-- a matched path, which leaves no call open
abbrev pub IsNumberedMatched : List GraphNode → ℕ → ℕ → Type 0
IsNumberedMatched nodes = IsMatchedOver (name_at nodes) (HasEdge nodes)

-- from where a call goes in to where the same call comes out, with a matched path
abbrev pub IsNumberedPass : List GraphNode → ℕ → ℕ → Type 0
IsNumberedPass nodes = IsPassOver (name_at nodes) (HasEdge nodes)

-- the steps lead on from a number where these calls are open
abbrev pub IsNumberedChain : List GraphNode → List CallSite → ℕ → List (LinkTo ℕ) → Type 0
IsNumberedChain nodes = IsChainOver (name_at nodes) (HasEdge nodes)

-- a valid chain leads from one number to another
abbrev pub HasNumberedChain : List GraphNode → ℕ → ℕ → Type 0
HasNumberedChain nodes = HasChainOver (name_at nodes) (HasEdge nodes)

-- a valid chain without a `pass` step leads from one number to another
abbrev pub HasNumberedEdgeChain : List GraphNode → ℕ → ℕ → Type 0
HasNumberedEdgeChain nodes = HasEdgeChainOver (name_at nodes) (HasEdge nodes)

-- ---- summary edges, as the list that has for each number the beginnings of the pairs that end there

-- the pair is in the rows
abbrev pub HasPair : List (List ℕ) → ℕ → ℕ → Type 0
HasPair rows from to = Contains (slice_index_or rows to []) from

-- exactly the pairs of where a call goes in and where it comes out that have a matched path, each once and in order
pub record AreSummaries (nodes : List GraphNode) (rows : List (List ℕ)) : Type 0 where
  pub same_length : length rows ≡ length nodes
  pub pairs : (from to : ℕ) → HasPair rows from to ↔ IsNumberedPass nodes from to
  pub once : (to : ℕ) → IsStrictlyIncreasing (slice_index_or rows to [])

-- A graph as data. What is said of one asks for its nodes and edges by the first definitions alone.
use Rattle.std.specs.Prelude.{◌≡◌, ℕ, List, [], ◌∷◌, Option, Some, Contains, slice_get, option_map, filter_map}
use Rattle.dep_nodes.specs.declared.kinds.EdgeKind.{EdgeKind}
use Rattle.dep_nodes.specs.declared.kinds.EdgeKind.TheVariants.{Fork}
use Rattle.dep_nodes.specs.declared.graphs.NodeName.{NodeName}
use Rattle.dep_nodes.specs.declared.graphs.Edge.{Edge}
use Rattle.dep_nodes.specs.declared.graphs.Graph.{Graph}
use Rattle.dep_nodes.specs.declared.chains.Step.{Step}
use Rattle.dep_nodes.specs.declared.chains.Word.{Word}
use Rattle.dep_nodes.specs.declared.chains.Word.TheVariants.{Edge as AnEdge}
use Rattle.dep_nodes.specs.Nodes.{Node, node_named}
use Rattle.dep_nodes.specs.Chains.{Link}

-- ---- nodes and edges

abbrev pub edge : ℕ → EdgeKind → ℕ → Edge
edge from kind to = record { from = from; kind = kind; to = to }

-- the name with that number
abbrev pub graph_name : Graph → ℕ → Option NodeName
graph_name graph number = slice_get graph.nodes number

-- an edge between two numbers
abbrev pub EdgeAt : Graph → ℕ → EdgeKind → ℕ → Type 0
EdgeAt graph from kind to = Contains graph.edges (edge from kind to)

-- the node with that number
abbrev pub graph_node : Graph → ℕ → Option Node
graph_node graph number = option_map node_named (graph_name graph number)

-- the node has this name
abbrev pub HasName : Graph → Node → NodeName → Type 0
HasName graph n name = (number : ℕ) × (graph_name graph number ≡ Some name) × (node_named name ≡ n)

-- an edge between two nodes
abbrev pub GraphEdge : Graph → Node → EdgeKind → Node → Type 0
GraphEdge graph from kind to = (i : ℕ) × (j : ℕ) × (graph_node graph i ≡ Some from) × (graph_node graph j ≡ Some to) × EdgeAt graph i kind j

-- no thread is started, so no two nodes run at the same time
abbrev pub HasNoFork : Graph → Type 0
HasNoFork graph = (i j : ℕ) → EdgeAt graph i Fork j → ⊥

-- ---- walks along edges, by the numbers of nodes

-- the steps lead from a node along edges of the graph
abbrev pub IsWalk : Graph → ℕ → List Step → Type 0
IsWalk graph from [] = Unit {0}
IsWalk graph from (step ∷ steps) = ((kind : EdgeKind) × (step.word ≡ AnEdge kind) × EdgeAt graph from kind step.to) × IsWalk graph step.to steps

abbrev pub walk_end : ℕ → List Step → ℕ
walk_end from [] = from
walk_end from (step ∷ steps) = walk_end step.to steps

-- some walk leads from a node to one of the criteria
abbrev pub WalksTo : Graph → List ℕ → ℕ → Type 0
WalksTo graph criteria from = (steps : List Step) × IsWalk graph from steps × Contains criteria (walk_end from steps)

-- ---- the links of steps

abbrev pub link_to : Word → Node → Link
link_to word to = record { word = word; to = to }

-- the link of a step, to a node of the graph
abbrev pub link_of : Graph → Step → Option Link
link_of graph step = option_map (link_to step.word) (graph_node graph step.to)

-- the links of the steps
abbrev pub links_of : Graph → List Step → List Link
links_of graph steps = filter_map (link_of graph) steps

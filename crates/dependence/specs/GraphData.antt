-- What a graph as data has to do with the dependence graph of the program.
use Rattle.std.specs.Prelude.{◌≡◌, ℕ, ◌^◌, ◌<◌, length, Option, Some, None}
use Rattle.jo_prog.specs.declared.program.Program.{Program}
use Rattle.jo_prog.specs.declared.labels.Labels.{Labels}
use Rattle.jo_prog.specs.Program.{callee_at}
use Rattle.dep_nodes.specs.declared.kinds.NodeKind.{NodeKind}
use Rattle.dep_nodes.specs.declared.kinds.NodeKind.TheVariants.{Call, RetVal, Arg}
use Rattle.dep_nodes.specs.declared.kinds.EdgeKind.{EdgeKind}
use Rattle.dep_nodes.specs.declared.graphs.NodeName.{NodeName}
use Rattle.dep_nodes.specs.declared.graphs.Graph.{Graph}
use Rattle.dep_nodes.specs.Nodes.{Node}
use Rattle.dep_nodes.specs.Graphs.{graph_name, graph_node, EdgeAt, GraphEdge}
use Rattle.dependence.specs.Graph.{IsNode, DependenceEdge}

-- the method that a node's instruction names, for the nodes of a call
abbrev pub resolved_of : Program → NodeName → Option ℕ
resolved_of program name = of_kind name.kind
  where
    of_kind : NodeKind → Option ℕ
    of_kind (Call pc) = callee_at program name.method pc
    of_kind (RetVal pc) = callee_at program name.method pc
    of_kind (Arg pc i) = callee_at program name.method pc
    of_kind _ = None

-- the graph has exactly the nodes and the edges of the dependence graph, each node once
pub record IsDependenceGraph (program : Program) (labels : Labels) (graph : Graph) : Type 0 where
  pub small : length graph.nodes < 2 ^ 32
  pub each_node : (n : Node) → IsNode program labels n → (i : ℕ) × (graph_node graph i ≡ Some n)
  pub only_nodes : (i : ℕ) (n : Node) → graph_node graph i ≡ Some n → IsNode program labels n
  pub once : (i j : ℕ) (n : Node) → graph_node graph i ≡ Some n → graph_node graph j ≡ Some n → i ≡ j
  pub resolved : (i : ℕ) (name : NodeName) → graph_name graph i ≡ Some name → name.resolved ≡ resolved_of program name
  pub each_edge : (a b : Node) (kind : EdgeKind) → DependenceEdge program labels a kind b → GraphEdge graph a kind b
  pub only_edges : (i j : ℕ) (kind : EdgeKind) → EdgeAt graph i kind j
      → (a : Node) × (b : Node) × (graph_node graph i ≡ Some a) × (graph_node graph j ≡ Some b) × DependenceEdge program labels a kind b

-- Which nodes of a graph may run at the same time (after Giffhorn and Snelting 2015; the exact relation, which knows no
-- joins, is this project's own). It speaks of the numbers of nodes, and of names only where a call comes back.
use Rattle.std.specs.Prelude.{◌≡◌, ◌↔◌, ◌⊎◌, ℕ, ◌<◌, List, Option, Some, length, map, Contains, slice_get, slice_index, option_map, IsSomeAnd}
use Rattle.jo_ids.specs.Path.{Path}
use Rattle.dep_nodes.specs.declared.kinds.NodeKind.TheVariants.{Exit, RetKind, Call as CallNode}
use Rattle.dep_nodes.specs.declared.kinds.EdgeKind.TheVariants.{Call, Fork}
use Rattle.dep_nodes.specs.declared.dependence_graph.GraphNode.{GraphNode}
use Rattle.dep_nodes.specs.Nodes.{Node, node, node_named, pc_of}
use Rattle.dep_nodes.specs.GrowingGraphs.{HasEdge}

-- ---- how control goes on, also into calls and threads

-- the node with that number
abbrev pub node_at : List GraphNode → ℕ → Option Node
node_at nodes n = option_map (λ one. node_named one.name) (slice_get nodes n)

-- a flow edge leads from the first node to the second
abbrev pub HasFlow : List GraphNode → ℕ → ℕ → Type 0
HasFlow nodes from to = IsSomeAnd (slice_get nodes from) (λ one. Contains one.flows to)

-- where the instance of a node ends
abbrev pub exit_of : Node → Node
exit_of n = node n.inst Exit

-- how the call comes back that a node with a pc belongs to
abbrev pub ret_kind_of : Node → Option Node
ret_kind_of n = option_map (λ pc. node n.inst (RetKind pc)) (pc_of n.kind)

-- the second node is the Exit of the first one's instance
pub record IsExitOf (nodes : List GraphNode) (entry exit : ℕ) : Type 0 where
  pub of : Node
  pub is_of : node_at nodes entry ≡ Some of
  pub ends : node_at nodes exit ≡ Some (exit_of of)

-- the second node is the RetKind of the first one's call
pub record IsRetKindOf (nodes : List GraphNode) (call ret : ℕ) : Type 0 where
  pub of : Node
  pub back : Node
  pub is_of : node_at nodes call ≡ Some of
  pub comes_back : ret_kind_of of ≡ Some back
  pub is_back : node_at nodes ret ≡ Some back

-- One step on. A call edge leads to a target that is no fork, so control comes back from its instance to that call.
pub data RegionStep (nodes : List GraphNode) : ℕ → ℕ → Type 0 where
  flows : (from to : ℕ) → HasFlow nodes from to → RegionStep nodes from to
  enters : (from to : ℕ) → HasEdge nodes from Call to → RegionStep nodes from to
  returns : (from to call entry : ℕ) → HasEdge nodes call Call entry → IsExitOf nodes entry from → IsRetKindOf nodes call to → RegionStep nodes from to
  starts : (from to : ℕ) → HasEdge nodes from Fork to → RegionStep nodes from to

-- ---- forks and their regions

-- a Call from which a fork edge leads
pub record IsFork (nodes : List GraphNode) (fork : ℕ) : Type 0 where
  pub pc : ℕ
  pub is_call : option_map (λ n. n.kind) (node_at nodes fork) ≡ Some (CallNode pc)
  pub to : ℕ
  pub starts : HasEdge nodes fork Fork to

-- all that the started thread reaches, and what it starts in turn
abbrev pub InChild : List GraphNode → ℕ → ℕ → Type 0
InChild nodes fork n = (start : ℕ) × HasEdge nodes fork Fork start × Path (RegionStep nodes) start n

-- all that is reached behind the fork
abbrev pub InAfter : List GraphNode → ℕ → ℕ → Type 0
InAfter nodes fork n = (next : ℕ) × HasFlow nodes fork next × Path (RegionStep nodes) next n

-- the first node runs in what the fork starts, while the second runs behind it
pub record ParallelAt (nodes : List GraphNode) (fork inside after : ℕ) : Type 0 where
  pub is_fork : IsFork nodes fork
  pub in_child : InChild nodes fork inside
  pub in_after : InAfter nodes fork after

-- two nodes may run at the same time; a node may at the same time as itself
abbrev pub Parallel : List GraphNode → ℕ → ℕ → Type 0
Parallel nodes a b = (fork : ℕ) × (ParallelAt nodes fork a b ⊎ ParallelAt nodes fork b a)

-- ---- the forks in order

abbrev pub IsRising : List ℕ → Type 0
IsRising ns = (i j : ℕ) → i < j → j < length ns → slice_index ns i < slice_index ns j

-- the forks, each once, by their numbers
pub record AreForks (nodes : List GraphNode) (forks : List ℕ) : Type 0 where
  pub rising : IsRising forks
  pub each : (n : ℕ) → Contains forks n ↔ IsFork nodes n

-- more forks than regions are kept for
abbrev pub HasTooManyForks : List GraphNode → Type 0
HasTooManyForks nodes = (forks : List ℕ) × AreForks nodes forks × (256 < length forks)

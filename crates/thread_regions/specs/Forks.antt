-- How the forks of a graph are found (this project's own).
use Rattle.std.specs.Prelude.{◌≡◌, ◌↔◌, ◌⊎◌, ℕ, Bool, true, false, List, Some, length, Contains, option_map}
use Rattle.jo_ids.specs.Rows.{has_number}
use Rattle.dep_nodes.specs.declared.kinds.NodeKind.{NodeKind}
use Rattle.dep_nodes.specs.declared.kinds.NodeKind.TheVariants.{Call as CallNode}
use Rattle.dep_nodes.specs.declared.kinds.EdgeKind.{EdgeKind}
use Rattle.dep_nodes.specs.declared.kinds.EdgeKind.TheVariants.{Fork}
use Rattle.dep_nodes.specs.declared.dependence_graph.GraphNode.{GraphNode}
use Rattle.dep_nodes.specs.Regions.{node_at, IsRising}

abbrev pub is_call : NodeKind → Bool
is_call (CallNode pc) = true
is_call _ = false

-- the edge is a fork edge and begins at a Call
abbrev pub starts_thread : EdgeKind → NodeKind → Bool
starts_thread Fork from = is_call from
starts_thread _ from = false

abbrev pub IsCallAt : List GraphNode → ℕ → Type 0
IsCallAt nodes n = (pc : ℕ) × (option_map (λ one. one.kind) (node_at nodes n) ≡ Some (CallNode pc))

-- the new set has the Calls besides at which one of these edges begins as a fork edge
pub record MarksForks (nodes : List GraphNode) (edges : List (ℕ × EdgeKind)) (old new : List Bool) : Type 0 where
  pub same_length : length new ≡ length old
  pub each : (n : ℕ) → (has_number new n ≡ true) ↔ ((has_number old n ≡ true) ⊎ (Contains edges (n, Fork) × IsCallAt nodes n))

-- the numbers of the set, in order
pub record AreNumbersOf (row : List Bool) (numbers : List ℕ) : Type 0 where
  pub rising : IsRising numbers
  pub each : (n : ℕ) → Contains numbers n ↔ (has_number row n ≡ true)

-- The regions of the forks of a graph as sets of numbers, and what is asked of them (this project's own).
use Rattle.std.specs.Prelude.{◌≡◌, ◌↔◌, ℕ, ◌*◌, ◌<◌, Bool, true, List, Option, Some, None, Result, Ok, Err, length, map, slice_get}
use Rattle.jo_ids.specs.Path.{Path}
use Rattle.jo_ids.specs.Rows.{has_number}
use Rattle.jo_ids.specs.declared.LimitKind.TheVariants.{M7}
use Rattle.jo_graph.specs.Graphs.{HasEdge as Leads}
use Rattle.dep_nodes.specs.declared.dependence_graph.GraphNode.{GraphNode}
use Rattle.dep_nodes.specs.declared.dependence_graph.GraphFault.{GraphFault}
use Rattle.dep_nodes.specs.declared.dependence_graph.GraphFault.TheVariants.{Limit, Memory}
use Rattle.dep_nodes.specs.Regions.{AreForks, InChild, InAfter, ParallelAt}
use Rattle.thread_regions.specs.declared.tables.ForkRegions.{ForkRegions}

-- the two sets are the regions of the fork
pub record AreRegionsOf (nodes : List GraphNode) (r : ForkRegions) : Type 0 where
  pub child_length : length r.child ≡ length nodes
  pub after_length : length r.after ≡ length nodes
  pub child_is : (n : ℕ) → (has_number r.child n ≡ true) ↔ InChild nodes r.fork n
  pub after_is : (n : ℕ) → (has_number r.after n ≡ true) ↔ InAfter nodes r.fork n

-- these are the regions of all forks, by the numbers of the forks
pub record AreRegions (nodes : List GraphNode) (regions : List ForkRegions) : Type 0 where
  pub forks_are : AreForks nodes (map (λ r. r.fork) regions)
  pub each : (k : ℕ) (r : ForkRegions) → slice_get regions k ≡ Some r → AreRegionsOf nodes r

-- The answer is the limit exactly where there are too many forks. Memory may be wanting before they are counted.
abbrev pub IsLimitedWhere : {A : Type 0} → Result A GraphFault → Type 0 → Type 0
IsLimitedWhere (Ok a) full = full → ⊥
IsLimitedWhere (Err (Limit kind)) full = (kind ≡ M7) × full
IsLimitedWhere (Err Memory) full = Unit {0}

-- the fork with the least number at which the first node is inside and the second after it
abbrev pub IsLeastFork : List GraphNode → ℕ → ℕ → Option ℕ → Type 0
IsLeastFork nodes a b None = (fork : ℕ) → ParallelAt nodes fork a b → ⊥
IsLeastFork nodes a b (Some least) = ParallelAt nodes least a b × ((fork : ℕ) → fork < least → ParallelAt nodes fork a b → ⊥)

-- the nodes below a number to whose spots a path leads
pub record IsRegionFrom (search : List (List ℕ)) (start len : ℕ) (row : List Bool) : Type 0 where
  pub same_length : length row ≡ len
  pub each : (n : ℕ) → n < len → (has_number row n ≡ true) ↔ Path (Leads search) start (5 * n)

-- Two nodes that may run at the same time and whose order may show (this project's own): both are seen, or both access
-- one cell, one of them writing, and lead to what is seen. Which nodes these are, two predicates say.
use Rattle.std.specs.Prelude.{◌≡◌, ◌⊎◌, ℕ, Bool, true, List}
use Rattle.dep_nodes.specs.declared.accesses.Access.{Access}
use Rattle.dep_nodes.specs.declared.dependence_graph.GraphNode.{GraphNode}
use Rattle.dep_nodes.specs.GrowingGraphs.{HasAccess}
use Rattle.dep_nodes.specs.Regions.{Parallel}

-- two accesses to one cell, one of them writing
pub record Clash (a b : Access) : Type 0 where
  pub same_cell : a.cell ≡ b.cell
  pub writes : (a.write ≡ true) ⊎ (b.write ≡ true)

-- the two nodes may access one cell, one of them writing; they may be one node
pub record MayClash (nodes : List GraphNode) (a b : ℕ) : Type 0 where
  pub first : Access
  pub second : Access
  pub has_first : HasAccess nodes a first
  pub has_second : HasAccess nodes b second
  pub clash : Clash first second

-- two parallel nodes that are both seen
pub record OrderConflict (nodes : List GraphNode) (seen : ℕ → Type 0) (a b : ℕ) : Type 0 where
  pub parallel : Parallel nodes a b
  pub sees_first : seen a
  pub sees_second : seen b

-- two parallel nodes that clash and both lead to what is seen
pub record DataConflict (nodes : List GraphNode) (leads : ℕ → Type 0) (a b : ℕ) : Type 0 where
  pub parallel : Parallel nodes a b
  pub clash : MayClash nodes a b
  pub first_leads : leads a
  pub second_leads : leads b

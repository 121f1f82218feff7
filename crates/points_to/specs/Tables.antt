-- What is looked up of methods, each once (this project's own).
use Rattle.std.specs.Prelude.{◌≡◌, ◌<◌, ℕ, List, [], length, Option, Some, slice_get, slice_index_or}
use Rattle.jo_prog.specs.declared.program.Program.{Program}
use Rattle.jo_prog.specs.TypingPaths.{HasHeightAt}
use Rattle.dependence.specs.FlowData.{AreUses}
use Rattle.dependence.specs.GraphsAsData.{HasMoreNodes, IsWideGraph}
use Rattle.method_views.specs.Heights.{AreHeightsOf}
use Rattle.method_views.specs.UseTables.{IsUseTable}
use Rattle.points_to.specs.declared.tables.MethodTable.{MethodTable}

-- each method is typed, and these are the heights, each under its method's number
pub record HaveHeights (program : Program) (typings : List (List (Option ℕ))) : Type 0 where
  pub count : length typings ≡ length program.methods
  pub heights : (m : ℕ) → m < length program.methods → AreHeightsOf program m (slice_index_or typings m [])

-- the wide graph of a method, its uses, and these by their nodes; it has no more nodes than the limit
pub record IsTableOf (program : Program) (m : ℕ) (table : MethodTable) : Type 0 where
  pub graph : IsWideGraph program m (HasHeightAt program m) table.wide
  pub uses : AreUses table.wide table.uses
  pub by_node : IsUseTable table.wide table.by_node
  pub few : HasMoreNodes program m 16384 → ⊥

-- what is there is that of its method
abbrev pub AreTables : Program → List (Option MethodTable) → Type 0
AreTables program tables = (m : ℕ) (table : MethodTable) → slice_get tables m ≡ Some (Some table) → IsTableOf program m table

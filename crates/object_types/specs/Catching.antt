-- Which of some rows catch an object at a pc (JVM Specification SE 8, 2.10; this form is this project's own).
use Rattle.std.specs.Prelude.{◌≡◌, ℕ, ◌<◌, ◌≤◌, List, Some, slice_get}
use Rattle.jo_prog.specs.declared.program.Program.{Program}
use Rattle.jo_prog.specs.declared.program.Row.{Row}
use Rattle.dependence.specs.FlowGraph.{AnObject, RowFits}

-- the row covers the pc and catches the object
pub record CatchesBy (program : Program) (row : Row) (pc : ℕ) (o : AnObject) : Type 0 where
  pub begins : row.start ≤ pc
  pub ends : pc < row.end
  pub fits : RowFits program row.catches o

-- none of the first rows does
abbrev pub NoneCatches : Program → List Row → ℕ → ℕ → AnObject → Type 0
NoneCatches program rows pc count o = (k : ℕ) (row : Row) → k < count → slice_get rows k ≡ Some row → CatchesBy program row pc o → ⊥

-- the row at a place is the first that does
pub record IsFirstOf (program : Program) (rows : List Row) (pc k : ℕ) (o : AnObject) : Type 0 where
  pub row : Row
  pub at : slice_get rows k ≡ Some row
  pub catches : CatchesBy program row pc o
  pub before : NoneCatches program rows pc k o

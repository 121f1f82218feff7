-- Methods whose typing paths go on (JVM Specification SE 8, 4.10; the form by paths is this project's own).
use Rattle.std.specs.Prelude.{ℕ, List, ◌∷◌, Option}
use Rattle.jo_prog.specs.declared.program.Program.{Program}
use Rattle.jo_prog.specs.TypingPaths.{Step, IsTypedMethod}
use Rattle.typing_heights.specs.FirstPaths.{HasFirstPaths}

-- every method is typed, and has its first paths
pub record AreAllTyped (program : Program) : Type 0 where
  pub typed : (m : ℕ) → IsTypedMethod program m
  pub firsts : (m : ℕ) → HasFirstPaths program m

-- the path with a step more, to a pc, and through a row of the exception table where it goes to a handler
abbrev pub prolonged_by : Option ℕ → ℕ → List Step → List Step
prolonged_by row to path = record { pc = to; row = row } ∷ path

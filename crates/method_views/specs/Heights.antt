-- The heights of the stack that typing gives, as a list by pcs (this project's own form).
use Rattle.std.specs.Prelude.{◌≡◌, ◌↔◌, ℕ, List, Option, Some, None, slice_index_or}
use Rattle.jo_prog.specs.declared.program.Program.{Program}
use Rattle.jo_prog.specs.TypingPaths.{HasHeightAt}

-- the height that typing gives at a pc
abbrev pub HeightIs : List (Option ℕ) → ℕ → ℕ → Type 0
HeightIs typed pc height = slice_index_or typed pc None ≡ Some height

-- the heights are those that typing paths give
abbrev pub AreHeightsOf : Program → ℕ → List (Option ℕ) → Type 0
AreHeightsOf program m typed = (pc height : ℕ) → HeightIs typed pc height ↔ HasHeightAt program m pc height

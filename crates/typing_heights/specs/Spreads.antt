-- How heights spread from a pc to those behind it (this project's own).
use Rattle.std.specs.Prelude.{◌≡◌, ℕ, eqb, List, [], Option}
use Rattle.std.specs.List.{dedup}
use Rattle.std.specs.List.Sorted.{IsSorted, IsPermutation}
use Rattle.std.specs.Ordering.{nat_cmp}
use Rattle.jo_prog.specs.declared.program.Code.{Code}
use Rattle.jo_prog.specs.declared.program.Row.{Row}
use Rattle.typing_heights.specs.declared.spots.Onward.{Onward}
use Rattle.typing_heights.specs.Marks.{Marks, all_marked, handlers_marked}

-- plain steps mark before those to handlers
abbrev pub spread_marks : ℕ → List Row → ℕ → List ℕ → List (Option ℕ) → Marks
spread_marks pc rows height plain heights = handlers_marked pc rows (all_marked height plain (record { heights = heights; found = [] }))

-- what is found stands in order, and once
pub record IsSpread (code : Code) (pc : ℕ) (onward : Onward) (old new : List (Option ℕ)) (found : List ℕ) : Type 0 where
  pub heights : new ≡ (spread_marks pc code.rows onward.height onward.plain old).heights
  pub sorted : List ℕ
  pub moved : IsPermutation (spread_marks pc code.rows onward.height onward.plain old).found sorted
  pub in_order : IsSorted nat_cmp sorted
  pub once : found ≡ dedup eqb sorted

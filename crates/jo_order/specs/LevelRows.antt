-- A relation on levels as one machine word a level, and what makes it an order.
use Rattle.std.specs.Prelude.{◌≡◌, ◌<◌, ℕ, Bool, true, ◌==◌, ◌||◌, List, slice_index}
use Rattle.jo_ids.specs.Words.{in_word}

-- whether the row of the first level has the second
abbrev pub row_has : List ℕ → ℕ → ℕ → Bool
row_has rows a b = in_word (slice_index rows a) b

-- whether the levels are the same, or the row of the first has the second
abbrev pub row_flows : List ℕ → ℕ → ℕ → Bool
row_flows rows a b = a == b || row_has rows a b

-- what flows on from one level to another flows there, and no two levels flow to each other
pub record IsOrder (rows : List ℕ) : Type 0 where
  pub transitive : (a b c : ℕ) → row_flows rows a b ≡ true → row_flows rows b c ≡ true → row_flows rows a c ≡ true
  pub antisymmetric : (a b : ℕ) → row_flows rows a b ≡ true → row_flows rows b a ≡ true → a ≡ b

-- the rows of two levels, the first below the second in number, have each other
pub record AreMutual (rows : List ℕ) (a b : ℕ) : Type 0 where
  pub below : a < b
  pub up : row_has rows a b ≡ true
  pub down : row_has rows b a ≡ true

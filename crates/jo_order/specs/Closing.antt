-- The relation of levels on its way to the closure of the pairs.
use Rattle.std.specs.Prelude.{◌≡◌, ◌↔◌, ◌⊎◌, ℕ, ◌<◌, ◌≤◌, true, List, length, Contains}
use Rattle.jo_ids.specs.Path.{Path}
use Rattle.jo_ids.specs.Closure.{Closure}
use Rattle.jo_order.specs.LevelRows.{row_has, row_flows, AreMutual}

-- each pair is of two numbers below the count
abbrev pub AreInside : ℕ → List (ℕ × ℕ) → Type 0
AreInside count pairs = (a b : ℕ) → Contains pairs (a, b) → (a < count) × (b < count)

-- the new rows have what the old ones have, and the pairs
pub record HasPairs (pairs : List (ℕ × ℕ)) (old new : List ℕ) : Type 0 where
  pub same_length : length new ≡ length old
  pub each : (a b : ℕ) → (row_has new a b ≡ true) ↔ ((row_has old a b ≡ true) ⊎ Contains pairs (a, b))

-- the new rows have what the old ones have, and on from there, and nothing that no path leads to
pub record IsClosureOf (old new : List ℕ) : Type 0 where
  pub same_length : length new ≡ length old
  pub had : (a b : ℕ) → row_has old a b ≡ true → row_has new a b ≡ true
  pub transitive : (a b c : ℕ) → row_has new a b ≡ true → row_has new b c ≡ true → row_has new a c ≡ true
  pub only : (a b : ℕ) → row_has new a b ≡ true → Path (λ x y. row_has old x y ≡ true) a b

-- the rows are the closure of the pairs
abbrev pub IsClosed : List (ℕ × ℕ) → List ℕ → Type 0
IsClosed pairs rows = (a b : ℕ) → (row_flows rows a b ≡ true) ↔ Closure pairs a b

-- of the levels whose rows have each other, those with the least first and then the least second
pub record IsFirstMutual (rows : List ℕ) (a b : ℕ) : Type 0 where
  pub both : AreMutual rows a b
  pub first : (c d : ℕ) → AreMutual rows c d → (a < c) ⊎ ((a ≡ c) × (b ≤ d))

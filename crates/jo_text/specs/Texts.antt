-- Where bytes stop being the text of a grammar (this project's own).
use Rattle.std.specs.Prelude.{ℕ, ◌+◌, ◌<◌, ◌≤◌, List, ◌++◌, length, take}

-- some text of the grammar begins with these bytes
abbrev pub BeginsText : (List ℕ → Type 0) → List ℕ → Type 0
BeginsText IsText bytes = (rest : List ℕ) × IsText (bytes ++ rest)

-- The bytes are no text. This is the place of the first byte that no text continues, or their length where they only
-- stop too early: the bytes before it begin some text, and those up to it, itself included, begin none.
pub record StopsAt (IsText : List ℕ → Type 0) (bytes : List ℕ) (place : ℕ) : Type 0 where
  pub inside : place ≤ length bytes
  pub before : BeginsText IsText (take place bytes)
  pub there : place < length bytes → BeginsText IsText (take (place + 1) bytes) → ⊥
  pub whole : IsText bytes → ⊥

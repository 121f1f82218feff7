-- The first class that has a fault. Classes have numbers by their places in a list.
use Rattle.std.specs.Prelude.{ℕ, ◌<◌, Option, Some, None}

-- P holds of this number, and of none before it
pub record IsFirst (P : ℕ → Type 0) (k : ℕ) : Type 0 where
  pub here : P k
  pub before : (j : ℕ) → j < k → P j → ⊥

-- the first class of which P holds, or none where it holds of no class
abbrev pub IsFirstIfAny : (ℕ → Type 0) → Option ℕ → Type 0
IsFirstIfAny P None = (c : ℕ) → P c → ⊥
IsFirstIfAny P (Some c) = IsFirst P c

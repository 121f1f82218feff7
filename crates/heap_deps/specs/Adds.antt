-- Steps that add to a set, as loops do (this project's own).
use Rattle.std.specs.Prelude.{ℕ, ◌<◌, List, Contains}

-- what one of the items makes
abbrev pub From : {A X : Type 0} → List A → (A → X → Type 0) → X → Type 0
From {A} items makes x = (a : A) × Contains items a × makes a x

-- what one of the numbers below the end makes
abbrev pub FromBelow : {X : Type 0} → ℕ → (ℕ → X → Type 0) → X → Type 0
FromBelow end makes x = (n : ℕ) × (n < end) × makes n x

-- Texts in parts, one behind the other (this project's own).
use Rattle.std.specs.Prelude.{◌≡◌, ◌⊎◌, ℕ, List, [], ◌∷◌, ◌++◌}

-- one part alone
abbrev pub Is : List ℕ → List ℕ → Type 0
Is word text = text ≡ word

-- a part, and what stands behind it
pub record Joined (P Q : List ℕ → Type 0) (text : List ℕ) : Type 0 where
  pub front : List ℕ
  pub rest : List ℕ
  pub parts : text ≡ front ++ rest
  pub first : P front
  pub second : Q rest

-- one of these
abbrev pub IsOneOf : {T : Type 0} → List T → T → Type 0
IsOneOf [] x = ⊥
IsOneOf (y ∷ ys) x = (x ≡ y) ⊎ IsOneOf ys x

-- The reflexive and transitive closure of a list of pairs of numbers (standard).
use Rattle.std.specs.Prelude.{ℕ, List, Contains}
use Rattle.jo_ids.specs.Path.{Path}

-- from the first number to the second by the pairs, by none of them or by several
abbrev pub Closure : List (ℕ × ℕ) → ℕ → ℕ → Type 0
Closure pairs = Path (λ a b. Contains pairs (a, b))

-- Directed graphs over the numbers below a count, as the list of each number's successors (standard).
use Rattle.std.specs.Prelude.{◌≡◌, ◌↔◌, ◌⊎◌, ℕ, Bool, true, List, [], length, Contains, slice_index_or}
use Rattle.jo_ids.specs.Path.{Path}
use Rattle.jo_ids.specs.Rows.{has_number}

-- an edge leads from the first number to the second
abbrev pub HasEdge : List (List ℕ) → ℕ → ℕ → Type 0
HasEdge graph a b = Contains (slice_index_or graph a []) b

-- the new graph has the edges of the old one, and that from a to b
pub record AddsEdge (old new : List (List ℕ)) (a b : ℕ) : Type 0 where
  pub same_length : length new ≡ length old
  pub edges : (x y : ℕ) → HasEdge new x y ↔ (HasEdge old x y ⊎ ((x ≡ a) × (y ≡ b)))

-- the set of the numbers to which a path leads from the start
pub record IsReach (graph : List (List ℕ)) (start : ℕ) (found : List Bool) : Type 0 where
  pub same_length : length found ≡ length graph
  pub each : (n : ℕ) → (has_number found n ≡ true) ↔ Path (HasEdge graph) start n

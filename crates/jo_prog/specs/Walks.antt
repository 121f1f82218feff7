-- Walks through a graph, depth first (standard). A graph is given by the list of the numbers to which edges lead
-- from a number.
use Rattle.std.specs.Prelude.{◌≡◌, ℕ, zero, suc, List, [], ◌∷◌, ◌++◌, Option, Some, None}
use Rattle.std.specs.List.{Contains, flat_map, AllByRecursion}
use Rattle.std.specs.Option.{option_or}
use Rattle.jo_ids.specs.Path.{Path}

-- an edge leads from the first number to the second
abbrev pub Leads : (ℕ → List ℕ) → ℕ → ℕ → Type 0
Leads next a b = Contains (next a) b

-- no number is on a cycle
abbrev pub IsAcyclic : (ℕ → List ℕ) → Type 0
IsAcyclic next = (a b : ℕ) → Leads next a b → Path (Leads next) b a → ⊥

-- A number, and behind it the walk from each number to which an edge leads, in order. A number stands there once for
-- each way that leads to it. No way has more steps than the first argument says.
abbrev pub walk : ℕ → (ℕ → List ℕ) → ℕ → List ℕ
walk zero next a = []
walk (suc steps) next a = a ∷ flat_map (walk steps next) (next a)

-- no way from a number has so many steps
abbrev pub EndsWithin : (ℕ → List ℕ) → ℕ → ℕ → Type 0
EndsWithin next zero a = ⊥
EndsWithin next (suc steps) a = (b : ℕ) → Leads next a b → EndsWithin next steps b

-- what a look-up finds first in a list
abbrev pub first_found : (ℕ → Option ℕ) → List ℕ → Option ℕ
first_found look [] = None
first_found look (k ∷ ks) = option_or (look k) (first_found look ks)

-- it is found at a number of the list, and nothing is found at those before
abbrev pub IsFirst : (ℕ → Option ℕ) → List ℕ → ℕ → Type 0
IsFirst look ks found =
    (k : ℕ) × (before : List ℕ) × (after : List ℕ) × (ks ≡ before ++ k ∷ after)
    × AllByRecursion (λ b. look b ≡ None) before
    × (look k ≡ Some found)

-- Orders of classes in which each look-up finds first what it finds in a walk (this project's own).
use Rattle.std.specs.Prelude.{◌≡◌, ℕ, suc, ◌<◌, List, [], ◌∷◌, length, Option, Some, None, slice_index_or}
use Rattle.std.specs.List.{Contains, AllByRecursion, flat_map}
use Rattle.jo_prog.specs.Walks.{Leads, EndsWithin, walk, first_found}

-- each look-up finds the same in both
abbrev pub SameFirst : List ℕ → List ℕ → Type 0
SameFirst xs ys = (look : ℕ → Option ℕ) → first_found look xs ≡ first_found look ys

-- the numbers to which edges lead from a number, or the order that it has
abbrev pub edges : List (List ℕ) → ℕ → List ℕ
edges graph a = slice_index_or graph a []

abbrev pub LeadsInside : List (List ℕ) → Type 0
LeadsInside graph = (a b : ℕ) → Leads (edges graph) a b → b < length graph

-- the walk from a number of a graph without a cycle
abbrev pub walk_from : List (List ℕ) → ℕ → List ℕ
walk_from graph a = walk (suc (length graph)) (edges graph) a

-- ---- orders while they are made: one that isn't made yet is empty

abbrev pub IsMade : List (List ℕ) → ℕ → Type 0
IsMade orders a = 0 < length (edges orders a)

pub record AreRight (graph orders : List (List ℕ)) : Type 0 where
  pub same_length : length orders ≡ length graph
  pub right : (a : ℕ) → IsMade orders a → SameFirst (edges orders a) (walk_from graph a)

-- an order is made for each number from which no way has so many steps
abbrev pub AreMadeBy : List (List ℕ) → List (List ℕ) → ℕ → Type 0
AreMadeBy graph orders steps = (a : ℕ) → a < length graph → EndsWithin (edges graph) steps a → IsMade orders a

-- the order of a number, where those of all next to it are made
abbrev pub IsOrderOf : ℕ → List ℕ → List (List ℕ) → Option (List ℕ) → Type 0
IsOrderOf number next orders None = (c : ℕ) × Contains next c × (IsMade orders c → ⊥)
IsOrderOf number next orders (Some order) =
    AllByRecursion (IsMade orders) next × SameFirst order (number ∷ flat_map (edges orders) next)

pub record Visits (graph old new : List (List ℕ)) (number : ℕ) : Type 0 where
  pub right : AreRight graph new
  pub kept : (a : ℕ) → IsMade old a → IsMade new a
  pub more : (steps : ℕ) → AreMadeBy graph old steps → EndsWithin (edges graph) (suc steps) number → IsMade new number

-- one round makes the orders of a step more
pub record GoesOn (graph old new : List (List ℕ)) : Type 0 where
  pub right : AreRight graph new
  pub more : (steps : ℕ) → AreMadeBy graph old steps → AreMadeBy graph new (suc steps)

pub record AreWalks (graph orders : List (List ℕ)) : Type 0 where
  pub same_length : length orders ≡ length graph
  pub each : (a : ℕ) → a < length graph → SameFirst (edges orders a) (walk_from graph a)

-- what a round has done up to a number
pub record VisitsUpTo (graph old new : List (List ℕ)) (number : ℕ) : Type 0 where
  pub right : AreRight graph new
  pub kept : (a : ℕ) → IsMade old a → IsMade new a
  pub more : (steps : ℕ) → AreMadeBy graph old steps → (a : ℕ) → a < number
      → EndsWithin (edges graph) (suc steps) a → IsMade new a

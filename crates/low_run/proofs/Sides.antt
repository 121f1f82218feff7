-- The nodes on a side of a graph, by their numbers.
use Rattle.std.proofs.Common.{◌≡◌, ℕ, zero, suc, ◌+◌, ◌<◌, ◌≤◌, Bool, true, false, List, [], ◌∷◌, length, Some, Contains, slice_get, if◌then◌else◌, refl, sym, ap, subst, ◌∙◌, arith, below_more}
use Rattle.std.proofs.lemmas.Option.{slice_get_within, slice_get_read, same_Some}
use Rattle.dep_nodes.specs.declared.graphs.NodeName.{NodeName}
use Rattle.dep_nodes.specs.declared.graphs.Graph.{Graph}
use Rattle.low_run.specs.Sides.{places_from}

-- an element of a list is the first or one of the rest
pub here : {X : Type 0} (x : X) (xs : List X) → Contains (x ∷ xs) x
here x xs = (zero, omega arith, refl)

pub there : {X : Type 0} (x y : X) (xs : List X) → Contains xs y → Contains (x ∷ xs) y
there x y xs (k, below, at) = (suc k, omega (arith, below), at)

-- the number is of a node that passes, where the nodes have numbers from a first one on
pub record Passes (test : NodeName → Bool) (first : ℕ) (names : List NodeName) (n : ℕ) : Type 0 where
  pub place : ℕ
  pub number : n ≡ first + place
  pub name : NodeName
  pub found : slice_get names place ≡ Some name
  pub passes : test name ≡ true

later : (test : NodeName → Bool) (first : ℕ) (name : NodeName) (names : List NodeName) (n : ℕ) → Passes test (suc first) names n → Passes test first (name ∷ names) n
later test first name names n p = record { place = suc p.place; number = omega (arith, p.number); name = p.name; found = p.found; passes = p.passes }

passes_by : (test : NodeName → Bool) (first : ℕ) (name : NodeName) (names : List NodeName) (n : ℕ) → (Contains (places_from test (suc first) names) n → Passes test (suc first) names n)
    → (b : Bool) → test name ≡ b → Contains (if b then first ∷ places_from test (suc first) names else places_from test (suc first) names) n → Passes test first (name ∷ names) n
passes_by test first name names n rest false e c = later test first name names n (rest c)
passes_by test first name names n rest true e (zero, below, at) = record { place = 0; number = omega (arith, at); name = name; found = refl; passes = e }
passes_by test first name names n rest true e (suc k, below, at) = later test first name names n (rest (k, omega (arith, below), at))

pub passes_at : (test : NodeName → Bool) (first : ℕ) (names : List NodeName) (n : ℕ) → Contains (places_from test first names) n → Passes test first names n
passes_at test first [] n (k, below, at) = absurd (omega (arith, below))
passes_at test first (name ∷ names) n c = passes_by test first name names n (passes_at test (suc first) names n) (test name) refl c

-- a node that passes has its number in the list
pub number_of : (test : NodeName → Bool) (first : ℕ) (names : List NodeName) (place : ℕ) (name : NodeName) → slice_get names place ≡ Some name → test name ≡ true
    → Contains (places_from test first names) (first + place)
number_of test first [] place name found passes = cc
number_of test first (x ∷ names) zero name found passes =
    let same : x ≡ name = cc in
    let yes : test x ≡ true = ap test same ∙ passes in
    let P : Bool → Type 0 = λ b. Contains (if b then first ∷ places_from test (suc first) names else places_from test (suc first) names) (first + 0) in
    subst P (sym yes) (let e : first + 0 ≡ first = omega arith in subst (λ n. Contains (first ∷ places_from test (suc first) names) n) (sym e) (here first _))
number_of test first (x ∷ names) (suc place) name found passes =
    let c = number_of test (suc first) names place name found passes in
    let e : suc first + place ≡ first + suc place = omega arith in
    let d : Contains (places_from test (suc first) names) (first + suc place) = subst (λ n. Contains (places_from test (suc first) names) n) e c in
    elim (test x) as (λ b. Contains (if b then first ∷ places_from test (suc first) names else places_from test (suc first) names) (first + suc place)) [
      | true ↦ there first (first + suc place) _ d
      | false ↦ d
    ]

pub places_inside : (test : NodeName → Bool) (graph : Graph) (n : ℕ) → Contains (places_from test 0 graph.nodes) n → n < length graph.nodes
places_inside test graph n c =
    let p = passes_at test 0 graph.nodes n c in
    let below = slice_get_within graph.nodes p.place p.name p.found in
    omega (arith, p.number, below)

pub number_in : (test : NodeName → Bool) (names : List NodeName) (place : ℕ) (name : NodeName) → slice_get names place ≡ Some name → test name ≡ true → Contains (places_from test 0 names) place
number_in test names place name found passes =
    let e : 0 + place ≡ place = omega arith in
    subst (λ (n : ℕ). Contains (places_from test 0 names) n) e (number_of test 0 names place name found passes)

-- ---- what holds of each number of a list so far

pub clean_more : (P : ℕ → Type 0) (xs : List ℕ) (n x : ℕ) → ((k o : ℕ) → k < n → slice_get xs k ≡ Some o → P o) → slice_get xs n ≡ Some x → P x → (k o : ℕ) → k < n + 1 → slice_get xs k ≡ Some o → P o
clean_more P xs n x before at px k o below found =
    let Q : ℕ → Type 0 = λ i. (y : ℕ) → slice_get xs i ≡ Some y → P y in
    below_more Q n (λ i less y e. before i y less e) (λ y e. subst P (same_Some x y (sym at ∙ e)) px) k below o found

pub clean_all : (P : ℕ → Type 0) (xs : List ℕ) (n : ℕ) → ((k o : ℕ) → k < n → slice_get xs k ≡ Some o → P o) → length xs ≤ n → (x : ℕ) → Contains xs x → P x
clean_all P xs n before beyond x (k, below, at) = before k x (omega (arith, below, beyond)) (slice_get_read xs (length xs) k x refl below (sym at))

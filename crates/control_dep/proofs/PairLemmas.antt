-- How the pairs of control dependence are found.
use Rattle.std.proofs.Common.{◌≡◌, ◌≢◌, ◌⊎◌, inl, inr, ◌↔◌, ℕ, ◌+◌, ◌<◌, ◌≤◌, Bool, true, false, List, [], ◌∷◌, ◌++◌, Option, Some, None, IsSomeAnd, length, get_or, slice_get, option_map, Contains, refl, sym, ap, ◌∙◌, subst, arith, IsTrue, nat_lt}
use Rattle.std.proofs.lemmas.Bool.{cases_eq, cases_lt, both_ways}
use Rattle.std.proofs.lemmas.Bool.Decides.{nat_tests}
use Rattle.std.proofs.lemmas.List.{get_or_past}
use Rattle.std.proofs.lemmas.List.Elements.{Contains-get_or}
use Rattle.std.proofs.lemmas.Option.{slice_get_read, slice_get_past, slice_get-get_or}
use Rattle.jo_ids.specs.Path.{Path, stays}
use Rattle.jo_ids.specs.Rows.{has_number}
use Rattle.jo_ids.proofs.PathLemmas.{path_more, kept_along}
use Rattle.dep_nodes.specs.OnceLists.{IsOnceEach}
use Rattle.dependence.specs.declared.flows.FlowRow.{FlowRow}
use Rattle.dependence.specs.Dependence.{Controls}
use Rattle.dependence.specs.FlowData.{EdgeIn, IsExitIn, ControlsIn, AreControls}
use Rattle.dependence.specs.Listed.{AddsExactly}
use Rattle.dependence.specs.Behind.{one as one_edge, more as more_edges, BehindIn, AreBehind}
use Rattle.dependence.proofs.BehindLemmas.{edges_are, edge_inside}
use Rattle.dependence.proofs.ListedLemmas.{adds_none, adds_alike, adds_one, adds_more, lists_exactly}
use Rattle.control_dep.specs.Pairs.{HasTwo, IsControlled, AreControlled, IsPairFrom, AddsPairsFrom}

-- ---- two successors

test_above : (a b : ℕ) → IsTrue (nat_lt a b) → a < b
test_above a b test = grind (arith, nat_tests)

above_test : (a b : ℕ) → a < b → IsTrue (nat_lt a b)
above_test a b below = grind (arith, nat_tests)

pub two_there : (xs : List ℕ) → IsOnceEach xs → 1 < length xs → HasTwo xs
two_there xs once more = record {
  one = get_or xs 0 0;
  other = get_or xs 1 0;
  has_one = Contains-get_or xs 0 0 (omega (arith, more));
  has_other = Contains-get_or xs 1 0 more;
  differ = differ;
}
  where
    differ : get_or xs 0 0 ≢ get_or xs 1 0
    differ same =
        let e : 0 ≡ 1 = once 0 1 (get_or xs 1 0) (slice_get-get_or xs 0 0 (omega (arith, more)) ∙ ap Some same) (slice_get-get_or xs 1 0 more) in
        omega (arith, e)

pub more_than_one : (xs : List ℕ) → HasTwo xs → 1 < length xs
more_than_one xs two = elim (cases_lt 1 (length xs)) [
  | inl more ↦ more
  | inr few ↦ absurd (two.differ (one_alone few two.has_one two.has_other))
]
  where
    at_front : (x : ℕ) → length xs ≤ 1 → Contains xs x → slice_get xs 0 ≡ Some x
    at_front x few (k, below, is) = subst (λ i. slice_get xs i ≡ Some x) (omega (arith, few, below)) (slice_get_read xs (length xs) k x refl below (sym is))

    one_alone : length xs ≤ 1 → Contains xs two.one → Contains xs two.other → two.one ≡ two.other
    one_alone few has_one has_other = subst (λ (o : Option ℕ). IsSomeAnd o (λ x. two.one ≡ x)) (sym (at_front two.one few has_one) ∙ at_front two.other few has_other) refl

-- a length above one has two of them
pub two_by_length : (xs : List ℕ) → IsOnceEach xs → IsTrue (nat_lt 1 (length xs)) ↔ HasTwo xs
two_by_length xs once = (λ test. two_there xs once (test_above 1 (length xs) test), λ two. above_test 1 (length xs) (more_than_one xs two))

-- ---- what tests say

not_both : (b : Bool) → b ≡ true → b ≡ false → ⊥
not_both b yes_case no_case = both_ways b no_case yes_case

pub is_there : (flow : List FlowRow) (found : List Bool) (n : ℕ) (b : Bool) → IsTrue b ↔ IsControlled flow found n → b ≡ true → IsControlled flow found n
is_there flow found n b told yes_case = told.0 yes_case

pub is_absent : (flow : List FlowRow) (found : List Bool) (n : ℕ) (b : Bool) → IsTrue b ↔ IsControlled flow found n → b ≡ false → IsControlled flow found n → ⊥
is_absent flow found n b told no_case is = not_both b (told.1 is) no_case

-- ---- what a node controls

pub controls_behind : (flow : List FlowRow) (b n : ℕ) → ControlsIn flow b n → BehindIn flow None b n
controls_behind flow b n c = kept_along (λ x. BehindIn flow None b x) (λ x y edge behind. more_edges x y behind (λ stops. stops) edge) c.path (one_edge c.first c.leads)

first_of : (flow : List FlowRow) (b n : ℕ) → BehindIn flow None b n → (first : ℕ) × EdgeIn flow b first × Path (EdgeIn flow) first n
first_of flow b _ (one_edge n edge) = (n, edge, stays n)
first_of flow b _ (more_edges x n behind passes edge) = let found = first_of flow b x behind in (found.0, found.1, path_more found.2 edge)

two_of : (flow : List FlowRow) (b n : ℕ) (next : List ℕ) → option_map (λ row. row.successors) (slice_get flow b) ≡ Some next → ControlsIn flow b n → HasTwo next
two_of flow b n next is c = record {
  one = c.one;
  other = c.other;
  has_one = (edges_are flow b next is c.one).1 c.to_one;
  has_other = (edges_are flow b next is c.other).1 c.to_other;
  differ = c.differ;
}

pub are_controlled : (flow : List FlowRow) (b : ℕ) (next : List ℕ) (found : List Bool) → option_map (λ row. row.successors) (slice_get flow b) ≡ Some next → HasTwo next → AreBehind flow None b found → AreControlled flow b found
are_controlled flow b next found is two behind = record { same_length = behind.same_length; each = λ n. (controls n, λ c. ((behind.each n).1 (controls_behind flow b n c), c.no_exit)) }
  where
    controls : (n : ℕ) → IsControlled flow found n → ControlsIn flow b n
    controls n found_it =
        let from = first_of flow b n ((behind.each n).0 found_it.0) in
        record {
          one = two.one;
          other = two.other;
          to_one = (edges_are flow b next is two.one).0 two.has_one;
          to_other = (edges_are flow b next is two.other).0 two.has_other;
          differ = two.differ;
          first = from.0;
          leads = from.1;
          path = from.2;
          no_exit = found_it.1;
        }

pub no_pairs : (flow : List FlowRow) (b : ℕ) (next : List ℕ) (pairs : List (ℕ × ℕ)) → option_map (λ row. row.successors) (slice_get flow b) ≡ Some next → (HasTwo next → ⊥) → AddsPairsFrom flow b pairs pairs
no_pairs flow b next pairs is none = adds_none (IsPairFrom flow b) pairs (λ pair from. none (two_of flow b pair.1 next is (subst (λ k. ControlsIn flow k pair.1) from.0 from.1)))

-- ---- the pairs of one node

-- those with a second node below a number
abbrev pub IsPairTo : List FlowRow → ℕ → ℕ → ℕ × ℕ → Type 0
IsPairTo flow b n pair = (pair.0 ≡ b) × (pair.1 < n) × ControlsIn flow pair.0 pair.1

pub pairs_first : (flow : List FlowRow) (b : ℕ) (pairs : List (ℕ × ℕ)) → AddsExactly (IsPairTo flow b 0) pairs pairs
pairs_first flow b pairs = adds_none (IsPairTo flow b 0) pairs (λ pair is. omega (arith, is.1))

module _ (flow : List FlowRow) (b : ℕ) (found : List Bool) (are : AreControlled flow b found) where
  module _ (n : ℕ) (old pairs : List (ℕ × ℕ)) (before : AddsExactly (IsPairTo flow b n) old pairs) where
    pub pair_added : (new : List (ℕ × ℕ)) → IsControlled flow found n → new ≡ pairs ++ (b, n) ∷ [] → AddsExactly (IsPairTo flow b (n + 1)) old new
    pair_added new controlled made = adds_more (IsPairTo flow b n) (λ pair. pair ≡ (b, n)) (IsPairTo flow b (n + 1)) old pairs new before (adds_one pairs new (b, n) made) apart (λ pair. (there pair, back pair))
      where
        apart : (pair : ℕ × ℕ) → IsPairTo flow b n pair → pair ≡ (b, n) → ⊥
        apart pair is e = let same : pair.1 ≡ n = ap (λ (q : ℕ × ℕ). q.1) e in omega (arith, same, is.1)

        there : (pair : ℕ × ℕ) → IsPairTo flow b (n + 1) pair → IsPairTo flow b n pair ⊎ (pair ≡ (b, n))
        there pair is = elim (cases_eq pair.1 n) [
          | inl e ↦ inr (ap (λ k. (k, pair.1)) is.0 ∙ ap (λ k. (b, k)) e)
          | inr other ↦ inl (is.0, omega (arith, is.1, other), is.2)
        ]

        back : (pair : ℕ × ℕ) → IsPairTo flow b n pair ⊎ (pair ≡ (b, n)) → IsPairTo flow b (n + 1) pair
        back pair (inl is) = (is.0, omega (arith, is.1), is.2)
        back pair (inr e) =
            let first : pair.0 ≡ b = ap (λ (q : ℕ × ℕ). q.0) e in
            let second : pair.1 ≡ n = ap (λ (q : ℕ × ℕ). q.1) e in
            (first, omega (arith, second), subst (λ (q : ℕ × ℕ). ControlsIn flow q.0 q.1) (sym e) ((are.each n).0 controlled))

    pub pair_skipped : (IsControlled flow found n → ⊥) → AddsExactly (IsPairTo flow b (n + 1)) old pairs
    pair_skipped free = adds_alike (IsPairTo flow b n) (IsPairTo flow b (n + 1)) old pairs before (λ pair. (there pair, λ is. (is.0, omega (arith, is.1), is.2)))
      where
        there : (pair : ℕ × ℕ) → IsPairTo flow b (n + 1) pair → IsPairTo flow b n pair
        there pair is = elim (cases_eq pair.1 n) [
          | inl e ↦ absurd (free ((are.each n).1 (subst (λ k. ControlsIn flow b k) e (subst (λ k. ControlsIn flow k pair.1) is.0 is.2))))
          | inr other ↦ (is.0, omega (arith, is.1, other), is.2)
        ]

  pub pairs_all : (n : ℕ) (old pairs : List (ℕ × ℕ)) → length flow ≤ n → AddsExactly (IsPairTo flow b n) old pairs → AddsPairsFrom flow b old pairs
  pairs_all n old pairs past before = adds_alike (IsPairTo flow b n) (IsPairFrom flow b) old pairs before (λ pair. (there pair, λ is. (is.0, is.2)))
    where
      inside : (k : ℕ) → has_number found k ≡ true → k < length flow
      inside k has = elim (cases_lt k (length flow)) [
        | inl below ↦ below
        | inr out ↦ absurd (both_ways (has_number found k) (get_or_past found k false (omega (arith, are.same_length, out))) has)
      ]

      there : (pair : ℕ × ℕ) → IsPairFrom flow b pair → IsPairTo flow b n pair
      there pair is =
          let controlled = (are.each pair.1).1 (subst (λ k. ControlsIn flow k pair.1) is.0 is.1) in
          (is.0, omega (arith, inside pair.1 controlled.0, past), is.1)

-- ---- the pairs of all nodes

-- those with a first node below a number
abbrev pub IsPairBelow : List FlowRow → ℕ → ℕ × ℕ → Type 0
IsPairBelow flow b pair = (pair.0 < b) × ControlsIn flow pair.0 pair.1

pub below_first : (flow : List FlowRow) → AddsExactly (IsPairBelow flow 0) [] []
below_first flow = adds_none (IsPairBelow flow 0) [] (λ pair is. omega (arith, is.0))

pub below_more : (flow : List FlowRow) (b : ℕ) (pairs new : List (ℕ × ℕ)) → AddsExactly (IsPairBelow flow b) [] pairs → AddsPairsFrom flow b pairs new → AddsExactly (IsPairBelow flow (b + 1)) [] new
below_more flow b pairs new before more = adds_more (IsPairBelow flow b) (IsPairFrom flow b) (IsPairBelow flow (b + 1)) [] pairs new before more apart (λ pair. (there pair, back pair))
  where
    apart : (pair : ℕ × ℕ) → IsPairBelow flow b pair → IsPairFrom flow b pair → ⊥
    apart pair is from = omega (arith, is.0, from.0)

    there : (pair : ℕ × ℕ) → IsPairBelow flow (b + 1) pair → IsPairBelow flow b pair ⊎ IsPairFrom flow b pair
    there pair is = elim (cases_eq pair.0 b) [
      | inl e ↦ inr (e, is.1)
      | inr other ↦ inl (omega (arith, is.0, other), is.1)
    ]

    back : (pair : ℕ × ℕ) → IsPairBelow flow b pair ⊎ IsPairFrom flow b pair → IsPairBelow flow (b + 1) pair
    back pair (inl is) = (omega (arith, is.0), is.1)
    back pair (inr from) = (omega (arith, from.0), from.1)

pub are_controls : (flow : List FlowRow) (b : ℕ) (pairs : List (ℕ × ℕ)) → length flow ≤ b → AddsExactly (IsPairBelow flow b) [] pairs → AreControls flow pairs
are_controls flow b pairs past before =
    lists_exactly (λ (pair : ℕ × ℕ). ControlsIn flow pair.0 pair.1) pairs
    (adds_alike (IsPairBelow flow b) (λ (pair : ℕ × ℕ). ControlsIn flow pair.0 pair.1) [] pairs before (λ pair. (λ c. (omega (arith, edge_inside flow pair.0 c.first c.leads, past), c), λ is. is.1)))

-- Orders that find the same first.
use Rattle.std.proofs.Common.{◌≡◌, ◌∙◌, ℕ, suc, ◌+◌, ◌<◌, ◌≤◌, List, [], ◌∷◌, ◌++◌, length, get_or, set, drop, Option, Some, None, refl, sym, ap, subst, arith, inl, inr, length-set, append_assoc, add-one, drop-cons}
use Rattle.std.specs.List.{Contains, flat_map}
use Rattle.std.specs.Option.{option_or}
use Rattle.std.proofs.lemmas.Bool.{cases_eq, cases_lt}
use Rattle.std.proofs.lemmas.List.{get_or-set_same, get_or-set_other, get_or_past, append-nil}
use Rattle.jo_prog.specs.Walks.{Leads, IsAcyclic, EndsWithin, first_found}
use Rattle.jo_prog.proofs.WalkLemmas.{here, behind, none_there, at_recursion, none_found, found_in_two, found_in_each, walk_unfolds, ends}
use Rattle.hierarchy.specs.Orders.{SameFirst, edges, LeadsInside, walk_from, IsMade, AreRight, AreMadeBy, IsOrderOf, Visits, VisitsUpTo, GoesOn, AreWalks}

-- ---- look-ups that find the same

pub same_then : (xs ys zs : List ℕ) → SameFirst xs ys → SameFirst ys zs → SameFirst xs zs
same_then xs ys zs first then_same look = first look ∙ then_same look

pub same_in_two : (xs xs2 ys ys2 : List ℕ) → SameFirst xs xs2 → SameFirst ys ys2 → SameFirst (xs ++ ys) (xs2 ++ ys2)
same_in_two xs xs2 ys ys2 first second look =
    found_in_two look xs ys ∙ ap (λ o. option_or o (first_found look ys)) (first look) ∙ ap (option_or (first_found look xs2)) (second look) ∙ sym (found_in_two look xs2 ys2)

pub same_behind : (x : ℕ) (xs ys : List ℕ) → SameFirst xs ys → SameFirst (x ∷ xs) (x ∷ ys)
same_behind x xs ys same look = ap (option_or (look x)) (same look)

pub same_flat_map : (f : ℕ → List ℕ) (xs ys : List ℕ) → SameFirst xs ys → SameFirst (flat_map f xs) (flat_map f ys)
same_flat_map f xs ys same look = found_in_each look f xs ∙ same (λ k. first_found look (f k)) ∙ sym (found_in_each look f ys)

pub same_each : (f g : ℕ → List ℕ) (xs : List ℕ) → ((x : ℕ) → Contains xs x → SameFirst (f x) (g x)) → SameFirst (flat_map f xs) (flat_map g xs)
same_each f g [] each look = refl
same_each f g (x ∷ xs) each look =
    same_in_two (f x) (g x) (flat_map f xs) (flat_map g xs) (each x (here x xs)) (same_each f g xs (λ y c. each y (behind x xs y c))) look

-- one that was there before is found there
pub same_again : (xs : List ℕ) (c : ℕ) (ys : List ℕ) → Contains xs c → SameFirst (xs ++ ys) (xs ++ c ∷ ys)
same_again xs c ys among look = found_in_two look xs ys ∙ by_first (first_found look xs) refl (look c) refl ∙ sym (found_in_two look xs (c ∷ ys))
  where
    by_first : (o : Option ℕ) → first_found look xs ≡ o → (p : Option ℕ) → look c ≡ p → option_or o (first_found look ys) ≡ option_or o (option_or p (first_found look ys))
    by_first (Some found) is p here_is = refl
    by_first None is None here_is = refl
    by_first None is (Some found) here_is = absurd (differ (sym here_is ∙ none_found look xs is c among))
      where
        differ : Some found ≡ None → ⊥
        differ e = cc

-- an order that finds a number isn't empty
pub finds_some : (xs : List ℕ) (x : ℕ) (ys : List ℕ) → SameFirst xs (x ∷ ys) → 0 < length xs
finds_some [] x ys same = absurd (differ (same (λ k. Some k)))
  where
    differ : None ≡ Some x → ⊥
    differ e = cc
finds_some (z ∷ zs) x ys same = omega arith

-- ---- the order of one number more

made_same : (xs ys : List ℕ) → xs ≡ ys → 0 < length xs → 0 < length ys
made_same xs ys e h = subst (λ zs. 0 < length zs) e h

pub from_inside : (graph : List (List ℕ)) (a b : ℕ) → Leads (edges graph) a b → a < length graph
from_inside graph a b among = elim (cases_lt a (length graph)) [
  | inl below ↦ below
  | inr past ↦ absurd (none_there b (subst (λ ys. Contains ys b) (get_or_past graph a [] past) among))
]

module _ (graph : List (List ℕ)) (inside : LeadsInside graph) where
  pub visits_made : (orders : List (List ℕ)) (number : ℕ) → AreRight graph orders → IsMade orders number → Visits graph orders orders number
  visits_made orders number right made = record { right = right; kept = λ a h. h; more = λ steps by e. made }

  pub visits_none : (orders : List (List ℕ)) (number : ℕ) → AreRight graph orders → IsOrderOf number (edges graph number) orders None → Visits graph orders orders number
  visits_none orders number right (c, among, unmade) = record {
    right = right;
    kept = λ a h. h;
    more = λ steps by e. absurd (unmade (by c (inside number c among) (e c among)));
  }

  module _ (acyclic : IsAcyclic (edges graph)) where
    pub visits_some : (orders : List (List ℕ)) (number : ℕ) (order : List ℕ) → number < length graph → AreRight graph orders
        → IsOrderOf number (edges graph number) orders (Some order) → Visits graph orders (set orders number order) number
    visits_some orders number order below right made = record {
      right = record { same_length = length-set orders number order ∙ right.same_length; right = is_right };
      kept = kept;
      more = λ steps by e. now_made;
    }
      where
        there : number < length orders
        there = omega (arith, below, right.same_length)

        at : edges (set orders number order) number ≡ order
        at = get_or-set_same orders number order [] there

        now_made : IsMade (set orders number order) number
        now_made = made_same order (edges (set orders number order) number) (sym at) (finds_some order number (flat_map (edges orders) (edges graph number)) made.1)

        kept : (a : ℕ) → IsMade orders a → IsMade (set orders number order) a
        kept a h = elim (cases_eq a number) [
          | inl e ↦ subst (λ k. IsMade (set orders number order) k) (sym e) now_made
          | inr ne ↦ made_same (edges orders a) (edges (set orders number order) a) (sym (get_or-set_other orders number a order [] ne)) h
        ]

        walks_behind : SameFirst (number ∷ flat_map (edges orders) (edges graph number)) (walk_from graph number)
        walks_behind look =
            same_behind number (flat_map (edges orders) (edges graph number)) (flat_map (walk_from graph) (edges graph number))
            (same_each (edges orders) (walk_from graph) (edges graph number) (λ x c. right.right x (at_recursion (IsMade orders) (edges graph number) x made.0 c))) look
            ∙ ap (first_found look) (sym (walk_unfolds (edges graph) acyclic (length graph) (from_inside graph) number))

        right_here : SameFirst (edges (set orders number order) number) (walk_from graph number)
        right_here =
            subst (λ xs. SameFirst xs (walk_from graph number)) (sym at)
            (same_then order (number ∷ flat_map (edges orders) (edges graph number)) (walk_from graph number) made.1 walks_behind)

        is_right : (a : ℕ) → IsMade (set orders number order) a → SameFirst (edges (set orders number order) a) (walk_from graph a)
        is_right a h = elim (cases_eq a number) [
          | inl e ↦ subst (λ k. SameFirst (edges (set orders number order) k) (walk_from graph k)) (sym e) right_here
          | inr ne ↦
              let same = get_or-set_other orders number a order [] ne in
              subst (λ xs. SameFirst xs (walk_from graph a)) (sym same) (right.right a (made_same (edges (set orders number order) a) (edges orders a) same h))
        ]

    -- ---- a round

    pub round_begins : (orders : List (List ℕ)) → AreRight graph orders → VisitsUpTo graph orders orders 0
    round_begins orders right = record { right = right; kept = λ a h. h; more = λ steps by a below e. absurd (omega (arith, below)) }

    pub round_more : (old new newer : List (List ℕ)) (number : ℕ) → VisitsUpTo graph old new number → Visits graph new newer number → VisitsUpTo graph old newer (number + 1)
    round_more old new newer number before v = record {
      right = v.right;
      kept = λ a h. v.kept a (before.kept a h);
      more = more;
    }
      where
        more : (steps : ℕ) → AreMadeBy graph old steps → (a : ℕ) → a < number + 1 → EndsWithin (edges graph) (suc steps) a → IsMade newer a
        more steps by a below e = elim (cases_eq a number) [
          | inl same ↦ subst (λ k. IsMade newer k) (sym same) (v.more steps (λ c inside_c e_c. before.kept c (by c inside_c e_c)) (subst (λ k. EndsWithin (edges graph) (suc steps) k) same e))
          | inr ne ↦ v.kept a (before.more steps by a (omega (arith, below, ne)) e)
        ]

    pub round_done : (old new : List (List ℕ)) (number : ℕ) → length graph ≤ number → VisitsUpTo graph old new number → GoesOn graph old new
    round_done old new number all v = record { right = v.right; more = λ steps by a below e. v.more steps by a (omega (arith, below, all)) e }

    -- ---- all rounds

    pub walks_done : (orders : List (List ℕ)) (steps : ℕ) → steps ≡ length graph + 1 → AreRight graph orders → AreMadeBy graph orders steps → AreWalks graph orders
    walks_done orders steps e right made = record {
      same_length = right.same_length;
      each = λ a below. right.right a (made a below (subst (λ n. EndsWithin (edges graph) n a) (last e) (ends (edges graph) acyclic (length graph) (from_inside graph) a)));
    }
      where
        last : steps ≡ length graph + 1 → suc (length graph) ≡ steps
        last e = omega (arith, e)

-- ---- in loops

pub one_there : (order : List ℕ) (x : ℕ) → Contains order x → SameFirst order (order ++ x ∷ [])
one_there order x among look = ap (first_found look) (sym (append-nil order)) ∙ same_again order x [] among look

pub equal_orders : (xs ys : List ℕ) → xs ≡ ys → SameFirst xs ys
equal_orders xs ys e look = ap (first_found look) e

pub drop_here : {X : Type 0} (xs : List X) (i : ℕ) (x : X) → i < length xs → x ≡ get_or xs i x → drop i xs ≡ x ∷ drop (i + 1) xs
drop_here xs i x h is = rw add-one (drop-cons xs i x h ∙ ap (λ y. y ∷ drop (suc i) xs) (sym is))

-- some more put behind an order
pub some_more : (order new more rest all : List ℕ) → SameFirst new (order ++ more) → SameFirst (order ++ (more ++ rest)) all → SameFirst (new ++ rest) all
some_more order new more rest all step same look =
    same_in_two new (order ++ more) rest rest step (λ l. refl) look ∙ ap (first_found look) (append_assoc order more rest) ∙ same look

pub none_more : (order rest all : List ℕ) → rest ≡ [] → SameFirst (order ++ rest) all → SameFirst order all
none_more order rest all e same look = ap (first_found look) (sym (append-nil order) ∙ ap (λ ys. order ++ ys) (sym e)) ∙ same look

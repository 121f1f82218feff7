-- Walks through graphs: what they hold, and how far they go where there is no cycle.
use Rattle.std.proofs.Common.{◌≡◌, ◌∙◌, ℕ, zero, suc, ◌+◌, ◌<◌, ◌≤◌, true, false, List, [], ◌∷◌, ◌++◌, length, Option, Some, None, refl, sym, ap, subst, arith, inl, inr, ◌⊎◌, eqb}
use Rattle.std.specs.Prelude.{◌==◌}
use Rattle.std.specs.List.{Contains, flat_map, list_any, AllByRecursion, IsDistinct}
use Rattle.std.proofs.lemmas.Bool.{eqb-true, eq-eqb, or_cases, or_left, or_right, false_from_ne_true}
use Rattle.std.proofs.lemmas.List.Elements.{Contains-append_left, Contains-append_right, Contains-append_cases}
use Rattle.std.proofs.lemmas.Map.Steps.{length-le_from_distinct_below}
use Rattle.jo_ids.specs.Path.{Path, stays, goes}
use Rattle.jo_ids.proofs.PathLemmas.{path_more}
use Rattle.std.specs.Option.{option_or}
use Rattle.jo_prog.specs.Walks.{Leads, IsAcyclic, EndsWithin, walk, first_found, IsFirst}

-- ---- items of lists

pub here : {X : Type 0} (x : X) (xs : List X) → Contains (x ∷ xs) x
here x xs = (0, omega arith, refl)

pub behind : {X : Type 0} (x : X) (xs : List X) (y : X) → Contains xs y → Contains (x ∷ xs) y
behind x xs y (k, below, is) = (suc k, omega (arith, below), is)

pub head_or_behind : {X : Type 0} (x : X) (xs : List X) (y : X) → Contains (x ∷ xs) y → (x ≡ y) ⊎ Contains xs y
head_or_behind x xs y (zero, below, is) = inl is
head_or_behind x xs y (suc k, below, is) = inr (k, omega (arith, below), is)

pub none_there : {X : Type 0} (y : X) → Contains [] y → ⊥
none_there y (k, below, is) = omega (arith, below)

pub at_recursion : {X : Type 0} (P : X → Type 0) (xs : List X) (y : X) → AllByRecursion P xs → Contains xs y → P y
at_recursion P [] y all c = absurd (none_there y c)
at_recursion P (x ∷ xs) y all c = elim (head_or_behind x xs y c) [
  | inl e ↦ subst P e all.0
  | inr more ↦ at_recursion P xs y all.1 more
]

pub any_contains : (xs : List ℕ) (b : ℕ) → list_any (λ k. k == b) xs ≡ true → Contains xs b
any_contains [] b h = absurd (cc)
any_contains (x ∷ xs) b h = elim (or_cases (x == b) (list_any (λ k. k == b) xs) h) [
  | inl e ↦ subst (λ y. Contains (x ∷ xs) y) (eqb-true x b e) (here x xs)
  | inr more ↦ behind x xs b (any_contains xs b more)
]

pub contains_any : (xs : List ℕ) (b : ℕ) → Contains xs b → list_any (λ k. k == b) xs ≡ true
contains_any [] b c = absurd (none_there b c)
contains_any (x ∷ xs) b c = elim (head_or_behind x xs b c) [
  | inl e ↦ or_left (x == b) _ (eq-eqb x b e)
  | inr more ↦ or_right (x == b) _ (contains_any xs b more)
]

pub in_flat_map : {X Y : Type 0} (f : X → List Y) (xs : List X) (y : Y) → Contains (flat_map f xs) y → (x : X) × Contains xs x × Contains (f x) y
in_flat_map f [] y c = absurd (none_there y c)
in_flat_map f (x ∷ xs) y c = elim (Contains-append_cases (f x) (flat_map f xs) y c) [
  | inl first ↦ (x, here x xs, first)
  | inr more ↦ let at = in_flat_map f xs y more in (at.0, behind x xs at.0 at.1, at.2)
]

pub to_flat_map : {X Y : Type 0} (f : X → List Y) (xs : List X) (x : X) (y : Y) → Contains xs x → Contains (f x) y → Contains (flat_map f xs) y
to_flat_map f [] x y among c = absurd (none_there x among)
to_flat_map f (z ∷ zs) x y among c = elim (head_or_behind z zs x among) [
  | inl e ↦ Contains-append_left (f z) (flat_map f zs) y (subst (λ w. Contains (f w) y) (sym e) c)
  | inr more ↦ Contains-append_right (f z) (flat_map f zs) y (to_flat_map f zs x y more c)
]

pub flat_map_same : {X Y : Type 0} (f g : X → List Y) (xs : List X) → ((x : X) → Contains xs x → f x ≡ g x) → flat_map f xs ≡ flat_map g xs
flat_map_same f g [] same = refl
flat_map_same f g (x ∷ xs) same =
    ap (λ ys. ys ++ flat_map f xs) (same x (here x xs)) ∙ ap (λ ys. g x ++ ys) (flat_map_same f g xs (λ y c. same y (behind x xs y c)))

-- ---- what a walk holds

module _ (next : ℕ → List ℕ) where
  -- each number of a walk is reached
  pub walk_reaches : (steps a b : ℕ) → Contains (walk steps next a) b → Path (Leads next) a b
  walk_reaches zero a b c = absurd (none_there b c)
  walk_reaches (suc steps) a b c = elim (head_or_behind a (flat_map (walk steps next) (next a)) b c) [
    | inl e ↦ subst (λ x. Path (Leads next) a x) e (stays a)
    | inr more ↦
        let at = in_flat_map (walk steps next) (next a) b more in
        goes a at.0 b at.1 (walk_reaches steps at.0 b at.2)
  ]

  pub reached_in_walk : (steps : ℕ) {a b : ℕ} → EndsWithin next steps a → Path (Leads next) a b → Contains (walk steps next a) b
  reached_in_walk zero ends p = absurd ends
  reached_in_walk (suc steps) ends (stays a) = here a (flat_map (walk steps next) (next a))
  reached_in_walk (suc steps) ends (goes a m b edge p) =
      behind a (flat_map (walk steps next) (next a)) b (to_flat_map (walk steps next) (next a) m b edge (reached_in_walk steps (ends m edge) p))

  -- more steps change nothing
  pub walk_more : (steps a : ℕ) → EndsWithin next steps a → walk (suc steps) next a ≡ walk steps next a
  walk_more zero a ends = absurd ends
  walk_more (suc steps) a ends = ap (λ ys. a ∷ ys) (flat_map_same (walk (suc steps) next) (walk steps next) (next a) (λ b edge. walk_more steps b (ends b edge)))

  pub walk_same : (other : ℕ → List ℕ) → ((a : ℕ) → next a ≡ other a) → (steps a : ℕ) → walk steps next a ≡ walk steps other a
  walk_same other same zero a = refl
  walk_same other same (suc steps) a =
      ap (λ ys. a ∷ ys)
      (flat_map_same (walk steps next) (walk steps other) (next a) (λ b edge. walk_same other same steps b)
      ∙ ap (flat_map (walk steps other)) (same a))

  -- ---- without a cycle no way has more steps than there are numbers with an edge

  -- the numbers of a way to a number, the last first
  record Way (count : ℕ) (xs : List ℕ) (a : ℕ) : Type 0 where
    distinct : IsDistinct eqb xs
    below : AllByRecursion (λ x. x < count) xs
    leads : AllByRecursion (λ x. (m : ℕ) × Leads next x m × Path (Leads next) m a) xs

  module _ (acyclic : IsAcyclic next) (count : ℕ) (inside : (a b : ℕ) → Leads next a b → a < count) where
    apart : (xs : List ℕ) (a : ℕ) → AllByRecursion (λ x. (m : ℕ) × Leads next x m × Path (Leads next) m a) xs → AllByRecursion (λ y. eqb a y ≡ false) xs
    apart [] a leads = tt
    apart (x ∷ xs) a leads = (false_from_ne_true (eqb a x) (λ same. acyclic x leads.0.0 leads.0.1 (subst (λ y. Path (Leads next) leads.0.0 y) (eqb-true a x same) leads.0.2)), apart xs a leads.1)

    onward : (xs : List ℕ) (a b : ℕ) → Leads next a b → AllByRecursion (λ x. (m : ℕ) × Leads next x m × Path (Leads next) m a) xs
        → AllByRecursion (λ x. (m : ℕ) × Leads next x m × Path (Leads next) m b) xs
    onward [] a b edge leads = tt
    onward (x ∷ xs) a b edge leads = ((leads.0.0, leads.0.1, path_more leads.0.2 edge), onward xs a b edge leads.1)

    way_more : (xs : List ℕ) (a b : ℕ) → Leads next a b → Way count xs a → Way count (a ∷ xs) b
    unfolding IsDistinct
    way_more xs a b edge way = record {
      distinct = (apart xs a way.leads, way.distinct);
      below = (inside a b edge, way.below);
      leads = ((b, edge, stays b), onward xs a b edge way.leads);
    }

    ends_behind : (steps : ℕ) (xs : List ℕ) (a : ℕ) → length xs + steps ≡ suc count → Way count xs a → EndsWithin next steps a
    ends_behind zero xs a e way =
        let most : length xs ≤ count = length-le_from_distinct_below xs count way.distinct (λ q h. at_recursion (λ x. x < count) xs q way.below (any_of xs q h)) in
        absurd (omega (arith, most, e))
      where
        any_of : (ys : List ℕ) (q : ℕ) → list_any (eqb q) ys ≡ true → Contains ys q
        any_of [] q h = absurd (cc)
        any_of (y ∷ ys) q h = elim (or_cases (eqb q y) (list_any (eqb q) ys) h) [
          | inl same ↦ subst (λ z. Contains (y ∷ ys) z) (sym (eqb-true q y same)) (here y ys)
          | inr more ↦ behind y ys q (any_of ys q more)
        ]
    ends_behind (suc steps) xs a e way = λ b edge. ends_behind steps (a ∷ xs) b (omega (arith, e)) (way_more xs a b edge way)

    pub ends : (a : ℕ) → EndsWithin next (suc count) a
    unfolding IsDistinct
    ends a = ends_behind (suc count) [] a (omega arith) (record { distinct = tt; below = tt; leads = tt })

    -- a walk is the number and the walks behind it
    pub walk_unfolds : (a : ℕ) → walk (suc count) next a ≡ a ∷ flat_map (walk (suc count) next) (next a)
    walk_unfolds a = sym (walk_more (suc count) a (ends a))

    pub walk_has_reached : (a b : ℕ) → Path (Leads next) a b → Contains (walk (suc count) next a) b
    walk_has_reached a b p = reached_in_walk (suc count) (ends a) p

-- ---- what is found first

pub found_in_two : (look : ℕ → Option ℕ) (xs ys : List ℕ) → first_found look (xs ++ ys) ≡ option_or (first_found look xs) (first_found look ys)
found_in_two look [] ys = refl
found_in_two look (x ∷ xs) ys = ap (option_or (look x)) (found_in_two look xs ys) ∙ either_way (look x) (first_found look xs) (first_found look ys)
  where
    either_way : (o p q : Option ℕ) → option_or o (option_or p q) ≡ option_or (option_or o p) q
    either_way None p q = refl
    either_way (Some found) p q = refl

pub found_in_each : (look : ℕ → Option ℕ) (f : ℕ → List ℕ) (xs : List ℕ) → first_found look (flat_map f xs) ≡ first_found (λ k. first_found look (f k)) xs
found_in_each look f [] = refl
found_in_each look f (x ∷ xs) = found_in_two look (f x) (flat_map f xs) ∙ ap (option_or (first_found look (f x))) (found_in_each look f xs)

pub is_first : (look : ℕ → Option ℕ) (ks : List ℕ) (found : ℕ) → first_found look ks ≡ Some found → IsFirst look ks found
is_first look [] found e = absurd (cc)
is_first look (k ∷ ks) found e = by_look (look k) refl e (λ more. is_first look ks found more)
  where
    by_look : (o : Option ℕ) → look k ≡ o → option_or o (first_found look ks) ≡ Some found → (first_found look ks ≡ Some found → IsFirst look ks found)
        → IsFirst look (k ∷ ks) found
    by_look (Some other) is e further = (k, [], ks, refl, tt, is ∙ e)
    by_look None is e further =
        let at = further e in
        (at.0, k ∷ at.1, at.2, ap (λ ys. k ∷ ys) at.3, (is, at.4), at.5)

pub none_found : (look : ℕ → Option ℕ) (ks : List ℕ) → first_found look ks ≡ None → (k : ℕ) → Contains ks k → look k ≡ None
none_found look [] e k c = absurd (none_there k c)
none_found look (x ∷ xs) e k c = by_look (look x) refl e (λ more among. none_found look xs more k among)
  where
    by_look : (o : Option ℕ) → look x ≡ o → option_or o (first_found look xs) ≡ None → (first_found look xs ≡ None → Contains xs k → look k ≡ None) → look k ≡ None
    by_look (Some other) is e further = absurd (cc)
    by_look None is e further = elim (head_or_behind x xs k c) [
      | inl same ↦ ap look (sym same) ∙ is
      | inr more ↦ further e more
    ]

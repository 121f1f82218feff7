-- The rows of the levels become the closure of the pairs.
use Rattle.std.proofs.Common.{◌≡◌, ℕ, ◌+◌, ◌<◌, ◌≤◌, ◌&&◌, ◌||◌, true, false, List, length, get_or, replicate, Contains, slice_get, Some, refl, sym, ◌∙◌, ap, subst, arith, inl, inr, ◌⊎◌}
use Rattle.std.proofs.lemmas.Bool.{cases_eq, cases_lt, both_ways, or_cases, or_left, or_right, and_from, and_parts}
use Rattle.std.proofs.lemmas.List.{length-replicate, get_or-replicate}
use Rattle.std.proofs.lemmas.Option.{slice_get-get_or}
use Rattle.jo_ids.specs.Words.{in_word}
use Rattle.jo_ids.proofs.WordLemmas.{in_word-zero}
use Rattle.jo_ids.specs.Path.{Path, stays, goes}
use Rattle.jo_ids.specs.Closure.{Closure}
use Rattle.jo_ids.proofs.PathLemmas.{path_on, path_in}
use Rattle.jo_order.specs.LevelRows.{row_has, row_flows}
use Rattle.jo_order.specs.FlowLaws.{row_flows-self}
use Rattle.jo_order.specs.Orders.{AreKnown}
use Rattle.jo_order.specs.Closing.{AreInside, HasPairs, IsClosureOf, IsClosed}
use Rattle.jo_order.proofs.RowsLemmas.{row_has-past, row_has-below, row_flows-has, row_flows-cases}

pub known_inside : (count : ℕ) (pairs : List (ℕ × ℕ)) → AreKnown count pairs → AreInside count pairs
known_inside count pairs known a b among = (first, second)
  where
    there : slice_get pairs among.0 ≡ Some (a, b)
    there = slice_get-get_or pairs among.0 (a, b) among.1 ∙ ap (λ p. Some p) among.2

    first : a < count
    first = elim (cases_lt a count) [ inl h ↦ h | inr past ↦ absurd (known among.0 (record { pair = (a, b); there = there; past = inl past })) ]

    second : b < count
    second = elim (cases_lt b count) [ inl h ↦ h | inr past ↦ absurd (known among.0 (record { pair = (a, b); there = there; past = inr past })) ]

-- ---- closing, one level after another

-- the rows are closed over the levels below one
pub record ClosesBelow (level : ℕ) (first rows : List ℕ) : Type 0 where
  pub same_length : length rows ≡ length first
  pub had : (a b : ℕ) → row_has first a b ≡ true → row_has rows a b ≡ true
  pub through : (a k b : ℕ) → k < level → row_has rows a k ≡ true → row_has rows k b ≡ true → row_has rows a b ≡ true
  pub only : (a b : ℕ) → row_has rows a b ≡ true → Path (λ x y. row_has first x y ≡ true) a b

pub closes_none : (first : List ℕ) → ClosesBelow 0 first first
closes_none first = record {
  same_length = refl;
  had = λ a b h. h;
  through = λ a k b h. absurd (omega (arith, h));
  only = λ a b h. goes a b b h (stays b);
}

pub closes_more : (level : ℕ) (first rows next : List ℕ) → ClosesBelow level first rows → length next ≡ length rows
    → ((a b : ℕ) → row_has next a b ≡ (row_has rows a b || (row_has rows a level && row_has rows level b))) → ClosesBelow (level + 1) first next
closes_more level first rows next so_far len is = record {
  same_length = len ∙ so_far.same_length;
  had = λ a b h. kept a b (so_far.had a b h);
  through = through;
  only = only;
}
  where
    kept : (a b : ℕ) → row_has rows a b ≡ true → row_has next a b ≡ true
    kept a b h = is a b ∙ or_left (row_has rows a b) (row_has rows a level && row_has rows level b) h

    by_level : (a b : ℕ) → row_has rows a level ≡ true → row_has rows level b ≡ true → row_has next a b ≡ true
    by_level a b h k = is a b ∙ or_right (row_has rows a b) (row_has rows a level && row_has rows level b) (and_from (row_has rows a level) (row_has rows level b) h k)

    cases : (a b : ℕ) → row_has next a b ≡ true → (row_has rows a b ≡ true) ⊎ ((row_has rows a level ≡ true) × (row_has rows level b ≡ true))
    cases a b h = elim (or_cases (row_has rows a b) (row_has rows a level && row_has rows level b) (sym (is a b) ∙ h)) [
      | inl had ↦ inl had
      | inr both ↦ inr (and_parts (row_has rows a level) (row_has rows level b) both)
    ]

    -- a step to the level or from it is none by the level itself
    to_level : (a : ℕ) → row_has next a level ≡ true → row_has rows a level ≡ true
    to_level a h = elim (cases a level h) [ inl had ↦ had | inr both ↦ both.0 ]

    from_level : (b : ℕ) → row_has next level b ≡ true → row_has rows level b ≡ true
    from_level b h = elim (cases level b h) [ inl had ↦ had | inr both ↦ both.1 ]

    below : (a k b : ℕ) → k < level → row_has next a k ≡ true → row_has next k b ≡ true → row_has next a b ≡ true
    below a k b h first second = elim (cases a k first) [
      | inl up ↦ elim (cases k b second) [
        | inl on ↦ kept a b (so_far.through a k b h up on)
        | inr on ↦ by_level a b (so_far.through a k level h up on.0) on.1
      ]
      | inr up ↦ elim (cases k b second) [
        | inl on ↦ by_level a b up.0 (so_far.through level k b h up.1 on)
        | inr on ↦ by_level a b up.0 on.1
      ]
    ]

    through : (a k b : ℕ) → k < level + 1 → row_has next a k ≡ true → row_has next k b ≡ true → row_has next a b ≡ true
    through a k b h first second = elim (cases_eq k level) [
      | inl e ↦ by_level a b (to_level a (subst (λ j. row_has next a j ≡ true) e first)) (from_level b (subst (λ j. row_has next j b ≡ true) e second))
      | inr n ↦ below a k b (omega (arith, h, n)) first second
    ]

    only : (a b : ℕ) → row_has next a b ≡ true → Path (λ x y. row_has first x y ≡ true) a b
    only a b h = elim (cases a b h) [
      | inl had ↦ so_far.only a b had
      | inr both ↦ path_on (so_far.only a level both.0) (so_far.only level b both.1)
    ]

pub closes_all : (level : ℕ) (first rows : List ℕ) → ClosesBelow level first rows → length first ≤ level → IsClosureOf first rows
closes_all level first rows all end = record {
  same_length = all.same_length;
  had = all.had;
  transitive = λ a b c h k. all.through a b c (omega (arith, row_has-below rows b c k, all.same_length)) h k;
  only = all.only;
}

-- ---- from the pairs to their closure

zeros_lack : (n a b : ℕ) → row_has (replicate n 0) a b ≡ true → ⊥
zeros_lack n a b h = both_ways (row_has (replicate n 0) a b) (elim (cases_lt a n) [
  | inl below ↦ zero_row (get_or {A = ℕ} (replicate n 0) a 0) (get_or-replicate {A = ℕ} n a 0 0 below)
  | inr past ↦ row_has-past (replicate n 0) a b (omega (arith, length-replicate {A = ℕ} n 0))
]) h
  where
    zero_row : (w : ℕ) → w ≡ 0 → in_word w b ≡ false
    zero_row w e = ap (λ v. in_word v b) e ∙ in_word-zero b

pub is_closed : (pairs : List (ℕ × ℕ)) (count : ℕ) (marked rows : List ℕ) → HasPairs pairs (replicate count 0) marked → IsClosureOf marked rows → IsClosed pairs rows
is_closed pairs count marked rows has closure a b = (gives a b, takes)
  where
    pair_of : (x y : ℕ) → row_has marked x y ≡ true → Contains pairs (x, y)
    pair_of x y h = elim ((has.each x y).0 h) [ inl none ↦ absurd (zeros_lack count x y none) | inr among ↦ among ]

    gives : (x y : ℕ) → row_flows rows x y ≡ true → Closure pairs x y
    gives x y h = elim (row_flows-cases rows x y h) [
      | inl e ↦ subst (λ z. Closure pairs x z) e (stays x)
      | inr on ↦ path_in (λ (z : ℕ). z) pair_of (closure.only x y on)
    ]

    takes : {x y : ℕ} → Closure pairs x y → row_flows rows x y ≡ true
    takes (stays x) = row_flows-self rows x
    takes (goes x y z among path) =
        let first : row_has rows x y ≡ true = closure.had x y ((has.each x y).1 (inr among)) in
        elim (row_flows-cases rows y z (takes path)) [
          | inl e ↦ row_flows-has rows x z (subst (λ k. row_has rows x k ≡ true) e first)
          | inr on ↦ row_flows-has rows x z (closure.transitive x y z first on)
        ]

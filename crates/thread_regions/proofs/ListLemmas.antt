-- Rising lists with the same numbers have the same length.
use Rattle.std.proofs.Common.{◌≡◌, ◌↔◌, inl, inr, ℕ, zero, suc, ◌<◌, ◌≤◌, List, length, get_or, Contains, sym, ◌∙◌, ap, arith}
use Rattle.std.proofs.lemmas.Bool.{cases_eq, cases_lt}
use Rattle.std.proofs.lemmas.Grind.{get_or_default_zero}
use Rattle.dep_nodes.specs.Regions.{IsRising}

place_of_number : (xs : List ℕ) (n : ℕ) → Contains xs n → (k : ℕ) × (k < length xs) × (get_or xs k 0 ≡ n)
place_of_number xs n among = (among.0, among.1, sym (get_or_default_zero xs among.0 n among.1) ∙ among.2)

stands : (xs : List ℕ) (i : ℕ) → i < length xs → Contains xs (get_or xs i 0)
stands xs i below = (i, below, get_or_default_zero xs i (get_or xs i 0) below)

abbrev AgreeBelow : List ℕ → List ℕ → ℕ → Type 0
AgreeBelow xs ys i = (j : ℕ) → j < i → get_or xs j 0 ≡ get_or ys j 0

not_above : (xs ys : List ℕ) (i : ℕ) → IsRising xs → IsRising ys → ((n : ℕ) → Contains xs n → Contains ys n) → AgreeBelow xs ys i → i < length xs → get_or ys i 0 ≤ get_or xs i 0
not_above xs ys i rx ry has agree below =
    let at = place_of_number ys (get_or xs i 0) (has (get_or xs i 0) (stands xs i below)) in
    elim (cases_lt at.0 i) [
      | inl before ↦ absurd (omega (arith, rx at.0 i before below, agree at.0 before, at.2))
      | inr not_before ↦ elim (cases_eq at.0 i) [
        | inl same ↦ omega (arith, ap (λ k. get_or ys k 0) same, at.2)
        | inr other ↦ let later : i < at.0 = omega (arith, not_before, other) in omega (arith, ry i at.0 later at.1, at.2)
      ]
    ]

module _ (xs ys : List ℕ) (rx : IsRising xs) (ry : IsRising ys) (same : (n : ℕ) → Contains xs n ↔ Contains ys n) where
  agree : (i : ℕ) → i ≤ length xs → i ≤ length ys → AgreeBelow xs ys i
  agree zero p q j h = absurd (omega (arith, h))
  agree (suc i) p q j h =
      let before : AgreeBelow xs ys i = agree i (omega (arith, p)) (omega (arith, q)) in
      elim (cases_eq j i) [
        | inl e ↦
            let one = not_above xs ys i rx ry (λ n. (same n).0) before (omega (arith, p)) in
            let two = not_above ys xs i ry rx (λ n. (same n).1) (λ k less. sym (before k less)) (omega (arith, q)) in
            let here : get_or xs i 0 ≡ get_or ys i 0 = omega (arith, one, two) in
            ap (λ k. get_or xs k 0) e ∙ (here ∙ ap (λ k. get_or ys k 0) (sym e))
        | inr ne ↦ before j (omega (arith, h, ne))
      ]

  pub not_longer : length ys < length xs → ⊥
  not_longer longer =
      let i = length ys in
      let at = place_of_number ys (get_or xs i 0) ((same (get_or xs i 0)).0 (stands xs i longer)) in
      let both = agree i (omega (arith, longer)) (omega arith) at.0 at.1 in
      omega (arith, both, at.2, rx at.0 i at.1 longer)

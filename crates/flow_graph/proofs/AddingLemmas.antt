-- Lists of which only their members matter, as they grow.
use Rattle.std.specs.Prelude.{◌↔◌, ◌⊎◌, map, Result, Ok, Err, IfOk}
use Rattle.std.specs.List.{range_with_len}
use Rattle.std.proofs.Common.{inl, inr, ◌≡◌, ℕ, zero, suc, ◌+◌, ◌<◌, List, [], ◌∷◌, ◌++◌, length, get_or, Contains, refl, sym, ◌∙◌, ap, subst, arith}
use Rattle.std.proofs.lemmas.List.Elements.{Contains-append_left, Contains-append_right, Contains-append_cases, Contains-push, Contains-push_cases}
use Rattle.std.proofs.lemmas.List.FromFn.{map-range_with_len_more}
use Rattle.jo_prog.proofs.WalkLemmas.{here, behind, head_or_behind, none_there}
use Rattle.dep_nodes.specs.GrowingGraphs.{AppendsNew}
use Rattle.flow_graph.specs.Adding.{AddsThose, HasThose}

pub ok_then : {T E : Type 0} (r : Result T E) (P Q : T → Type 0) → ((x : T) → P x → Q x) → IfOk r P → IfOk r Q
ok_then (Ok x) P Q to p = to x p
ok_then (Err e) P Q to p = tt

pub same_item : {A : Type 0} (xs : List A) (i : ℕ) (d : A) → i < length xs → get_or xs i d ≡ get_or xs i (get_or xs i d)
same_item [] i d below = absurd (omega (arith, below))
same_item (x ∷ xs) zero d below = refl
same_item (x ∷ xs) (suc i) d below = same_item xs i d (omega (arith, below))

module _ {A : Type 0} where
  pub nothing_there : HasThose (Contains {X = A} []) []
  nothing_there x = (λ c. c, λ c. c)

  pub adds_nothing : (xs : List A) → AddsThose (Contains []) xs xs
  adds_nothing xs x = (inl, back)
    where
      back : Contains xs x ⊎ Contains [] x → Contains xs x
      back (inl had) = had
      back (inr none) = absurd (none_there x none)

  pub adds_item : (old new : List A) (y : A) → AppendsNew old y new → AddsThose (Contains (y ∷ [])) old new
  adds_item old new y (inl same) x = (λ c. inl (subst (λ zs. Contains zs x) same.1 c), back)
    where
      back : Contains old x ⊎ Contains (y ∷ []) x → Contains new x
      back (inl had) = subst (λ zs. Contains zs x) (sym same.1) had
      back (inr one) = elim (head_or_behind y [] x one) [
        | inl e ↦ subst (λ zs. Contains zs x) (sym same.1) (subst (λ z. Contains old z) e same.0)
        | inr none ↦ absurd (none_there x none)
      ]
  adds_item old new y (inr pushed) x = (there, back)
    where
      there : Contains new x → Contains old x ⊎ Contains (y ∷ []) x
      there c = Contains-append_cases old (y ∷ []) x (subst (λ zs. Contains zs x) pushed.1 c)

      back : Contains old x ⊎ Contains (y ∷ []) x → Contains new x
      back (inl had) = subst (λ zs. Contains zs x) (sym pushed.1) (Contains-append_left old (y ∷ []) x had)
      back (inr one) = subst (λ zs. Contains zs x) (sym pushed.1) (Contains-append_right old (y ∷ []) x one)

  pub adds_both : (xs ys old mid new : List A) → AddsThose (Contains xs) old mid → AddsThose (Contains ys) mid new → AddsThose (Contains (xs ++ ys)) old new
  adds_both xs ys old mid new first second x = (λ c. there ((second x).0 c), back)
    where
      early : Contains old x ⊎ Contains xs x → Contains old x ⊎ Contains (xs ++ ys) x
      early (inl had) = inl had
      early (inr c) = inr (Contains-append_left xs ys x c)

      there : Contains mid x ⊎ Contains ys x → Contains old x ⊎ Contains (xs ++ ys) x
      there (inl c) = early ((first x).0 c)
      there (inr c) = inr (Contains-append_right xs ys x c)

      late : Contains xs x ⊎ Contains ys x → Contains new x
      late (inl c) = (second x).1 (inl ((first x).1 (inr c)))
      late (inr c) = (second x).1 (inr c)

      back : Contains old x ⊎ Contains (xs ++ ys) x → Contains new x
      back (inl had) = (second x).1 (inl ((first x).1 (inl had)))
      back (inr c) = late (Contains-append_cases xs ys x c)

  pub from_nothing : (P : A → Type 0) (xs : List A) → AddsThose P [] xs → HasThose P xs
  from_nothing P xs adds x = (λ c. there ((adds x).0 c), λ p. (adds x).1 (inr p))
    where
      there : Contains [] x ⊎ P x → P x
      there (inl none) = absurd (none_there x none)
      there (inr p) = p

  pub has_none : (P : A → Type 0) → ((x : A) → P x → ⊥) → HasThose P []
  has_none P none x = (λ c. absurd (none_there x c), λ p. absurd (none x p))

  pub has_alike : (P Q : A → Type 0) (xs : List A) → HasThose P xs → ((x : A) → P x ↔ Q x) → HasThose Q xs
  has_alike P Q xs has alike x = (λ c. (alike x).0 ((has x).0 c), λ q. (has x).1 ((alike x).1 q))

  pub only_item : (y x : A) → Contains (y ∷ []) x ↔ (x ≡ y)
  only_item y x = (λ c. there (head_or_behind y [] x c), λ e. subst (λ z. Contains (y ∷ []) z) (sym e) (here y []))
    where
      there : (y ≡ x) ⊎ Contains [] x → x ≡ y
      there (inl e) = sym e
      there (inr none) = absurd (none_there x none)

-- ---- what a function makes of neighbouring numbers

module _ {A : Type 0} (f : ℕ → A) where
  pub adds_number : (from count : ℕ) (old mid new : List A) (item : A) → item ≡ f (from + count) → AddsThose (Contains (map f (range_with_len from count))) old mid → AppendsNew mid item new
      → AddsThose (Contains (map f (range_with_len from (count + 1)))) old new
  adds_number from count old mid new item is before appends =
      subst (λ xs. AddsThose (Contains xs) old new) (sym (map-range_with_len_more f from count (from + count) refl))
      (adds_both (map f (range_with_len from count)) (f (from + count) ∷ []) old mid new before (subst (λ y. AddsThose (Contains (y ∷ [])) mid new) is (adds_item mid new item appends)))

  pub in_numbers : (from count : ℕ) (x : A) → Contains (map f (range_with_len from count)) x → (i : ℕ) × (i < count) × (x ≡ f (from + i))
  in_numbers from zero x c = absurd (none_there x c)
  in_numbers from (suc count) x c = elim (head_or_behind (f from) (map f (range_with_len (from + 1) count)) x c) [
    | inl e ↦ (0, omega arith, sym e ∙ ap f (omega arith))
    | inr more ↦ let at = in_numbers (from + 1) count x more in (at.0 + 1, (let b = at.1 in omega arith), at.2 ∙ ap f (omega arith))
  ]

  pub to_numbers : (from count i : ℕ) → i < count → Contains (map f (range_with_len from count)) (f (from + i))
  to_numbers from zero i below = absurd (omega (arith, below))
  to_numbers from (suc count) zero below = subst (λ k. Contains (map f (range_with_len from (suc count))) (f k)) (omega arith) (here (f from) (map f (range_with_len (from + 1) count)))
  to_numbers from (suc count) (suc i) below =
      subst (λ k. Contains (map f (range_with_len from (suc count))) (f k)) (omega arith)
      (behind (f from) (map f (range_with_len (from + 1) count)) (f (from + 1 + i)) (to_numbers (from + 1) count i (omega (arith, below))))

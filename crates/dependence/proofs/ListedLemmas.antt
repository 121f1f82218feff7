-- Lists of exactly what there is, as they grow.
use Rattle.std.proofs.Common.{◌≡◌, ◌⊎◌, inl, inr, ◌↔◌, ℕ, ◌+◌, ◌<◌, List, [], ◌∷◌, ◌++◌, length, get_or, take, Contains, refl, sym, ap, ◌∙◌, subst, arith}
use Rattle.std.proofs.lemmas.List.{take_more, length-take-le, get_or-take}
use Rattle.std.proofs.lemmas.List.Elements.{Contains-append_left, Contains-push, Contains-push_cases}
use Rattle.std.proofs.lemmas.Option.{slice_get_read}
use Rattle.dep_nodes.specs.OnceLists.{IsOnceEach}
use Rattle.dep_nodes.proofs.OnceLemmas.{once_push}
use Rattle.dependence.specs.Listed.{ListsExactly, AddsExactly}

module _ {A : Type 0} where
  pub adds_none : (P : A → Type 0) (xs : List A) → ((x : A) → P x → ⊥) → AddsExactly P xs xs
  adds_none P xs none = record { each = λ x. (inl, back x); once = λ once apart. once }
    where
      back : (x : A) → Contains xs x ⊎ P x → Contains xs x
      back x (inl among) = among
      back x (inr p) = absurd (none x p)

  pub adds_alike : (P Q : A → Type 0) (xs ys : List A) → AddsExactly P xs ys → ((x : A) → Q x ↔ P x) → AddsExactly Q xs ys
  adds_alike P Q xs ys adds alike = record { each = λ x. (λ among. there x ((adds.each x).0 among), back x); once = λ once apart. adds.once once (λ x among p. apart x among ((alike x).1 p)) }
    where
      there : (x : A) → Contains xs x ⊎ P x → Contains xs x ⊎ Q x
      there x (inl among) = inl among
      there x (inr p) = inr ((alike x).1 p)

      back : (x : A) → Contains xs x ⊎ Q x → Contains ys x
      back x (inl among) = (adds.each x).1 (inl among)
      back x (inr q) = (adds.each x).1 (inr ((alike x).0 q))

  -- one thing at the end
  pub adds_one : (xs ys : List A) (y : A) → ys ≡ xs ++ y ∷ [] → AddsExactly (λ x. x ≡ y) xs ys
  adds_one xs ys y made = subst (AddsExactly (λ x. x ≡ y) xs) (sym made) (record { each = λ x. (there x, back x); once = λ once apart. once_push xs y once (λ among. apart y among refl) })
    where
      there : (x : A) → Contains (xs ++ y ∷ []) x → Contains xs x ⊎ (x ≡ y)
      there x among = elim (Contains-push_cases xs y x among) [
        | inl before ↦ inl before
        | inr last ↦ inr (sym last)
      ]

      back : (x : A) → Contains xs x ⊎ (x ≡ y) → Contains (xs ++ y ∷ []) x
      back x (inl before) = Contains-append_left xs (y ∷ []) x before
      back x (inr last) = subst (λ z. Contains (xs ++ y ∷ []) z) (sym last) (Contains-push xs y)

  -- one step, then another that adds other things
  pub adds_more : (P Q R : A → Type 0) (xs ys zs : List A) → AddsExactly P xs ys → AddsExactly Q ys zs → ((x : A) → P x → Q x → ⊥) → ((x : A) → R x ↔ (P x ⊎ Q x)) → AddsExactly R xs zs
  adds_more P Q R xs ys zs first second apart sum = record { each = λ x. (λ among. there x ((second.each x).0 among), back x); once = λ once none. second.once (first.once once (λ x among p. none x among ((sum x).1 (inl p)))) (λ x among q. other none x q ((first.each x).0 among)) }
    where
      early : (x : A) → Contains xs x ⊎ P x → Contains xs x ⊎ R x
      early x (inl among) = inl among
      early x (inr p) = inr ((sum x).1 (inl p))

      there : (x : A) → Contains ys x ⊎ Q x → Contains xs x ⊎ R x
      there x (inl among) = early x ((first.each x).0 among)
      there x (inr q) = inr ((sum x).1 (inr q))

      late : (x : A) → P x ⊎ Q x → Contains zs x
      late x (inl p) = (second.each x).1 (inl ((first.each x).1 (inr p)))
      late x (inr q) = (second.each x).1 (inr q)

      back : (x : A) → Contains xs x ⊎ R x → Contains zs x
      back x (inl among) = (second.each x).1 (inl ((first.each x).1 (inl among)))
      back x (inr r) = late x ((sum x).0 r)

      other : ((x : A) → Contains xs x → R x → ⊥) → (x : A) → Q x → Contains xs x ⊎ P x → ⊥
      other none x q (inl among) = none x among ((sum x).1 (inr q))
      other none x q (inr p) = apart x p q

  -- from no list
  pub lists_exactly : (P : A → Type 0) (xs : List A) → AddsExactly P [] xs → ListsExactly P xs
  lists_exactly P xs adds = record { each = λ x. (λ among. there x ((adds.each x).0 among), λ p. (adds.each x).1 (inr p)); once = adds.once (λ i j x at_i at_j. absurd (cc)) (λ x among. absurd (omega (arith, among.1))) }
    where
      there : (x : A) → Contains {X = A} [] x ⊎ P x → P x
      there x (inl among) = absurd (omega (arith, among.1))
      there x (inr p) = p

  -- ---- items of which each stands once

  pub taken_more : (xs : List A) (i : ℕ) (y x : A) → i < length xs → y ≡ get_or xs i y → Contains (take (i + 1) xs) x ↔ (Contains (take i xs) x ⊎ (x ≡ y))
  taken_more xs i y x below is = subst (λ zs. Contains zs x ↔ (Contains (take i xs) x ⊎ (x ≡ y))) (sym (take_more xs i y below ∙ ap (λ z. take i xs ++ z ∷ []) (sym is))) ((adds_one (take i xs) (take i xs ++ y ∷ []) y refl).each x)

  pub taken_once : (xs : List A) (i : ℕ) (y : A) → IsOnceEach xs → i < length xs → y ≡ get_or xs i y → Contains (take i xs) y → ⊥
  taken_once xs i y once below is (k, before, at) =
      let count : length (take i xs) ≡ i = length-take-le i xs (omega (arith, below)) in
      let earlier : k < i = omega (arith, before, count) in
      let there : y ≡ get_or xs k y = sym at ∙ get_or-take i xs k y earlier in
      let same : k ≡ i = once k i y (slice_get_read xs (length xs) k y refl (omega (arith, earlier, below)) there) (slice_get_read xs (length xs) i y refl below is) in
      omega (arith, same, earlier)

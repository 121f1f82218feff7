-- Steps that add to a set, one after the other.
use Rattle.std.proofs.Common.{◌≡◌, ◌↔◌, ◌⊎◌, ℕ, ◌+◌, ◌-◌, ◌<◌, ◌≤◌, List, [], ◌∷◌, ◌++◌, length, get_or, take, Contains, sym, subst, inl, inr, arith}
use Rattle.std.proofs.lemmas.Bool.{cases_eq}
use Rattle.std.proofs.lemmas.List.{take_more, take_all}
use Rattle.std.proofs.lemmas.List.Elements.{Contains-append_left, Contains-push, Contains-push_cases}
use Rattle.fact_rules.specs.Adds.{Adds, From, FromBelow}

pub from_none : {A X : Type 0} (makes : A → X → Type 0) (x : X) → From [] makes x → ⊥
from_none makes x (a, (k, below, is), made) = omega (arith, below)

pub from_more : {A X : Type 0} (items : List A) (a : A) (makes : A → X → Type 0) (x : X) → From (items ++ a ∷ []) makes x ↔ (From items makes x ⊎ makes a x)
from_more {A} {X} items a makes x = (there, back)
  where
    there : From (items ++ a ∷ []) makes x → From items makes x ⊎ makes a x
    there (b, among, made) = elim (Contains-push_cases items a b among) [
      | inl before ↦ inl (b, before, made)
      | inr last ↦ inr (subst (λ c. makes c x) (sym last) made)
    ]

    back : From items makes x ⊎ makes a x → From (items ++ a ∷ []) makes x
    back (inl (b, among, made)) = (b, Contains-append_left items (a ∷ []) b among, made)
    back (inr made) = (a, Contains-push items a, made)

pub below_more : {X : Type 0} (n : ℕ) (makes : ℕ → X → Type 0) (x : X) → FromBelow (n + 1) makes x ↔ (FromBelow n makes x ⊎ makes n x)
below_more {X} n makes x = (there, back)
  where
    there : FromBelow (n + 1) makes x → FromBelow n makes x ⊎ makes n x
    there (k, below, made) = elim (cases_eq k n) [
      | inl same ↦ inr (subst (λ m. makes m x) same made)
      | inr other ↦ inl (k, omega (arith, below, other), made)
    ]

    back : FromBelow n makes x ⊎ makes n x → FromBelow (n + 1) makes x
    back (inl (k, below, made)) = (k, omega (arith, below), made)
    back (inr made) = (n, omega arith, made)

-- the same numbers from the end
pub below_turned : {X : Type 0} (n : ℕ) (makes : ℕ → X → Type 0) (x : X) → FromBelow n (λ k. makes (n - 1 - k)) x ↔ FromBelow n makes x
below_turned {X} n makes x = (there, back)
  where
    there : FromBelow n (λ k. makes (n - 1 - k)) x → FromBelow n makes x
    there (k, below, made) = (n - 1 - k, omega (arith, below), made)

    back : FromBelow n makes x → FromBelow n (λ k. makes (n - 1 - k)) x
    back (k, below, made) =
        let e : k ≡ n - 1 - (n - 1 - k) = omega (arith, below) in
        (n - 1 - k, omega (arith, below), subst (λ m. makes m x) e made)

module _ {X : Type 0} where
  pub adds_none : (S P : X → Type 0) → ((x : X) → P x → ⊥) → Adds S S P
  adds_none S P none x = (λ s. inl s, back)
    where
      back : S x ⊎ P x → S x
      back (inl s) = s
      back (inr p) = absurd (none x p)

  pub adds_alike : (S T P Q : X → Type 0) → Adds S T P → ((x : X) → P x ↔ Q x) → Adds S T Q
  adds_alike S T P Q adds alike x = (λ t. there ((adds x).0 t), back)
    where
      there : S x ⊎ P x → S x ⊎ Q x
      there (inl s) = inl s
      there (inr p) = inr ((alike x).0 p)

      back : S x ⊎ Q x → T x
      back (inl s) = (adds x).1 (inl s)
      back (inr q) = (adds x).1 (inr ((alike x).1 q))

  pub adds_more : (S T U P Q R : X → Type 0) → Adds S T P → Adds T U Q → ((x : X) → R x ↔ (P x ⊎ Q x)) → Adds S U R
  adds_more S T U P Q R first second sum x = (λ u. there ((second x).0 u), back)
    where
      early : S x ⊎ P x → S x ⊎ R x
      early (inl s) = inl s
      early (inr p) = inr ((sum x).1 (inl p))

      there : T x ⊎ Q x → S x ⊎ R x
      there (inl t) = early ((first x).0 t)
      there (inr q) = inr ((sum x).1 (inr q))

      late : P x ⊎ Q x → U x
      late (inl p) = (second x).1 (inl ((first x).1 (inr p)))
      late (inr q) = (second x).1 (inr q)

      back : S x ⊎ R x → U x
      back (inl s) = (second x).1 (inl ((first x).1 (inl s)))
      back (inr r) = late ((sum x).0 r)

  -- ---- over items

  module _ {A : Type 0} (xs : List A) (makes : A → X → Type 0) where
    pub over_none : (S : X → Type 0) → Adds S S (From [] makes)
    over_none S = adds_none S (From [] makes) (from_none makes)

    pub over_more : (S T U : X → Type 0) (i : ℕ) (d : A) → i < length xs → Adds S T (From (take i xs) makes) → Adds T U (makes (get_or xs i d)) → Adds S U (From (take (i + 1) xs) makes)
    over_more S T U i d below first second =
        subst (λ items. Adds S U (From items makes)) (sym (take_more xs i d below))
        (adds_more S T U (From (take i xs) makes) (makes (get_or xs i d)) (From (take i xs ++ get_or xs i d ∷ []) makes) first second (from_more (take i xs) (get_or xs i d) makes))

    pub over_item : (S T U : X → Type 0) (i : ℕ) (x : A) → i < length xs → x ≡ get_or xs i x → Adds S T (From (take i xs) makes) → Adds T U (makes x) → Adds S U (From (take (i + 1) xs) makes)
    over_item S T U i x below is first second = over_more S T U i x below first (subst (λ a. Adds T U (makes a)) is second)

    pub over_all : (S T : X → Type 0) (i : ℕ) → length xs ≤ i → Adds S T (From (take i xs) makes) → Adds S T (From xs makes)
    over_all S T i past adds = subst (λ items. Adds S T (From items makes)) (take_all i xs past) adds

  -- ---- over numbers

  pub below_none : (S : X → Type 0) (makes : ℕ → X → Type 0) → Adds S S (FromBelow 0 makes)
  below_none S makes = adds_none S (FromBelow 0 makes) none
    where
      none : (x : X) → FromBelow 0 makes x → ⊥
      none x (n, below, made) = omega (arith, below)

  pub below_step : (S T U : X → Type 0) (n : ℕ) (makes : ℕ → X → Type 0) → Adds S T (FromBelow n makes) → Adds T U (makes n) → Adds S U (FromBelow (n + 1) makes)
  below_step S T U n makes first second = adds_more S T U (FromBelow n makes) (makes n) (FromBelow (n + 1) makes) first second (below_more n makes)

  -- ---- an item at the end

  pub adds_push : (xs : List X) (y : X) → Adds (Contains xs) (Contains (xs ++ y ∷ [])) (λ x. x ≡ y)
  adds_push xs y x = (there, back)
    where
      there : Contains (xs ++ y ∷ []) x → Contains xs x ⊎ (x ≡ y)
      there among = elim (Contains-push_cases xs y x among) [
        | inl before ↦ inl before
        | inr last ↦ inr (sym last)
      ]

      back : Contains xs x ⊎ (x ≡ y) → Contains (xs ++ y ∷ []) x
      back (inl before) = Contains-append_left xs (y ∷ []) x before
      back (inr last) = subst (λ z. Contains (xs ++ y ∷ []) z) (sym last) (Contains-push xs y)

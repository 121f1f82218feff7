-- Items of a list at places, where another comes to its end.
use Rattle.std.specs.Prelude.{IsSomeAnd}
use Rattle.std.proofs.Common.{◌≡◌, ◌⊎◌, inl, inr, ℕ, zero, suc, List, [], ◌∷◌, ◌++◌, length, Some, slice_get, refl, ap, sym}
use Rattle.std.proofs.lemmas.Option.{same_Some}

pub at_push : {A : Type 0} (xs : List A) (y : A) (k : ℕ) (z : A) → slice_get (xs ++ y ∷ []) k ≡ Some z → (slice_get xs k ≡ Some z) ⊎ ((k ≡ length xs) × (z ≡ y))
at_push [] y zero z is = inr (refl, sym (same_Some y z is))
at_push [] y (suc k) z is = absurd (cc)
at_push (x ∷ xs) y zero z is = inl is
at_push (x ∷ xs) y (suc k) z is = one_up (at_push xs y k z is)
  where
    one_up : {P Q : Type 0} {i j : ℕ} → P ⊎ ((i ≡ j) × Q) → P ⊎ ((suc i ≡ suc j) × Q)
    one_up (inl p) = inl p
    one_up (inr q) = inr (ap suc q.0, q.1)

pub at_left : {A : Type 0} (xs ys : List A) (k : ℕ) (z : A) → slice_get xs k ≡ Some z → slice_get (xs ++ ys) k ≡ Some z
at_left [] ys k z is = absurd (cc)
at_left (x ∷ xs) ys zero z is = is
at_left (x ∷ xs) ys (suc k) z is = at_left xs ys k z is

pub at_end : {A : Type 0} (xs : List A) (y : A) → slice_get (xs ++ y ∷ []) (length xs) ≡ Some y
at_end [] y = refl
at_end (x ∷ xs) y = at_end xs y

pub some_push : {A : Type 0} (P : A → Type 0) (xs : List A) (k : ℕ) (y : A) → IsSomeAnd (slice_get (xs ++ y ∷ []) k) P → IsSomeAnd (slice_get xs k) P ⊎ ((k ≡ length xs) × P y)
some_push P [] zero y there = inr (refl, there)
some_push P [] (suc k) y there = absurd there
some_push P (x ∷ xs) zero y there = inl there
some_push P (x ∷ xs) (suc k) y there = one_up (some_push P xs k y there)
  where
    one_up : {Q R : Type 0} {i j : ℕ} → Q ⊎ ((i ≡ j) × R) → Q ⊎ ((suc i ≡ suc j) × R)
    one_up (inl p) = inl p
    one_up (inr q) = inr (ap suc q.0, q.1)

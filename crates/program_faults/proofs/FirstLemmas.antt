-- The first class with a fault, and items of lists that pass a test.
use Rattle.std.proofs.Common.{◌≡◌, ◌⊎◌, ℕ, ◌<◌, ◌≤◌, Bool, true, false, List, [], ◌∷◌, Option, Some, None, refl, sym, subst, arith, inl, inr}
use Rattle.std.specs.Prelude.{nat_lt, if◌then◌else◌}
use Rattle.std.specs.List.{Contains, list_any}
use Rattle.std.proofs.lemmas.Bool.{or_cases, or_left, or_right, ltb-true, ltb-false}
use Rattle.jo_prog.proofs.WalkLemmas.{here, behind, head_or_behind, none_there}
use Rattle.program_faults.specs.FirstFaults.{IsFirst, IsFirstIfAny}
use Rattle.program_faults.specs.SuperFaults.{earlier}

pub is_first : (P : ℕ → Type 0) (k : ℕ) → P k → ((j : ℕ) → j < k → P j → ⊥) → IsFirst P k
is_first P k at none = record { here = at; before = none }

-- all numbers below a count have been passed over, and P holds of no other
pub none_at_all : (P : ℕ → Type 0) (count k : ℕ) → count ≤ k → ((c : ℕ) → P c → c < count) → ((j : ℕ) → j < k → P j → ⊥) → (c : ℕ) → P c → ⊥
none_at_all P count k past inside none c holds = none c (let below = inside c holds in omega (arith, below, past)) holds

-- ---- one of two faults

module _ (P Q : ℕ → Type 0) where
  pub none_of_both : ((c : ℕ) → P c → ⊥) → ((c : ℕ) → Q c → ⊥) → (c : ℕ) → P c ⊎ Q c → ⊥
  none_of_both p q c (inl holds) = p c holds
  none_of_both p q c (inr holds) = q c holds

  pub first_of_second : (k : ℕ) → ((c : ℕ) → P c → ⊥) → IsFirst Q k → IsFirst (λ c. P c ⊎ Q c) k
  first_of_second k p first = record { here = inr first.here; before = λ j below. elim_either j below }
    where
      elim_either : (j : ℕ) → j < k → P j ⊎ Q j → ⊥
      elim_either j below (inl holds) = p j holds
      elim_either j below (inr holds) = first.before j below holds

  pub first_of_both : (a : ℕ) (o : Option ℕ) → P a → ((j : ℕ) → j < a → P j → ⊥) → IsFirstIfAny Q o → IsFirst (λ c. P c ⊎ Q c) (earlier a o)
  first_of_both a None at before q = record { here = inl at; before = λ j below. by_kind j below }
    where
      by_kind : (j : ℕ) → j < a → P j ⊎ Q j → ⊥
      by_kind j below (inl holds) = before j below holds
      by_kind j below (inr holds) = q j holds
  first_of_both a (Some b) at before q = by_test (nat_lt b a) refl
    where
      by_kind : (n : ℕ) → n ≤ a → n ≤ b → (j : ℕ) → j < n → P j ⊎ Q j → ⊥
      by_kind n to_a to_b j below (inl holds) = before j (omega (arith, below, to_a)) holds
      by_kind n to_a to_b j below (inr holds) = q.before j (omega (arith, below, to_b)) holds

      by_test : (t : Bool) → nat_lt b a ≡ t → IsFirst (λ c. P c ⊎ Q c) (if t then b else a)
      by_test true is = let below : b < a = ltb-true b a is in record { here = inr q.here; before = by_kind b (omega (arith, below)) (omega arith) }
      by_test false is = let above : a ≤ b = omega (arith, ltb-false b a is) in record { here = inl at; before = by_kind a (omega arith) above }

-- ---- items that pass a test

module _ {X : Type 0} (test : X → Bool) where
  pub some_item : (xs : List X) → list_any test xs ≡ true → (x : X) × Contains xs x × (test x ≡ true)
  some_item [] h = absurd (cc)
  some_item (x ∷ xs) h = elim (or_cases (test x) (list_any test xs) h) [
    | inl passes ↦ (x, here x xs, passes)
    | inr more ↦ let rest = some_item xs more in (rest.0, behind x xs rest.0 rest.1, rest.2)
  ]

  pub some_passes : (xs : List X) (x : X) → Contains xs x → test x ≡ true → list_any test xs ≡ true
  some_passes [] x among passes = absurd (none_there x among)
  some_passes (y ∷ ys) x among passes = elim (head_or_behind y ys x among) [
    | inl same ↦ or_left (test y) _ (subst (λ z. test z ≡ true) (sym same) passes)
    | inr more ↦ or_right (test y) _ (some_passes ys x more passes)
  ]

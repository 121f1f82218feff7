-- The facts of a place by its slot.
use Rattle.std.proofs.Common.{◌≡◌, ◌⊎◌, ℕ, zero, suc, ◌<◌, List, [], ◌∷◌, ◌++◌, length, get_or, set, Contains, Some, slice_get, refl, sym, ◌∙◌, ap, subst, inl, inr, arith}
use Rattle.std.proofs.lemmas.Bool.{cases_eq}
use Rattle.std.proofs.lemmas.List.{get_or-set_other, length-set}
use Rattle.std.proofs.lemmas.Grind.{get_or-set_at}
use Rattle.std.proofs.lemmas.List.Elements.{Contains-append_left, Contains-push}
use Rattle.jvm_typing.specs.declared.facts.Fact.{Fact}
use Rattle.jvm_typing.specs.Slots.{slot_of, numbers_in, AreListed, ListsPlace}

at_push : {A : Type 0} (xs : List A) (x : A) (k : ℕ) (y : A) → slice_get (xs ++ x ∷ []) k ≡ Some y → (slice_get xs k ≡ Some y) ⊎ ((k ≡ length xs) × (y ≡ x))
at_push [] x zero y e = inr (refl, cc)
at_push [] x (suc k) y e = absurd (cc)
at_push (z ∷ xs) x zero y e = inl e
at_push (z ∷ xs) x (suc k) y e = elim (at_push xs x k y e) [
  | inl before ↦ inl before
  | inr last ↦ inr (ap suc last.0, last.1)
]

pub listed_none : (slots : List (List ℕ)) → 0 < length slots → AreListed [] slots
listed_none slots some = record { some = some; each = λ n fact found. absurd (cc) }

-- ---- a number is put into a slot

module _ (slots : List (List ℕ)) (slot number : ℕ) (below : slot < length slots) where
  abbrev put : List (List ℕ)
  put = set slots slot (get_or slots slot [] ++ number ∷ [])

  kept : (k n : ℕ) → Contains (get_or slots k []) n → Contains (get_or put k []) n
  kept k n among = elim (cases_eq k slot) [
    | inl same ↦
        subst (λ (l : List ℕ). Contains l n) (sym (get_or-set_at slots slot k (get_or slots slot [] ++ number ∷ []) [] same below))
        (Contains-append_left (get_or slots slot []) (number ∷ []) n (subst (λ (j : ℕ). Contains (get_or slots j []) n) same among))
    | inr other ↦ subst (λ (l : List ℕ). Contains l n) (sym (get_or-set_other slots slot k (get_or slots slot [] ++ number ∷ []) [] other)) among
  ]

  there : (k : ℕ) → k ≡ slot → Contains (get_or put k []) number
  there k same =
      subst (λ (l : List ℕ). Contains l number) (sym (get_or-set_at slots slot k (get_or slots slot [] ++ number ∷ []) [] same below)) (Contains-push (get_or slots slot []) number)

  same_length : length put ≡ length slots
  same_length = length-set slots slot (get_or slots slot [] ++ number ∷ [])

  pub still_listed : (facts : List Fact) → AreListed facts slots → AreListed facts put
  still_listed facts listed = record {
    some = (let e = same_length in let s = listed.some in omega arith);
    each = λ n fact found.
        subst (λ (len : ℕ). Contains (get_or put (slot_of len fact.pc fact.place) []) n) (sym same_length) (kept (slot_of (length slots) fact.pc fact.place) n (listed.each n fact found));
  }

  pub more_listed : (facts : List Fact) (fact : Fact) → slot ≡ slot_of (length slots) fact.pc fact.place → number ≡ length facts → AreListed facts slots → AreListed (facts ++ fact ∷ []) put
  more_listed facts fact at counted listed = record {
    some = (still_listed facts listed).some;
    each = λ n x found. elim (at_push facts fact n x found) [
      | inl before ↦ (still_listed facts listed).each n x before
      | inr last ↦
          subst (λ (m : ℕ). Contains (get_or put (slot_of (length put) x.pc x.place) []) m) (counted ∙ sym last.0)
          (there (slot_of (length put) x.pc x.place)
          (ap (λ (len : ℕ). slot_of len x.pc x.place) same_length ∙ ap (λ (f : Fact). slot_of (length slots) f.pc f.place) last.1 ∙ sym at))
    ];
  }

-- ---- the facts of a place

pub lists_place : (facts : List Fact) (slots : List (List ℕ)) (pc place : ℕ) → AreListed facts slots → ListsPlace facts pc place (numbers_in slots (slot_of (length slots) pc place))
lists_place facts slots pc place listed n fact found at_pc at_place =
    subst (λ (p : ℕ). Contains (numbers_in slots (slot_of (length slots) p place)) n) at_pc
    (subst (λ (q : ℕ). Contains (numbers_in slots (slot_of (length slots) fact.pc q)) n) at_place (listed.each n fact found))

-- The first place of each key in a list, by a map that grows.
use Rattle.std.proofs.Common.{◌≡◌, ◌↔◌, inl, inr, ℕ, zero, suc, ◌+◌, ◌<◌, Bool, true, false, cond, List, [], ◌∷◌, ◌++◌, length, get_or, Option, Some, None, slice_get, refl, sym, ◌∙◌, ap, subst, arith, length-append, unwrap_or}
use Rattle.std.proofs.lemmas.Bool.{cases_eq}
use Rattle.std.proofs.lemmas.Option.{slice_get_within}
use Rattle.std.proofs.lemmas.List.{get_or_append_left, get_or_push}

pub by_bool : (b : Bool) (P : Type 0) → (b ≡ true → P) → (b ≡ false → P) → P
by_bool true P t f = t refl
by_bool false P t f = f refl

pub by_option : {A : Type 0} (o : Option A) (P : Type 0) → (o ≡ None → P) → ((x : A) → o ≡ Some x → P) → P
by_option None P n s = n refl
by_option (Some x) P n s = s x refl

pub some_same : {A : Type 0} {a b : A} → Some a ≡ Some b → a ≡ b
some_same e = cc

pub record Found {A : Type 0} (xs : List A) (i : ℕ) : Type 0 where
  pub it : A
  pub is : slice_get xs i ≡ Some it

pub found_below : {A : Type 0} (xs : List A) (i : ℕ) → i < length xs → Found xs i
found_below [] i h = absurd (omega (arith, h))
found_below (x ∷ xs) zero h = record { it = x; is = refl }
found_below (x ∷ xs) (suc i) h = let more = found_below xs i (omega (arith, h)) in record { it = more.it; is = more.is }

-- the first i keys have their numbers, and the map tells them
pub record AreKnown {A : Type 0} (keys : List A) (known : A → Option ℕ) (firsts : List ℕ) (i : ℕ) : Type 0 where
  pub counted : length firsts ≡ i
  pub sound : (q : A) (v : ℕ) → known q ≡ Some v → (v < i) × (slice_get keys v ≡ Some q)
  pub complete : (k : ℕ) (q : A) → k < i → slice_get keys k ≡ Some q → known q ≡ Some (get_or firsts k 0)

pub known_none : {A : Type 0} (keys : List A) (known : A → Option ℕ) → ((q : A) → known q ≡ None) → AreKnown keys known [] 0
known_none keys known none = record {
  counted = refl;
  sound = λ q v e. let both : None ≡ Some v = sym (none q) ∙ e in absurd (cc);
  complete = λ k q h e. absurd (omega (arith, h));
}

module _ {A : Type 0} (same : A → A → Bool) (equal : (p q : A) → same p q ≡ true → p ≡ q) (reflexive : (p : A) → same p p ≡ true)
    (keys : List A) (known new : A → Option ℕ) (firsts : List ℕ) (i first : ℕ) (p : A) (at : slice_get keys i ≡ Some p)
    (is_first : unwrap_or (known p) i ≡ first) (each : (q : A) → new q ≡ cond (same p q) (Some first) (known q)) (so_far : AreKnown keys known firsts i) where
  first_place : (first < i + 1) × (slice_get keys first ≡ Some p)
  first_place = by_option (known p) ((first < i + 1) × (slice_get keys first ≡ Some p))
      (λ none.
      let e : i ≡ first = sym (ap (λ o. unwrap_or o i) none) ∙ is_first in
      (omega (arith, e), subst (λ k. slice_get keys k ≡ Some p) e at))
      (λ w some.
      let e : w ≡ first = sym (ap (λ o. unwrap_or o i) some) ∙ is_first in
      let was = so_far.sound p w some in
      (omega (arith, e, was.0), subst (λ k. slice_get keys k ≡ Some p) e was.1))

  new_sound : (q : A) (v : ℕ) → new q ≡ Some v → (v < i + 1) × (slice_get keys v ≡ Some q)
  new_sound q v e = by_bool (same p q) ((v < i + 1) × (slice_get keys v ≡ Some q))
      (λ yes.
      let here : Some first ≡ Some v = sym (ap (λ b. cond b (Some first) (known q)) yes) ∙ (sym (each q) ∙ e) in
      let is : first ≡ v = some_same here in
      subst (λ k. (k < i + 1) × (slice_get keys k ≡ Some q)) is (subst (λ r. (first < i + 1) × (slice_get keys first ≡ Some r)) (equal p q yes) first_place))
      (λ no.
      let was = so_far.sound q v (sym (ap (λ b. cond b (Some first) (known q)) no) ∙ (sym (each q) ∙ e)) in
      (omega (arith, was.0), was.1))

  new_complete : (k : ℕ) (q : A) → k < i + 1 → slice_get keys k ≡ Some q → new q ≡ Some (get_or (firsts ++ first ∷ []) k 0)
  new_complete k q below there = elim (cases_eq k i) [
    | inl e ↦
        let is : p ≡ q = some_same (sym at ∙ (ap (slice_get keys) (sym e) ∙ there)) in
        let yes : same p q ≡ true = subst (λ r. same p r ≡ true) is (reflexive p) in
        let last : get_or (firsts ++ first ∷ []) k 0 ≡ first = get_or_push firsts first 0 k (so_far.counted ∙ sym e) in
        each q ∙ (ap (λ b. cond b (Some first) (known q)) yes ∙ ap Some (sym last))
    | inr other ↦
        let less : k < i = omega (arith, below, other) in
        let was : known q ≡ Some (get_or firsts k 0) = so_far.complete k q less there in
        let kept : get_or (firsts ++ first ∷ []) k 0 ≡ get_or firsts k 0 = get_or_append_left firsts (first ∷ []) 0 k (omega (arith, less, so_far.counted)) in
        by_bool (same p q) (new q ≡ Some (get_or (firsts ++ first ∷ []) k 0))
        (λ yes.
        let was_p : known p ≡ Some (get_or firsts k 0) = subst (λ r. known r ≡ Some (get_or firsts k 0)) (sym (equal p q yes)) was in
        let e : get_or firsts k 0 ≡ first = sym (ap (λ o. unwrap_or o i) was_p) ∙ is_first in
        each q ∙ (ap (λ b. cond b (Some first) (known q)) yes ∙ ap Some (sym e ∙ sym kept)))
        (λ no. each q ∙ (ap (λ b. cond b (Some first) (known q)) no ∙ (was ∙ ap Some (sym kept))))
  ]

  pub known_step : AreKnown keys new (firsts ++ first ∷ []) (i + 1)
  known_step = record { counted = omega (arith, length-append firsts (first ∷ []), so_far.counted); sound = new_sound; complete = new_complete }

module _ {A : Type 0} (keys : List A) (known : A → Option ℕ) (firsts : List ℕ) (all : AreKnown keys known firsts (length keys)) where
  pub firsts_within : (i : ℕ) → i < length keys → get_or firsts i 0 < length keys
  firsts_within i h = let key = found_below keys i h in (all.sound key.it (get_or firsts i 0) (all.complete i key.it h key.is)).0

  pub firsts_same : (i j : ℕ) (a b : A) → slice_get keys i ≡ Some a → slice_get keys j ≡ Some b → (get_or firsts i 0 ≡ get_or firsts j 0) ↔ (a ≡ b)
  firsts_same i j a b at_i at_j = (there, back)
    where
      known_a : known a ≡ Some (get_or firsts i 0)
      known_a = all.complete i a (slice_get_within keys i a at_i) at_i

      known_b : known b ≡ Some (get_or firsts j 0)
      known_b = all.complete j b (slice_get_within keys j b at_j) at_j

      there : get_or firsts i 0 ≡ get_or firsts j 0 → a ≡ b
      there e = some_same (sym (all.sound a (get_or firsts i 0) known_a).1 ∙ (ap (slice_get keys) e ∙ (all.sound b (get_or firsts j 0) known_b).1))

      back : a ≡ b → get_or firsts i 0 ≡ get_or firsts j 0
      back e = some_same (sym known_a ∙ (ap known e ∙ known_b))

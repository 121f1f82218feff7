-- What agrees and what doesn't.
use Rattle.std.proofs.Common.{◌≡◌, ◌≢◌, ◌⊎◌, inl, inr, ℕ, ℤ, Bool, true, false, List, [], ◌∷◌, ◌++◌, refl, sym, ap, subst, ◌∙◌}
use Rattle.std.proofs.Math.IntN.{pos, negsuc}
use Rattle.std.proofs.lemmas.Bool.{cases_eq, cases_Bool, false≢true}
use Rattle.jo_prog.specs.declared.labels.Labels.{Labels}
use Rattle.jo_prog.specs.declared.runs.Event.{Event}
use Rattle.jo_prog.specs.declared.runs.Event.TheVariants.{Out, Release as Released}
use Rattle.jo_prog.specs.Labels.{label_of, lets_out, misses}
use Rattle.low_run.specs.Security.{Agree, DifferInRelease}

-- ---- decisions

cases_int : (x y : ℤ) → (x ≡ y) ⊎ (x ≡ y → ⊥)
cases_int (pos m) (pos n) = elim (cases_eq m n) [ inl same ↦ inl (ap (λ k. pos k) same) | inr other ↦ inr (λ e. other (pos_same m n e)) ]
  where
    pos_same : (a b : ℕ) → pos a ≡ pos b → a ≡ b
    pos_same a b e = cc
cases_int (pos m) (negsuc n) = inr (λ e. cc)
cases_int (negsuc m) (pos n) = inr (λ e. cc)
cases_int (negsuc m) (negsuc n) = elim (cases_eq m n) [ inl same ↦ inl (ap (λ k. negsuc k) same) | inr other ↦ inr (λ e. other (negsuc_same m n e)) ]
  where
    negsuc_same : (a b : ℕ) → negsuc a ≡ negsuc b → a ≡ b
    negsuc_same a b e = cc

out_same : (m n : ℕ) (v w : ℤ) → Out m v ≡ Out n w → (m ≡ n) × (v ≡ w)
out_same m n v w e = (cc, cc)

released_same : (m n : ℕ) (v w : ℤ) → Released m v ≡ Released n w → (m ≡ n) × (v ≡ w)
released_same m n v w e = (cc, cc)

cases_event : (x y : Event) → (x ≡ y) ⊎ (x ≡ y → ⊥)
cases_event (Out m v) (Out n w) = elim (cases_eq m n) [
  | inl same ↦ elim (cases_int v w) [ inl equal ↦ inl (ap (λ k. Out k v) same ∙ ap (λ z. Out n z) equal) | inr other ↦ inr (λ e. other (out_same m n v w e).1) ]
  | inr other ↦ inr (λ e. other (out_same m n v w e).0)
]
cases_event (Out m v) (Released n w) = inr (λ e. cc)
cases_event (Released m v) (Out n w) = inr (λ e. cc)
cases_event (Released m v) (Released n w) = elim (cases_eq m n) [
  | inl same ↦ elim (cases_int v w) [ inl equal ↦ inl (ap (λ k. Released k v) same ∙ ap (λ z. Released n z) equal) | inr other ↦ inr (λ e. other (released_same m n v w e).1) ]
  | inr other ↦ inr (λ e. other (released_same m n v w e).0)
]

module _ (labels : Labels) (observer : ℕ) where
  cases_differ : (x y : Event) → DifferInRelease labels observer x y ⊎ (DifferInRelease labels observer x y → ⊥)
  cases_differ (Out m v) y = inr (λ d. d)
  cases_differ (Released m v) (Out n w) = inr (λ d. d)
  cases_differ (Released m v) (Released n w) =
      let hidden : Bool = misses labels observer (lets_out (label_of labels m)) in
      elim (cases_eq m n) [
        | inr other ↦ inr (λ d. other d.0)
        | inl same ↦ elim (cases_int v w) [
          | inl equal ↦ inr (λ d. d.1 equal)
          | inr unequal ↦ elim (cases_Bool hidden) [ inl missed ↦ inl (same, unequal, missed) | inr seen ↦ inr (λ d. false≢true (sym seen ∙ d.2)) ]
        ]
      ]

  cases_ended : (ended other_ended : Bool) → (ended ≡ true → other_ended ≡ true → ⊥) ⊎ ((ended ≡ true → other_ended ≡ true → ⊥) → ⊥)
  cases_ended false other_ended = inl (λ is other. false≢true is)
  cases_ended true false = inl (λ is other. false≢true other)
  cases_ended true true = inr (λ no. no refl refl)

  pub agree_decidable : (xs ys : List Event) (ended other_ended : Bool) → Agree labels observer xs ended ys other_ended ⊎ (Agree labels observer xs ended ys other_ended → ⊥)
  agree_decidable [] [] ended other_ended = inl tt
  agree_decidable [] (y ∷ ys) ended other_ended = cases_ended ended other_ended
  agree_decidable (x ∷ xs) [] ended other_ended = cases_ended ended other_ended
  agree_decidable (x ∷ xs) (y ∷ ys) ended other_ended = elim (cases_differ x y) [
    | inl differ ↦ inl (inr differ)
    | inr none ↦ elim (cases_event x y) [
      | inr other ↦ inr (λ agree. elim agree [ inl heads ↦ other heads.0 | inr differ ↦ none differ ])
      | inl same ↦ elim (agree_decidable xs ys ended other_ended) [
        | inl rests ↦ inl (inl (same, rests))
        | inr apart ↦ inr (λ agree. elim agree [ inl heads ↦ apart heads.1 | inr differ ↦ none differ ])
      ]
    ]
  ]

  differ_symmetric : (x y : Event) → DifferInRelease labels observer x y → DifferInRelease labels observer y x
  differ_symmetric (Out m v) y d = absurd d
  differ_symmetric (Released m v) (Out n w) d = absurd d
  differ_symmetric (Released m v) (Released n w) d = (sym d.0, (λ e. d.1 (sym e)), subst (λ k. misses labels observer (lets_out (label_of labels k)) ≡ true) d.0 d.2)

  pub agree_symmetric : (xs ys : List Event) (ended other_ended : Bool) → Agree labels observer xs ended ys other_ended → Agree labels observer ys other_ended xs ended
  agree_symmetric [] [] ended other_ended agree = tt
  agree_symmetric [] (y ∷ ys) ended other_ended agree = λ other is. agree is other
  agree_symmetric (x ∷ xs) [] ended other_ended agree = λ other is. agree is other
  agree_symmetric (x ∷ xs) (y ∷ ys) ended other_ended agree = elim agree [
    | inl heads ↦ inl (sym heads.0, agree_symmetric xs ys ended other_ended heads.1)
    | inr differ ↦ inr (differ_symmetric x y differ)
  ]

  no_self_difference : (x : Event) → DifferInRelease labels observer x x → ⊥
  no_self_difference (Out m v) d = d
  no_self_difference (Released m v) d = d.1 refl

  -- an unended run may still show the rest
  pub prefix_agrees : (xs ys : List Event) (ended : Bool) → Agree labels observer xs false (xs ++ ys) ended
  prefix_agrees [] [] ended = tt
  prefix_agrees [] (y ∷ ys) ended = λ is other. false≢true is
  prefix_agrees (x ∷ xs) ys ended = inl (refl, prefix_agrees xs ys ended)

  -- an ended run shows no more
  pub longer_disagrees : (xs ys : List Event) (y : Event) → Agree labels observer xs true (xs ++ y ∷ ys) true → ⊥
  longer_disagrees [] ys y agree = agree refl refl
  longer_disagrees (x ∷ xs) ys y agree = elim agree [ inl heads ↦ longer_disagrees xs ys y heads.1 | inr differ ↦ no_self_difference x differ ]

  -- a sink shows the same in both
  pub other_out_disagrees : (xs ys zs : List Event) (sink : ℕ) (value : ℤ) (other : Event) (ended other_ended : Bool) → Out sink value ≢ other → Agree labels observer (xs ++ Out sink value ∷ ys) ended (xs ++ other ∷ zs) other_ended → ⊥
  other_out_disagrees [] ys zs sink value other ended other_ended unequal agree = elim agree [ inl heads ↦ unequal heads.0 | inr differ ↦ differ ]
  other_out_disagrees (x ∷ xs) ys zs sink value other ended other_ended unequal agree =
      elim agree [ inl heads ↦ other_out_disagrees xs ys zs sink value other ended other_ended unequal heads.1 | inr differ ↦ no_self_difference x differ ]

-- The order of paths.
use Rattle.std.proofs.Common.{◌≡◌, ◌⊎◌, ℕ, suc, ◌<◌, Bool, List, [], ◌∷◌, length, sym, ◌∙◌, ap, subst, inl, inr, arith}
use Rattle.std.proofs.lemmas.List.{length-map}
use Rattle.jo_prog.specs.TypingPaths.{Step, IsLess, IsPlainAlone, IsBefore, shorter, by_pcs, by_rows, pcs_of, handlers_of, to_handler}

pub less_along : {A : Type 0} (Less : A → A → Type 0) → ((x y z : A) → Less x y → Less y z → Less x z) → (xs ys zs : List A) → IsLess Less xs ys → IsLess Less ys zs → IsLess Less xs zs
less_along {A = A} Less along [] ys zs h k = absurd h
less_along {A = A} Less along (x ∷ xs) [] zs h k = absurd h
less_along {A = A} Less along (x ∷ xs) (y ∷ ys) [] h k = absurd k
less_along {A = A} Less along (x ∷ xs) (y ∷ ys) (z ∷ zs) (inl h) (inl k) = inl (less_along Less along xs ys zs h k)
less_along {A = A} Less along (x ∷ xs) (y ∷ ys) (z ∷ zs) (inl h) (inr k) = inl (subst (λ (l : List A). IsLess Less xs l) k.0 h)
less_along {A = A} Less along (x ∷ xs) (y ∷ ys) (z ∷ zs) (inr h) (inl k) = inl (subst (λ (l : List A). IsLess Less l zs) (sym h.0) k)
less_along {A = A} Less along (x ∷ xs) (y ∷ ys) (z ∷ zs) (inr h) (inr k) = inr (h.0 ∙ k.0, along x y z h.1 k.1)

pub less_than_none : {A : Type 0} (Less : A → A → Type 0) → ((x : A) → Less x x → ⊥) → (xs : List A) → IsLess Less xs xs → ⊥
less_than_none Less never [] h = h
less_than_none Less never (x ∷ xs) (inl h) = less_than_none Less never xs h
less_than_none Less never (x ∷ xs) (inr h) = never x h.1

plain_along : (x y z : Bool) → IsPlainAlone x y → IsPlainAlone y z → IsPlainAlone x z
plain_along x y z h k = (h.0, k.1)

plain_never : (x : Bool) → IsPlainAlone x x → ⊥
plain_never x h = absurd (cc)

pcs_along : (x y z : ℕ) → x < y → y < z → x < z
pcs_along x y z h k = omega arith

pcs_never : (x : ℕ) → x < x → ⊥
pcs_never x h = omega arith

-- the two have the same length where they have the same pcs
pub same_length : (p q : List Step) → pcs_of p ≡ pcs_of q → length p ≡ length q
same_length p q e = sym (length-map p _) ∙ ap length e ∙ length-map q _

-- the one is before the other by its length or its pcs
pub data IsStrictlyBefore (p q : List Step) : Type 0 where
  by_length : length p < length q → IsStrictlyBefore p q
  by_less : length p ≡ length q → IsLess ◌<◌ (pcs_of p) (pcs_of q) → IsStrictlyBefore p q

-- it goes to the same pcs, and the other isn't before it
pub record SamePcs (p q : List Step) : Type 0 where
  pub pcs : pcs_of p ≡ pcs_of q
  pub rows : IsLess IsPlainAlone (handlers_of p) (handlers_of q) ⊎ (handlers_of p ≡ handlers_of q)

-- the other isn't before it
abbrev pub IsNotAfter : List Step → List Step → Type 0
IsNotAfter p q = IsStrictlyBefore p q ⊎ SamePcs p q

pub strictly_along : (p q r : List Step) → IsStrictlyBefore p q → IsStrictlyBefore q r → IsStrictlyBefore p r
strictly_along p q r (by_length h) (by_length k) = by_length (omega arith)
strictly_along p q r (by_length h) (by_less e k) = by_length (omega arith)
strictly_along p q r (by_less e h) (by_length k) = by_length (omega arith)
strictly_along p q r (by_less e h) (by_less f k) = by_less (e ∙ f) (less_along ◌<◌ pcs_along (pcs_of p) (pcs_of q) (pcs_of r) h k)

pub strictly_same : (p q r : List Step) → IsStrictlyBefore p q → SamePcs q r → IsStrictlyBefore p r
strictly_same p q r (by_length h) k = let e = same_length q r k.pcs in by_length (omega arith)
strictly_same p q r (by_less e h) k = by_less (e ∙ same_length q r k.pcs) (subst (λ (l : List ℕ). IsLess ◌<◌ (pcs_of p) l) k.pcs h)

pub strictly_not_after : (p q r : List Step) → IsStrictlyBefore p q → IsNotAfter q r → IsStrictlyBefore p r
strictly_not_after p q r h (inl k) = strictly_along p q r h k
strictly_not_after p q r h (inr k) = strictly_same p q r h k

same_strictly : (p q r : List Step) → SamePcs p q → IsStrictlyBefore q r → IsStrictlyBefore p r
same_strictly p q r h (by_length k) = let e = same_length p q h.pcs in by_length (omega arith)
same_strictly p q r h (by_less e k) = by_less (same_length p q h.pcs ∙ e) (subst (λ (l : List ℕ). IsLess ◌<◌ l (pcs_of r)) (sym h.pcs) k)

rows_along : (p q r : List Bool) → IsLess IsPlainAlone p q ⊎ (p ≡ q) → IsLess IsPlainAlone q r ⊎ (q ≡ r) → IsLess IsPlainAlone p r ⊎ (p ≡ r)
rows_along p q r (inl h) (inl k) = inl (less_along IsPlainAlone plain_along p q r h k)
rows_along p q r (inl h) (inr k) = inl (subst (λ (l : List Bool). IsLess IsPlainAlone p l) k h)
rows_along p q r (inr h) (inl k) = inl (subst (λ (l : List Bool). IsLess IsPlainAlone l r) (sym h) k)
rows_along p q r (inr h) (inr k) = inr (h ∙ k)

same_along : (p q r : List Step) → SamePcs p q → SamePcs q r → SamePcs p r
same_along p q r h k = record { pcs = h.pcs ∙ k.pcs; rows = rows_along (handlers_of p) (handlers_of q) (handlers_of r) h.rows k.rows }

pub not_after_along : (p q r : List Step) → IsNotAfter p q → IsNotAfter q r → IsNotAfter p r
not_after_along p q r (inl h) k = inl (strictly_not_after p q r h k)
not_after_along p q r (inr h) (inl k) = inl (same_strictly p q r h k)
not_after_along p q r (inr h) (inr k) = inr (same_along p q r h k)

-- ---- one step more

pub strictly_prolonged : (s t : Step) (p q : List Step) → IsStrictlyBefore p q → IsStrictlyBefore (s ∷ p) (t ∷ q)
strictly_prolonged s t p q (by_length h) = by_length (omega arith)
strictly_prolonged s t p q (by_less e h) = by_less (ap suc e) (inl h)

-- to the same pc, and to a handler only where the other does
pub same_prolonged : (s t : Step) (p q : List Step) → s.pc ≡ t.pc → IsPlainAlone (to_handler s) (to_handler t) ⊎ (to_handler s ≡ to_handler t) → SamePcs p q → SamePcs (s ∷ p) (t ∷ q)
same_prolonged s t p q e f h = record {
  pcs = ap (λ n. n ∷ pcs_of p) e ∙ ap (λ l. t.pc ∷ l) h.pcs;
  rows = more h.rows f;
}
  where
    more : IsLess IsPlainAlone (handlers_of p) (handlers_of q) ⊎ (handlers_of p ≡ handlers_of q) → IsPlainAlone (to_handler s) (to_handler t) ⊎ (to_handler s ≡ to_handler t)
        → IsLess IsPlainAlone (handlers_of (s ∷ p)) (handlers_of (t ∷ q)) ⊎ (handlers_of (s ∷ p) ≡ handlers_of (t ∷ q))
    more (inl k) g = inl (inl k)
    more (inr k) (inl g) = inl (inr (k, g))
    more (inr k) (inr g) = inr (ap (λ b. b ∷ handlers_of p) g ∙ ap (λ l. to_handler t ∷ l) k)

-- ---- against the order of the definition

pub not_before : (p q : List Step) → IsNotAfter p q → IsBefore q p → ⊥
not_before p q (inl (by_length h)) (shorter k) = omega arith
not_before p q (inl (by_length h)) (by_pcs e k) = omega arith
not_before p q (inl (by_length h)) (by_rows e k) = let f = same_length q p e in omega arith
not_before p q (inl (by_less e h)) (shorter k) = omega arith
not_before p q (inl (by_less e h)) (by_pcs f k) = less_than_none ◌<◌ pcs_never (pcs_of p) (less_along ◌<◌ pcs_along (pcs_of p) (pcs_of q) (pcs_of p) h k)
not_before p q (inl (by_less e h)) (by_rows f k) = less_than_none ◌<◌ pcs_never (pcs_of p) (subst (λ (l : List ℕ). IsLess ◌<◌ (pcs_of p) l) f h)
not_before p q (inr h) (shorter k) = let e = same_length p q h.pcs in omega arith
not_before p q (inr h) (by_pcs e k) = less_than_none ◌<◌ pcs_never (pcs_of p) (subst (λ (l : List ℕ). IsLess ◌<◌ l (pcs_of p)) (sym h.pcs) k)
not_before p q (inr h) (by_rows e k) = rows_never h.rows k
  where
    rows_never : IsLess IsPlainAlone (handlers_of p) (handlers_of q) ⊎ (handlers_of p ≡ handlers_of q) → IsLess IsPlainAlone (handlers_of q) (handlers_of p) → ⊥
    rows_never (inl g) k = less_than_none IsPlainAlone plain_never (handlers_of p) (less_along IsPlainAlone plain_along (handlers_of p) (handlers_of q) (handlers_of p) g k)
    rows_never (inr g) k = less_than_none IsPlainAlone plain_never (handlers_of p) (subst (λ (l : List Bool). IsLess IsPlainAlone l (handlers_of p)) (sym g) k)

pub strictly_is_before : (p q : List Step) → IsStrictlyBefore p q → IsBefore p q
strictly_is_before p q (by_length h) = shorter h
strictly_is_before p q (by_less e h) = by_pcs e h

-- where the one isn't after the other, and not before it either, they go the same way
pub record SameWay (p q : List Step) : Type 0 where
  pub pcs : pcs_of p ≡ pcs_of q
  pub handlers : handlers_of p ≡ handlers_of q

pub same_way : (p q : List Step) → IsNotAfter p q → (IsBefore p q → ⊥) → SameWay p q
same_way p q (inl h) never = absurd (never (strictly_is_before p q h))
same_way p q (inr h) never = by_kind h.rows
  where
    by_kind : IsLess IsPlainAlone (handlers_of p) (handlers_of q) ⊎ (handlers_of p ≡ handlers_of q) → SameWay p q
    by_kind (inl g) = absurd (never (by_rows h.pcs g))
    by_kind (inr g) = record { pcs = h.pcs; handlers = g }

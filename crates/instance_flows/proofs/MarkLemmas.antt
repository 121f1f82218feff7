-- Marking numbers in a set, one after another.
use Rattle.std.specs.Prelude.{◌↔◌}
use Rattle.std.proofs.Common.{inl, inr, ◌⊎◌, ◌≡◌, ℕ, zero, suc, ◌+◌, ◌<◌, Bool, true, false, List, [], length, get_or, set, take, replicate, Contains, refl, sym, ◌∙◌, ap, subst, arith}
use Rattle.std.proofs.lemmas.Bool.{cases_eq}
use Rattle.jo_ids.specs.Rows.{has_number}
use Rattle.jo_graph.proofs.QueueLemmas.{has_number-set_same, has_number-set, set_cases}
use Rattle.jo_prog.proofs.WalkLemmas.{none_there}
use Rattle.dependence.specs.declared.flows.Use.{Use}
use Rattle.dependence.proofs.ListedLemmas.{taken_more}

-- the new set has what the old one has, and the numbers of which this is true
abbrev pub Marks : List Bool → List Bool → (ℕ → Type 0) → Type 0
Marks old new P = (x : ℕ) → (has_number new x ≡ true) ↔ ((has_number old x ≡ true) ⊎ P x)

pub marks_none : (old : List Bool) (P : ℕ → Type 0) → ((x : ℕ) → P x → ⊥) → Marks old old P
marks_none old P none x = (λ had. inl had, back)
  where
    back : (has_number old x ≡ true) ⊎ P x → has_number old x ≡ true
    back (inl had) = had
    back (inr p) = absurd (none x p)

pub marks_set : (old new : List Bool) (n : ℕ) (marks : Bool) → n < length old → marks ≡ true → new ≡ set old n true → Marks old new (λ x. (x ≡ n) × (marks ≡ true))
marks_set old new n marks below sure made x = (λ has. there (set_cases old n x (subst (λ row. has_number row x ≡ true) made has)), λ was. subst (λ row. has_number row x ≡ true) (sym made) (back was))
  where
    there : (has_number old x ≡ true) ⊎ (n ≡ x) → (has_number old x ≡ true) ⊎ ((x ≡ n) × (marks ≡ true))
    there (inl had) = inl had
    there (inr same) = inr (sym same, sure)

    back : (has_number old x ≡ true) ⊎ ((x ≡ n) × (marks ≡ true)) → has_number (set old n true) x ≡ true
    back (inl had) = has_number-set old n x below had
    back (inr one) = ap (has_number (set old n true)) one.0 ∙ has_number-set_same old n below

-- ---- number by number

abbrev pub Below : ℕ → (ℕ → Type 0) → ℕ → Type 0
Below n P x = (x < n) × P x

pub below_none : (old : List Bool) (P : ℕ → Type 0) → Marks old old (Below 0 P)
below_none old P = marks_none old (Below 0 P) (λ x one. (let below = one.0 in omega (arith, below)))

pub below_more : (old before after : List Bool) (P : ℕ → Type 0) (n : ℕ) (marks : Bool) → (marks ≡ true) ↔ P n → Marks old before (Below n P) → Marks before after (λ x. (x ≡ n) × (marks ≡ true)) → Marks old after (Below (n + 1) P)
below_more old before after P n marks told so_far more x = (λ has. there ((more x).0 has), back)
  where
    there : (has_number before x ≡ true) ⊎ ((x ≡ n) × (marks ≡ true)) → (has_number old x ≡ true) ⊎ Below (n + 1) P x
    there (inl had) = elim ((so_far x).0 had) [
      | inl first ↦ inl first
      | inr (below, p) ↦ inr (omega (arith, below), p)
    ]
    there (inr (same, sure)) = inr (omega (arith, same), subst P (sym same) (told.0 sure))

    at_last : P x → (x ≡ n) ⊎ (x ≡ n → ⊥) → x < n + 1 → has_number after x ≡ true
    at_last p (inl same) below = (more x).1 (inr (same, told.1 (subst P same p)))
    at_last p (inr other) below = (more x).1 (inl ((so_far x).1 (inr (omega (arith, below, other), p))))

    back : (has_number old x ≡ true) ⊎ Below (n + 1) P x → has_number after x ≡ true
    back (inl had) = (more x).1 (inl ((so_far x).1 (inl had)))
    back (inr (below, p)) = at_last p (cases_eq x n) below

pub below_all : (old new : List Bool) (P : ℕ → Type 0) (n : ℕ) → ((x : ℕ) → P x → x < n) → Marks old new (Below n P) → Marks old new P
below_all old new P n inside so_far x = (λ has. there ((so_far x).0 has), back)
  where
    there : (has_number old x ≡ true) ⊎ Below n P x → (has_number old x ≡ true) ⊎ P x
    there (inl had) = inl had
    there (inr one) = inr one.1

    back : (has_number old x ≡ true) ⊎ P x → has_number new x ≡ true
    back (inl had) = (so_far x).1 (inl had)
    back (inr p) = (so_far x).1 (inr (inside x p, p))

-- ---- use by use

module _ (A : ℕ → Type 0) (R : Use → Type 0) where
  -- the set has the numbers of the first kind, and the nodes of those of the uses of which this is true
  abbrev pub UsesMarked : List Use → List Bool → Type 0
  UsesMarked uses now = (x : ℕ) → (has_number now x ≡ true) ↔ (A x ⊎ ((u : Use) × Contains uses u × (u.node ≡ x) × R u))

  none_had : (n x : ℕ) → has_number (replicate n false) x ≡ true → ⊥
  none_had zero x had = absurd (cc)
  none_had (suc n) zero had = absurd (cc)
  none_had (suc n) (suc x) had = none_had n x had

  pub uses_none : (n : ℕ) (now : List Bool) → Marks (replicate n false) now A → UsesMarked [] now
  uses_none n now marks x = (λ has. there ((marks x).0 has), back)
    where
      there : (has_number (replicate n false) x ≡ true) ⊎ A x → A x ⊎ ((u : Use) × Contains [] u × (u.node ≡ x) × R u)
      there (inl had) = absurd (none_had n x had)
      there (inr a) = inl a

      back : A x ⊎ ((u : Use) × Contains [] u × (u.node ≡ x) × R u) → has_number now x ≡ true
      back (inl a) = (marks x).1 (inr a)
      back (inr at) = absurd (none_there at.0 at.1)

  pub uses_more : (uses : List Use) (i : ℕ) (u : Use) (old new : List Bool) (marks : Bool) → i < length uses → u ≡ get_or uses i u → (marks ≡ true) ↔ R u → UsesMarked (take i uses) old
      → Marks old new (λ x. (x ≡ u.node) × (marks ≡ true)) → UsesMarked (take (i + 1) uses) new
  uses_more uses i u old new marks below is told before more x = (λ has. there ((more x).0 has), back)
    where
      early : A x ⊎ ((w : Use) × Contains (take i uses) w × (w.node ≡ x) × R w) → A x ⊎ ((w : Use) × Contains (take (i + 1) uses) w × (w.node ≡ x) × R w)
      early (inl a) = inl a
      early (inr at) = inr (at.0, (taken_more uses i u at.0 below is).1 (inl at.1), at.2, at.3)

      there : (has_number old x ≡ true) ⊎ ((x ≡ u.node) × (marks ≡ true)) → A x ⊎ ((w : Use) × Contains (take (i + 1) uses) w × (w.node ≡ x) × R w)
      there (inl had) = early ((before x).0 had)
      there (inr one) = inr (u, (taken_more uses i u u below is).1 (inr refl), sym one.0, told.0 one.1)

      late : (w : Use) → w.node ≡ x → R w → Contains (take i uses) w ⊎ (w ≡ u) → has_number new x ≡ true
      late w node r (inl first) = (more x).1 (inl ((before x).1 (inr (w, first, node, r))))
      late w node r (inr same) = (more x).1 (inr (sym node ∙ ap (λ (k : Use). k.node) same, told.1 (subst R same r)))

      back : A x ⊎ ((w : Use) × Contains (take (i + 1) uses) w × (w.node ≡ x) × R w) → has_number new x ≡ true
      back (inl a) = (more x).1 (inl ((before x).1 (inl a)))
      back (inr at) = late at.0 at.2 at.3 ((taken_more uses i u at.0 below is).0 at.1)

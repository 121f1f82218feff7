-- Tables of uses, as they grow.
use Rattle.std.proofs.Common.{inl, inr, replicate, ◌≡◌, ◌⊎◌, ◌↔◌, ℕ, zero, suc, ◌+◌, ◌<◌, ◌≤◌, List, [], ◌∷◌, ◌++◌, length, get_or, take, Contains, Option, Some, None, IsSomeAnd, slice_get, slice_set, refl, sym, ◌∙◌, ap, subst, arith}
use Rattle.std.proofs.lemmas.List.{take_all}
use Rattle.std.proofs.lemmas.List.Elements.{Contains-append_left, Contains-push, Contains-push_cases}
use Rattle.std.proofs.lemmas.Option.{slice_get_within}
use Rattle.jo_prog.proofs.WalkLemmas.{none_there}
use Rattle.dep_nodes.proofs.ListedLemmas.{is_there, set_keeps, set_puts, set_had}
use Rattle.dependence.specs.declared.flows.FlowRow.{FlowRow}
use Rattle.dependence.specs.declared.flows.Use.{Use}
use Rattle.dependence.specs.FlowData.{IsUse, AreUses}
use Rattle.dependence.proofs.ListedLemmas.{taken_more}
use Rattle.method_views.specs.UseTables.{StandsAt, IsUseTable, AddsUse}

abbrev Has : Use → List Use → Type 0
Has u uses = Contains uses u

-- ---- looking up

pub some_row : (table : List (List Use)) (n : ℕ) (uses : List Use) → slice_get table n ≡ Some uses → (u : Use) → Contains uses u ↔ StandsAt table n u
some_row table n uses at u =
    (λ c. subst (λ (o : Option (List Use)). IsSomeAnd o (Has u)) (sym at) c, λ s. subst (λ (o : Option (List Use)). IsSomeAnd o (Has u)) at s)

pub no_row : (table : List (List Use)) (n : ℕ) → slice_get table n ≡ None → (u : Use) → Contains {X = Use} [] u ↔ StandsAt table n u
no_row table n at u =
    (λ c. absurd (none_there u c), λ s. absurd (subst (λ (o : Option (List Use)). IsSomeAnd o (Has u)) at s))

-- ---- adding

pub use_added : (table : List (List Use)) (row new : List Use) (u : Use) → slice_get table u.node ≡ Some row → new ≡ row ++ u ∷ [] → AddsUse table (slice_set table u.node new) u
use_added table row new u at made n v = (there, back)
  where
    by_item : (n ≡ u.node) → Contains new v → StandsAt table n v ⊎ ((v ≡ u) × (v.node ≡ n))
    by_item here c = elim (Contains-push_cases row u v (subst (λ xs. Contains xs v) made c)) [
      | inl before ↦ inl (subst (λ k. StandsAt table k v) (sym here) ((some_row table u.node row at v).0 before))
      | inr last ↦ inr (sym last, ap (λ (w : Use). w.node) (sym last) ∙ sym here)
    ]

    there : StandsAt (slice_set table u.node new) n v → StandsAt table n v ⊎ ((v ≡ u) × (v.node ≡ n))
    there s = elim (set_had (Has v) table u.node n new s) [
      | inl before ↦ inl before
      | inr here ↦ by_item here.0 here.1
    ]

    back : StandsAt table n v ⊎ ((v ≡ u) × (v.node ≡ n)) → StandsAt (slice_set table u.node new) n v
    back (inl before) = set_keeps (Has v) table u.node n row new at (λ c. subst (λ xs. Contains xs v) (sym made) (Contains-append_left row (u ∷ []) v c)) before
    back (inr same) =
        let last : Contains new v = subst (λ w. Contains new w) (sym same.0) (subst (λ xs. Contains xs u) (sym made) (Contains-push row u)) in
        let place : u.node ≡ n = ap (λ (w : Use). w.node) (sym same.0) ∙ same.1 in
        subst (λ k. StandsAt (slice_set table u.node new) k v) place (set_puts (Has v) table u.node row new at last)

-- ---- all uses of a list

-- exactly the uses of a list, each at its node
abbrev pub HasUses : List Use → List (List Use) → Type 0
HasUses uses table = (n : ℕ) (u : Use) → StandsAt table n u ↔ (Contains uses u × (u.node ≡ n))

no_use : (count n : ℕ) (u : Use) → StandsAt (replicate count []) n u → ⊥
no_use zero n u s = s
no_use (suc count) zero u s = none_there u s
no_use (suc count) (suc n) u s = no_use count n u s

pub no_uses_yet : (table : List (List Use)) (uses : List Use) (count : ℕ) → table ≡ replicate count [] → HasUses (take 0 uses) table
no_uses_yet table uses count is n u =
    (λ s. absurd (no_use count n u (subst (λ t. StandsAt t n u) is s)), λ c. absurd (none_there u c.0))

pub uses_more : (uses : List Use) (i : ℕ) (u : Use) (old new : List (List Use)) → i < length uses → u ≡ get_or uses i u → HasUses (take i uses) old → AddsUse old new u → HasUses (take (i + 1) uses) new
uses_more uses i u old new below at has adds n v = (there, back)
  where
    there : StandsAt new n v → Contains (take (i + 1) uses) v × (v.node ≡ n)
    there s = elim ((adds n v).0 s) [
      | inl before ↦ let h = (has n v).0 before in ((taken_more uses i u v below at).1 (inl h.0), h.1)
      | inr same ↦ ((taken_more uses i u v below at).1 (inr same.0), same.1)
    ]

    back : Contains (take (i + 1) uses) v × (v.node ≡ n) → StandsAt new n v
    back (among, here) = elim ((taken_more uses i u v below at).0 among) [
      | inl before ↦ (adds n v).1 (inl ((has n v).1 (before, here)))
      | inr same ↦ (adds n v).1 (inr (same, here))
    ]

pub uses_all : (wide : List FlowRow) (uses : List Use) (i : ℕ) (table : List (List Use)) → AreUses wide uses → length uses ≤ i → HasUses (take i uses) table → IsUseTable wide table
uses_all wide uses i table are past has n u =
    let all : HasUses uses table = subst (λ us. HasUses us table) (take_all i uses past) has in
    (λ s. (let h = (all n u).0 s in ((are.each u).0 h.0, h.1)), λ is. (all n u).1 ((are.each u).1 is.0, is.1))

-- a use is at a node of the graph
pub use_inside : (wide : List FlowRow) (u : Use) → IsUse wide u → u.node < length wide
use_inside wide u use_ = let row = is_there (λ (r : FlowRow). Contains r.reads u.place) (slice_get wide u.node) use_.0 in slice_get_within wide u.node row.item row.is

pub same_item : {A : Type 0} (xs : List A) (i : ℕ) (d : A) → i < length xs → get_or xs i d ≡ get_or xs i (get_or xs i d)
same_item [] i d below = absurd (omega (arith, below))
same_item (x ∷ xs) zero d below = refl
same_item (x ∷ xs) (suc i) d below = same_item xs i d (omega (arith, below))

-- a graph without nodes has no uses
pub no_nodes_no_uses : AreUses [] []
no_nodes_no_uses = record { each = λ u. (λ c. absurd (none_there u c), λ is. absurd is.0); once = λ i j x at_i at_j. absurd (cc) }

-- Sets of pairs whose equality is decided: where a pair stands, that each stands once, and what is there after one more.
use Rattle.std.specs.Prelude.{Bool, IfSome, position, if◌then◌else◌}
use Rattle.std.specs.Bool.{Decides}
use Rattle.std.specs.List.{list_any, IsDistinct}
use Rattle.std.proofs.Common.{◌≡◌, ◌==◌, ◌&&◌, inl, inr, true, false, ℕ, zero, suc, Contains, List, [], ◌∷◌, ◌++◌, get_or, Option, Some, None, slice_get, refl, ap, sym, ◌∙◌}
use Rattle.std.proofs.lemmas.Bool.Decides.{Decides-and, Decides-eqb, Decides-like}
use Rattle.std.proofs.lemmas.List.Quantifiers.{position-Some}
use Rattle.std.proofs.lemmas.List.Folds.{list_any_at}
use Rattle.std.proofs.lemmas.Map.Views.{Contains-from_any}
use Rattle.std.proofs.lemmas.Option.{same_Some, slice_get-get_or}
use Rattle.dep_nodes.specs.OnceLists.{IsOnceEach}
use Rattle.dep_nodes.specs.GrowingGraphs.{AppendsNew}
use Rattle.dep_nodes.proofs.GrowingLemmas.{all_found}
use Rattle.indexmap.specs.IndexSet.{insert_key}

abbrev Decided : {A : Type 0} → (A → A → Bool) → Type 0
Decided {A} eq = (a b : A) → Decides (eq a b) (a ≡ b)

abbrev pub pair_eq : {C : Type 0} → (C → C → Bool) → ℕ × C → ℕ × C → Bool
pair_eq eq a b = a.0 == b.0 && eq a.1 b.1

same_pair : {C : Type 0} (a b : ℕ × C) → a.0 ≡ b.0 → a.1 ≡ b.1 → a ≡ b
same_pair {C} a b number context = ap (λ n. (n, a.1)) number ∙ ap (λ (c : C). (b.0, c)) context

pub pairs_decided : {C : Type 0} (eq : C → C → Bool) → ((a b : C) → Decides (eq a b) (a ≡ b)) → (a b : ℕ × C) → Decides (pair_eq eq a b) (a ≡ b)
pairs_decided {C} eq decided a b =
    Decides-like (a.0 == b.0 && eq a.1 b.1)
    (λ (e : (a.0 ≡ b.0) × (a.1 ≡ b.1)). same_pair a b e.0 e.1)
    (λ (e : a ≡ b). (ap (λ (p : ℕ × C). p.0) e, ap (λ (p : ℕ × C). p.1) e))
    (Decides-and (a.0 == b.0) (eq a.1 b.1) (Decides-eqb a.0 b.0) (decided a.1 b.1))

-- ---- where an item stands

pub found_at : {A : Type 0} (eq : A → A → Bool) → Decided eq → (xs : List A) (x : A) (o : Option ℕ) → o ≡ position (eq x) xs → IfSome o (λ i. slice_get xs i ≡ Some x)
found_at eq decided xs x None is = tt
found_at eq decided xs x (Some i) is =
    let at = position-Some (eq x) xs i x (sym is) in
    let same : x ≡ get_or xs i x = (decided x (get_or xs i x)).0 at.1 in
    slice_get-get_or xs i x at.0 ∙ ap Some (sym same)

-- ---- each item once

pub distinct_once : {A : Type 0} (eq : A → A → Bool) → Decided eq → (xs : List A) → IsDistinct eq xs → IsOnceEach xs
unfolding IsDistinct
distinct_once eq decided [] distinct i j x at_i at_j = absurd (cc)
distinct_once eq decided (y ∷ ys) distinct zero zero x at_i at_j = refl
distinct_once eq decided (y ∷ ys) distinct zero (suc j) x at_i at_j =
    let differs : eq y x ≡ false = all_found (λ z. eq y z ≡ false) ys j x distinct.0 at_j in
    let same : eq y x ≡ true = (decided y x).1 (same_Some y x at_i) in
    absurd (cc)
distinct_once eq decided (y ∷ ys) distinct (suc i) zero x at_i at_j =
    let differs : eq y x ≡ false = all_found (λ z. eq y z ≡ false) ys i x distinct.0 at_i in
    let same : eq y x ≡ true = (decided y x).1 (same_Some y x at_j) in
    absurd (cc)
distinct_once eq decided (y ∷ ys) distinct (suc i) (suc j) x at_i at_j = ap suc (distinct_once eq decided ys distinct.1 i j x at_i at_j)

-- ---- one more

any_there : {A : Type 0} (eq : A → A → Bool) → Decided eq → (xs : List A) (x : A) → Contains xs x → list_any (eq x) xs ≡ true
any_there eq decided xs x there = list_any_at (eq x) xs there.0 x there.1 ((decided x (get_or xs there.0 x)).1 (sym there.2))

pub appends_new : {A : Type 0} (eq : A → A → Bool) → Decided eq → (old new : List A) (x : A) → new ≡ insert_key eq old x → AppendsNew old x new
appends_new eq decided old new x made = by_test (list_any (eq x) old) refl
  where
    by_test : (b : Bool) → list_any (eq x) old ≡ b → AppendsNew old x new
    by_test true is = inl (Contains-from_any (λ a b same. (decided a b).0 same) x old is, made ∙ ap (λ t. if t then old else old ++ x ∷ []) is)
    by_test false is = inr (λ there. (let yes : list_any (eq x) old ≡ true = any_there eq decided old x there in absurd (cc)), made ∙ ap (λ t. if t then old else old ++ x ∷ []) is)

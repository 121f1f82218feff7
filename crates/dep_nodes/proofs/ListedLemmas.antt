-- What a table of cells has after one more access.
use Rattle.std.specs.List.{AllByRecursion}
use Rattle.std.proofs.Common.{◌≡◌, ◌⊎◌, inl, inr, ℕ, zero, suc, ◌+◌, ◌<◌, Contains, List, [], ◌∷◌, ◌++◌, map, length, get_or, option_map, slice_get, slice_set, Option, None, Some, IsSomeAnd, refl, ap, sym, ◌∙◌, subst, arith, length-append}
use Rattle.std.proofs.lemmas.Option.{get_or_from_slice_get, slice_get_within, slice_get_read, slice_get-map}
use Rattle.std.proofs.lemmas.List.{map-append, length-map}
use Rattle.std.proofs.lemmas.List.Elements.{Contains-append_left, Contains-append_right, Contains-append_cases}
use Rattle.std.proofs.Math.Seq.{map-set_same}
use Rattle.dep_nodes.specs.declared.accesses.Cell.{Cell}
use Rattle.dep_nodes.specs.declared.access_table.Accessor.{Accessor}
use Rattle.dep_nodes.specs.declared.access_table.CellAccesses.{CellAccesses}
use Rattle.dep_nodes.specs.OnceLists.{IsOnceEach}
use Rattle.dep_nodes.specs.AccessTables.{IsListed, ListsAccess}
use Rattle.dep_nodes.proofs.GrowingLemmas.{all_push, all_set, all_found}
use Rattle.dep_nodes.proofs.OnceLemmas.{once_push}

-- ---- an item at a place, where one place is written or one item comes to the end

pub record IsThere {A : Type 0} (P : A → Type 0) (o : Option A) : Type 0 where
  pub item : A
  pub is : o ≡ Some item
  pub holds : P item

pub is_there : {A : Type 0} (P : A → Type 0) (o : Option A) → IsSomeAnd o P → IsThere P o
is_there P None there = absurd there
is_there P (Some x) there = record { item = x; is = refl; holds = there }

pub set_keeps : {A : Type 0} (P : A → Type 0) (xs : List A) (i k : ℕ) (x y : A) → slice_get xs i ≡ Some x → (P x → P y) → IsSomeAnd (slice_get xs k) P → IsSomeAnd (slice_get (slice_set xs i y) k) P
set_keeps P [] i k x y found to there = absurd there
set_keeps {A} P (z ∷ xs) zero zero x y found to there = to (subst (λ (o : Option A). IsSomeAnd o P) found there)
set_keeps P (z ∷ xs) zero (suc k) x y found to there = there
set_keeps P (z ∷ xs) (suc i) zero x y found to there = there
set_keeps P (z ∷ xs) (suc i) (suc k) x y found to there = set_keeps P xs i k x y found to there

pub set_puts : {A : Type 0} (P : A → Type 0) (xs : List A) (i : ℕ) (x y : A) → slice_get xs i ≡ Some x → P y → IsSomeAnd (slice_get (slice_set xs i y) i) P
set_puts P [] i x y found p = absurd (cc)
set_puts P (z ∷ xs) zero x y found p = p
set_puts P (z ∷ xs) (suc i) x y found p = set_puts P xs i x y found p

pub set_had : {A : Type 0} (P : A → Type 0) (xs : List A) (i k : ℕ) (y : A) → IsSomeAnd (slice_get (slice_set xs i y) k) P → IsSomeAnd (slice_get xs k) P ⊎ ((k ≡ i) × P y)
set_had P [] i k y there = absurd there
set_had P (z ∷ xs) zero zero y there = inr (refl, there)
set_had P (z ∷ xs) zero (suc k) y there = inl there
set_had P (z ∷ xs) (suc i) zero y there = inl there
set_had P (z ∷ xs) (suc i) (suc k) y there = one_up (set_had P xs i k y there)
  where
    one_up : {Q R : Type 0} {i k : ℕ} → Q ⊎ ((k ≡ i) × R) → Q ⊎ ((suc k ≡ suc i) × R)
    one_up (inl q) = inl q
    one_up (inr r) = inr (ap suc r.0, r.1)

pub push_keeps : {A : Type 0} (P : A → Type 0) (xs : List A) (k : ℕ) (y : A) → IsSomeAnd (slice_get xs k) P → IsSomeAnd (slice_get (xs ++ y ∷ []) k) P
push_keeps P [] k y there = absurd there
push_keeps P (z ∷ xs) zero y there = there
push_keeps P (z ∷ xs) (suc k) y there = push_keeps P xs k y there

pub push_puts : {A : Type 0} (P : A → Type 0) (xs : List A) (y : A) → P y → IsSomeAnd (slice_get (xs ++ y ∷ []) (length xs)) P
push_puts P [] y p = p
push_puts P (z ∷ xs) y p = push_puts P xs y p

pub push_had : {A : Type 0} (P : A → Type 0) (xs : List A) (k : ℕ) (y : A) → IsSomeAnd (slice_get (xs ++ y ∷ []) k) P → IsSomeAnd (slice_get xs k) P ⊎ P y
push_had P [] zero y there = inr there
push_had P [] (suc k) y there = absurd there
push_had P (z ∷ xs) zero y there = inl there
push_had P (z ∷ xs) (suc k) y there = push_had P xs k y there

-- ---- the one access more

pub only_one : {A : Type 0} (x y : A) → Contains (x ∷ []) y → y ≡ x
only_one x y (zero, below, is) = sym is
only_one x y (suc k, below, is) = absurd (omega (arith, below))

pub last_there : {A : Type 0} (xs : List A) (x : A) → Contains (xs ++ x ∷ []) x
last_there xs x = Contains-append_right xs (x ∷ []) x (zero, omega arith, refl)

abbrev with_more : CellAccesses → Accessor → CellAccesses
with_more at accessor = record at { accessors = at.accessors ++ accessor ∷ [] }

abbrev first_of : Cell → Accessor → CellAccesses
first_of cell accessor = record { cell = cell; accessors = accessor ∷ [] }

abbrev pub Has : Cell → Accessor → CellAccesses → Type 0
Has cell accessor at = (at.cell ≡ cell) × Contains at.accessors accessor

pub listed_kept : (old new : List CellAccesses) (cell : Cell) (accessor : Accessor) → ListsAccess old new cell accessor → (c : Cell) (a : Accessor) → IsListed old c a → IsListed new c a
listed_kept old new cell accessor (inl (k, at)) c a (j, there) =
    let found = is_there _ (slice_get old k) at in
    let x = found.item in
    (j, subst (λ xs. IsSomeAnd (slice_get xs j) (Has c a)) (sym found.holds.1) (set_keeps (Has c a) old k j x (with_more x accessor) found.is (λ has. (has.0, Contains-append_left x.accessors (accessor ∷ []) a has.1)) there))
listed_kept old new cell accessor (inr (absent, made)) c a (j, there) = (j, subst (λ xs. IsSomeAnd (slice_get xs j) (Has c a)) (sym made) (push_keeps (Has c a) old j (first_of cell accessor) there))

pub listed_now : (old new : List CellAccesses) (cell : Cell) (accessor : Accessor) → ListsAccess old new cell accessor → IsListed new cell accessor
listed_now old new cell accessor (inl (k, at)) =
    let found = is_there _ (slice_get old k) at in
    let x = found.item in
    (k, subst (λ xs. IsSomeAnd (slice_get xs k) (Has cell accessor)) (sym found.holds.1) (set_puts (Has cell accessor) old k x (with_more x accessor) found.is (found.holds.0, last_there x.accessors accessor)))
listed_now old new cell accessor (inr (absent, made)) =
    (length old, subst (λ xs. IsSomeAnd (slice_get xs (length old)) (Has cell accessor)) (sym made) (push_puts (Has cell accessor) old (first_of cell accessor) (refl, last_there [] accessor)))

pub listed_had : (old new : List CellAccesses) (cell : Cell) (accessor : Accessor) → ListsAccess old new cell accessor → (c : Cell) (a : Accessor) → IsListed new c a → IsListed old c a ⊎ ((c ≡ cell) × (a ≡ accessor))
listed_had old new cell accessor (inl (k, at)) c a (j, there) =
    let found = is_there _ (slice_get old k) at in
    let x = found.item in
    by_place x found.is found.holds.0 (set_had (Has c a) old k j (with_more x accessor) (subst (λ xs. IsSomeAnd (slice_get xs j) (Has c a)) found.holds.1 there))
  where
    by_item : (x : CellAccesses) → slice_get old k ≡ Some x → x.cell ≡ cell → x.cell ≡ c → Contains x.accessors a ⊎ Contains (accessor ∷ []) a → IsListed old c a ⊎ ((c ≡ cell) × (a ≡ accessor))
    by_item x is named same (inl before) = inl (k, subst (λ (o : Option CellAccesses). IsSomeAnd o (Has c a)) (sym is) (same, before))
    by_item x is named same (inr more) = inr (sym same ∙ named, only_one accessor a more)

    by_place : (x : CellAccesses) → slice_get old k ≡ Some x → x.cell ≡ cell → IsSomeAnd (slice_get old j) (Has c a) ⊎ ((j ≡ k) × Has c a (with_more x accessor)) → IsListed old c a ⊎ ((c ≡ cell) × (a ≡ accessor))
    by_place x is named (inl before) = inl (j, before)
    by_place x is named (inr here) = by_item x is named here.1.0 (Contains-append_cases x.accessors (accessor ∷ []) a here.1.1)
listed_had old new cell accessor (inr (absent, made)) c a (j, there) = by_place (push_had (Has c a) old j (first_of cell accessor) (subst (λ xs. IsSomeAnd (slice_get xs j) (Has c a)) made there))
  where
    by_place : IsSomeAnd (slice_get old j) (Has c a) ⊎ Has c a (first_of cell accessor) → IsListed old c a ⊎ ((c ≡ cell) × (a ≡ accessor))
    by_place (inl before) = inl (j, before)
    by_place (inr here) = inr (sym here.0, only_one accessor a here.1)

-- ---- each once

pub cells_stay_once : (old new : List CellAccesses) (cell : Cell) (accessor : Accessor) → ListsAccess old new cell accessor → IsOnceEach (map (λ at. at.cell) old) → IsOnceEach (map (λ at. at.cell) new)
cells_stay_once old new cell accessor (inl (k, at)) once =
    let found = is_there _ (slice_get old k) at in
    let x = found.item in
    let there = get_or_from_slice_get old k x x found.is in
    let same : map (λ at. at.cell) (slice_set old k (with_more x accessor)) ≡ map (λ at. at.cell) old = map-set_same (λ at. at.cell) old k (with_more x accessor) x (ap (λ at. at.cell) (sym there)) in
    subst IsOnceEach (sym (ap (map (λ at. at.cell)) found.holds.1 ∙ same)) once
cells_stay_once old new cell accessor (inr (absent, made)) once =
    subst IsOnceEach (sym (ap (map (λ at. at.cell)) made ∙ map-append (λ at. at.cell) old (first_of cell accessor ∷ []))) (once_push (map (λ at. at.cell) old) cell once absent)

pub all_stay : (P : CellAccesses → Type 0) (old new : List CellAccesses) (cell : Cell) (accessor : Accessor) → ListsAccess old new cell accessor → ((k : ℕ) (x : CellAccesses) → slice_get old k ≡ Some x → x.cell ≡ cell → P x → P (record x { accessors = x.accessors ++ accessor ∷ [] })) → P (record { cell = cell; accessors = accessor ∷ [] }) → AllByRecursion P old → AllByRecursion P new
all_stay P old new cell accessor (inl (k, at)) more first all =
    let found = is_there _ (slice_get old k) at in
    let x = found.item in
    subst (AllByRecursion P) (sym found.holds.1) (all_set P old k (with_more x accessor) all (more k x found.is found.holds.0 (all_found P old k x all found.is)))
all_stay P old new cell accessor (inr (absent, made)) more first all = subst (AllByRecursion P) (sym made) (all_push P old (first_of cell accessor) all first)

pub accessors_stay_once : (old new : List CellAccesses) (cell : Cell) (accessor : Accessor) → ListsAccess old new cell accessor → (IsListed old cell accessor → ⊥) → AllByRecursion (λ at. IsOnceEach at.accessors) old → AllByRecursion (λ at. IsOnceEach at.accessors) new
accessors_stay_once old new cell accessor lists new_one =
    all_stay (λ at. IsOnceEach at.accessors) old new cell accessor lists
    (λ k x is named once. once_push x.accessors accessor once (λ there. new_one (k, subst (λ (o : Option CellAccesses). IsSomeAnd o (Has cell accessor)) (sym is) (named, there))))
    (once_push [] accessor (λ i j y at_i at_j. absurd (cc)) (λ none. absurd (omega (arith, none.1))))

pub all_used : (old new : List CellAccesses) (cell : Cell) (accessor : Accessor) → ListsAccess old new cell accessor → AllByRecursion (λ at. 0 < length at.accessors) old → AllByRecursion (λ at. 0 < length at.accessors) new
all_used old new cell accessor lists =
    all_stay (λ at. 0 < length at.accessors) old new cell accessor lists
    (λ k x is named some. let e : length (x.accessors ++ accessor ∷ []) ≡ length x.accessors + 1 = simp (length-append) (omega arith) in omega (arith, e))
    (omega arith)

-- ---- the names of the cells beside them

pub names_stay : (cells : List CellAccesses) (names : List Cell) (place : ℕ) (at : CellAccesses) (accessors : List Accessor) → names ≡ map (λ x. x.cell) cells → at ≡ get_or cells place at → names ≡ map (λ x. x.cell) (slice_set cells place (record at { accessors = accessors }))
names_stay cells names place at accessors named is = named ∙ sym (map-set_same (λ x. x.cell) cells place (record at { accessors = accessors }) at (ap (λ x. x.cell) is))

pub listed_at : (cells old : List CellAccesses) (names : List Cell) (place : ℕ) (at : CellAccesses) (accessors : List Accessor) (cell : Cell) (accessor : Accessor) → cells ≡ old → names ≡ map (λ x. x.cell) cells → slice_get names place ≡ Some cell → at ≡ get_or cells place at → accessors ≡ at.accessors ++ accessor ∷ [] → ListsAccess old (slice_set cells place (record at { accessors = accessors })) cell accessor
listed_at cells old names place at accessors cell accessor same named found is made =
    let new = slice_set cells place (record at { accessors = accessors }) in
    let within : place < length names = slice_get_within names place cell found in
    let count : length names ≡ length cells = ap length named ∙ length-map cells (λ x. x.cell) in
    let there : slice_get cells place ≡ Some at = slice_get_read cells (length cells) place at refl (omega (arith, within, count)) is in
    let both : Some at.cell ≡ Some cell = sym (ap (option_map (λ x. x.cell)) there) ∙ sym (slice_get-map (λ x. x.cell) cells place) ∙ ap (λ ns. slice_get ns place) (sym named) ∙ found in
    let name : at.cell ≡ cell = subst (λ (o : Option Cell). IsSomeAnd o (λ c. at.cell ≡ c)) both refl in
    subst (λ xs. ListsAccess xs new cell accessor) same
    (inl (place, subst (λ (o : Option CellAccesses). IsSomeAnd o (λ x. (x.cell ≡ cell) × (new ≡ slice_set cells place (record x { accessors = x.accessors ++ accessor ∷ [] })))) (sym there) (name, ap (λ xs. slice_set cells place (record at { accessors = xs })) made)))

-- What a flow graph has after one more node, edge or place.
use Rattle.std.specs.List.{AllByRecursion}
use Rattle.std.proofs.Common.{◌≡◌, ◌⊎◌, inl, inr, ℕ, ◌+◌, ◌<◌, ◌^◌, Bool, true, false, IsTrue, ◌↔◌, Contains, List, [], ◌∷◌, ◌++◌, length, get_or, slice_get, slice_set, Option, Some, IsSomeAnd, Result, Ok, Err, OnOk, OnErr, refl, ap, sym, ◌∙◌, subst, arith, length-append, length-set}
use Rattle.std.proofs.lemmas.Option.{slice_get_read, get_or_from_slice_get}
use Rattle.std.proofs.lemmas.List.{set-get_or}
use Rattle.dep_nodes.specs.OnceLists.{IsOnceEach}
use Rattle.dep_nodes.specs.GrowingGraphs.{AppendsNew}
use Rattle.dep_nodes.proofs.GrowingLemmas.{all_weaker, all_push, all_set, all_found}
use Rattle.dep_nodes.proofs.OnceLemmas.{once_push}
use Rattle.dependence.specs.declared.flow.Place.{Place}
use Rattle.dependence.specs.declared.flows.FlowNode.{FlowNode}
use Rattle.dependence.specs.declared.flows.FlowRow.{FlowRow}
use Rattle.dependence.specs.FlowData.{IsInside, IsFlow, bare, AddsSuccessor, AddsRead, AddsWrite}

-- ---- the row of a number

pub found_row : (rows : List FlowRow) (n : ℕ) (row : FlowRow) → n < length rows → row ≡ get_or rows n row → slice_get rows n ≡ Some row
found_row rows n row below is = slice_get_read rows (length rows) n row refl below is

at_row : (P : FlowRow → Type 0) (rows : List FlowRow) (n : ℕ) (row : FlowRow) → slice_get rows n ≡ Some row → P row → IsSomeAnd (slice_get rows n) P
at_row P rows n row found p = subst (λ (o : Option FlowRow). IsSomeAnd o P) (sym found) p

pub once_of_appended : {A : Type 0} (old new : List A) (x : A) → AppendsNew old x new → IsOnceEach old → IsOnceEach new
once_of_appended old new x (inl same) once = subst IsOnceEach (sym same.1) once
once_of_appended old new x (inr more) once = subst IsOnceEach (sym more.1) (once_push old x once more.0)

-- a row that is written over itself
set_same : {A : Type 0} (xs : List A) (n : ℕ) (x : A) → slice_get xs n ≡ Some x → slice_set xs n x ≡ xs
set_same xs n x found = ap (slice_set xs n) (sym (get_or_from_slice_get xs n x x found)) ∙ set-get_or xs n x

pub if_ok : {T E : Type 0} (r : Result T E) (P Q : Type 0) → (P → Q) → OnOk r P → OnOk r Q
if_ok (Ok x) P Q to p = to p
if_ok (Err e) P Q to p = tt

pub if_err : {T E : Type 0} (r : Result T E) (P Q : Type 0) → (P → Q) → OnErr r P → OnErr r Q
if_err (Ok x) P Q to p = tt
if_err (Err e) P Q to p = to p

-- ---- what is added

module _ (rows old : List FlowRow) (n : ℕ) (row : FlowRow) (same : rows ≡ old) (found : slice_get rows n ≡ Some row) where
  pub successor_added : (to : ℕ) (next : List ℕ) → AppendsNew row.successors to next → AddsSuccessor old (slice_set rows n (record row { successors = next })) n to
  successor_added to next appends =
      let new = slice_set rows n (record row { successors = next }) in
      subst (λ xs. AddsSuccessor xs new n to) same
      (at_row (λ (x : FlowRow). (ys : List ℕ) × AppendsNew x.successors to ys × (new ≡ slice_set rows n (record x { successors = ys }))) rows n row found (next, appends, refl))

  pub read_added : (place : Place) (places : List Place) → AppendsNew row.reads place places → AddsRead old (slice_set rows n (record row { reads = places })) n place
  read_added place places appends =
      let new = slice_set rows n (record row { reads = places }) in
      subst (λ xs. AddsRead xs new n place) same
      (at_row (λ (x : FlowRow). (ys : List Place) × AppendsNew x.reads place ys × (new ≡ slice_set rows n (record x { reads = ys }))) rows n row found (places, appends, refl))

  pub read_same : (places : List Place) → places ≡ row.reads → slice_set rows n (record row { reads = places }) ≡ old
  read_same places is = ap (λ ps. slice_set rows n (record row { reads = ps })) is ∙ set_same rows n row found ∙ same

  pub write_same : (places : List Place) → places ≡ row.writes → slice_set rows n (record row { writes = places }) ≡ old
  write_same places is = ap (λ ps. slice_set rows n (record row { writes = ps })) is ∙ set_same rows n row found ∙ same

  pub write_added : (place : Place) (places : List Place) → AppendsNew row.writes place places → AddsWrite old (slice_set rows n (record row { writes = places })) n place
  write_added place places appends =
      let new = slice_set rows n (record row { writes = places }) in
      subst (λ xs. AddsWrite xs new n place) same
      (at_row (λ (x : FlowRow). (ys : List Place) × AppendsNew x.writes place ys × (new ≡ slice_set rows n (record x { writes = ys }))) rows n row found (places, appends, refl))

-- ---- edges stay inside

set_inside : (rows : List FlowRow) (n : ℕ) (row : FlowRow) (count : ℕ) → IsFlow rows count → IsInside (length rows) row → IsFlow (slice_set rows n row) count
set_inside rows n row count is inside = record {
  few = is.few;
  rows = subst (λ k. AllByRecursion (IsInside k) (slice_set rows n row)) (sym (length-set rows n row)) (all_set (IsInside (length rows)) rows n row is.rows inside);
}

pub flow_with_successor : (rows : List FlowRow) (n : ℕ) (row : FlowRow) (count to : ℕ) (next : List ℕ) → IsFlow rows count → slice_get rows n ≡ Some row → to < length rows → AppendsNew row.successors to next
    → IsFlow (slice_set rows n (record row { successors = next })) count
flow_with_successor rows n row count to next is found below appends =
    let there : IsInside (length rows) row = all_found (IsInside (length rows)) rows n row is.rows found in
    set_inside rows n (record row { successors = next }) count is (record { inside = all appends there.inside; once = once_of_appended row.successors next to appends there.once })
  where
    all : AppendsNew row.successors to next → AllByRecursion (λ b. b < length rows) row.successors → AllByRecursion (λ b. b < length rows) next
    all (inl same) inside = subst (AllByRecursion (λ b. b < length rows)) (sym same.1) inside
    all (inr more) inside = subst (AllByRecursion (λ b. b < length rows)) (sym more.1) (all_push (λ b. b < length rows) row.successors to inside below)

pub flow_with_same : (rows : List FlowRow) (n : ℕ) (row : FlowRow) (count : ℕ) (next : List ℕ) → IsFlow rows count → slice_get rows n ≡ Some row → next ≡ row.successors
    → IsFlow (slice_set rows n (record row { successors = next })) count
flow_with_same rows n row count next is found same =
    subst (λ xs. IsFlow xs count) (sym (ap (λ bs. slice_set rows n (record row { successors = bs })) same ∙ set_same rows n row found)) is

-- other places don't matter
pub flow_with_places : (rows : List FlowRow) (n : ℕ) (row : FlowRow) (count : ℕ) (reads writes : List Place) → IsFlow rows count → slice_get rows n ≡ Some row
    → IsFlow (slice_set rows n (record row { reads = reads; writes = writes })) count
flow_with_places rows n row count reads writes is found =
    let there : IsInside (length rows) row = all_found (IsInside (length rows)) rows n row is.rows found in
    set_inside rows n (record row { reads = reads; writes = writes }) count is (record { inside = there.inside; once = there.once })

pub flow_with_node : (rows new : List FlowRow) (node : FlowNode) (count more : ℕ) → IsFlow rows count → more < 2 ^ 32 → new ≡ rows ++ bare node ∷ [] → IsFlow new more
flow_with_node rows new node count more is few made =
    let size : length (rows ++ bare node ∷ []) ≡ length rows + 1 = simp (length-append) (omega arith) in
    subst (λ xs. IsFlow xs more) (sym made) (record {
      few = few;
      rows = subst (λ k. AllByRecursion (IsInside k) (rows ++ bare node ∷ [])) (sym size)
          (all_push (IsInside (length rows + 1)) rows (bare node) (all_weaker (IsInside (length rows)) (IsInside (length rows + 1)) rows wider is.rows) (record { inside = tt; once = none }));
    })
  where
    wider : (row : FlowRow) → IsInside (length rows) row → IsInside (length rows + 1) row
    wider row inside = record { inside = all_weaker (λ b. b < length rows) (λ b. b < length rows + 1) row.successors (λ b below. omega arith) inside.inside; once = inside.once }

    none : IsOnceEach {A = ℕ} []
    none i j x at_i at_j = absurd (cc)

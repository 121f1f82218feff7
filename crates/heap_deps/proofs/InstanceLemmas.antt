-- Uses of a flow graph are between its nodes.
use Rattle.std.proofs.Common.{◌≡◌, ◌⊎◌, inl, inr, ℕ, ◌<◌, ◌≤◌, List, Contains, Option, None, Some, IsSomeAnd, length, get_or, slice_get, sym, subst}
use Rattle.std.proofs.lemmas.Option.{slice_get_cases, slice_get-get_or, get_or_from_slice_get}
use Rattle.dependence.specs.declared.flow.Place.{Place}
use Rattle.dependence.specs.declared.flows.FlowRow.{FlowRow}
use Rattle.dependence.specs.declared.flows.Use.{Use}
use Rattle.dependence.specs.Dependence.{Reaches, one, more}
use Rattle.dependence.specs.FlowData.{AreUses}

reaches_begins : {N : Type 0} {E : N → N → Type 0} {W : N → Place → Type 0} (v : Place) (d n : N) → Reaches E W v d n → (x : N) × E d x
reaches_begins v d _ (one n edge writes) = (n, edge)
reaches_begins v d _ (more x n before passes edge) = reaches_begins v d x before

asked_below : (flow : List FlowRow) (P : FlowRow → Type 0) (n : ℕ) → IsSomeAnd (slice_get flow n) P → n < length flow
asked_below flow P n here = by_row (slice_get_cases flow n).1
  where
    by_row : ((row : FlowRow) × (n < length flow) × (slice_get flow n ≡ Some row) × (get_or flow n row ≡ row)) ⊎ ((length flow ≤ n) × (slice_get flow n ≡ None)) → n < length flow
    by_row (inl at) = at.1
    by_row (inr over) = absurd (subst (λ (o : Option FlowRow). IsSomeAnd o P) over.1 here)

pub use_below : (flow : List FlowRow) (uses : List Use) → AreUses flow uses → (u : Use) → Contains uses u → (u.node < length flow) × (u.from < length flow)
use_below flow uses are u among =
    let is = (are.each u).0 among in
    let begins = reaches_begins u.place u.from u.node is.1 in
    (asked_below flow (λ row. Contains row.reads u.place) u.node is.0, asked_below flow (λ row. Contains row.successors begins.0) u.from begins.1)

-- an item at a place is the same whatever stands in for it
pub same_item : {A : Type 0} (xs : List A) (i : ℕ) (d : A) → i < length xs → get_or xs i d ≡ get_or xs i (get_or xs i d)
same_item xs i d below = sym (get_or_from_slice_get xs i (get_or xs i d) (get_or xs i d) (slice_get-get_or xs i d below))

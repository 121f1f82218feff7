-- What is found among the regions of a graph is a conflict of the graph.
use Rattle.std.proofs.Common.{◌≡◌, inl, inr, ℕ, Bool, true, List, Option, Some, None, slice_get, sym, subst}
use Rattle.jo_ids.specs.Rows.{has_number}
use Rattle.dep_nodes.specs.declared.accesses.Access.{Access}
use Rattle.dep_nodes.specs.declared.dependence_graph.GraphNode.{GraphNode}
use Rattle.dep_nodes.specs.Regions.{ParallelAt}
use Rattle.dep_nodes.specs.Conflicts.{Clash, MayClash}
use Rattle.thread_regions.specs.declared.tables.ForkRegions.{ForkRegions}
use Rattle.thread_regions.specs.Regions.{AreRegions}
use Rattle.thread_regions.proofs.TableLemmas.{stands_at, is_parallel, has_parallel}
use Rattle.thread_regions.specs.declared.conflicting.Conflict.{Conflict}
use Rattle.conflicts.specs.Finding.{IsIn, IsOrderConflict, IsDataConflict, HasNoOrderConflict, HasNoDataConflict, IsConflictOfKind, IsFirstConflict, IsOrderAmong, IsDataAmong}

swapped : (a b : Access) → Clash a b → Clash b a
swapped a b c = record { same_cell = sym c.same_cell; writes = elim c.writes [ inl first ↦ inr first | inr second ↦ inl second ] }

exchanged : (nodes : List GraphNode) (a b : ℕ) → MayClash nodes a b → MayClash nodes b a
exchanged nodes a b c = record { first = c.second; second = c.first; has_first = c.has_second; has_second = c.has_first; clash = swapped c.first c.second c.clash }

module _ (nodes : List GraphNode) (forks : List ForkRegions) (are : AreRegions nodes forks) where
  -- where two nodes are parallel they are on the two sides of a fork of the list
  sides : (fork a b : ℕ) → ParallelAt nodes fork a b
      → ((k : ℕ) (r : ForkRegions) → slice_get forks k ≡ Some r → has_number r.child a ≡ true → has_number r.after b ≡ true → ⊥) → ⊥
  sides fork a b p none =
      let at = stands_at nodes forks are fork p.is_fork in
      let has = has_parallel nodes forks are a b at.k at.r at.is_r (subst (λ f. ParallelAt nodes f a b) (sym at.of_fork) p) in
      none at.k at.r at.is_r has.0 has.1

  parallel : (c : Conflict) (k : ℕ) (r : ForkRegions) → slice_get forks k ≡ Some r → c.fork ≡ r.fork → has_number r.child c.inside ≡ true → has_number r.after c.after ≡ true
      → ParallelAt nodes c.fork c.inside c.after
  parallel c k r is of child after = subst (λ f. ParallelAt nodes f c.inside c.after) (sym of) (is_parallel nodes forks are c.inside c.after k r is child after)

  module _ (seen leads : List Bool) where
    pub order_found : (c : Conflict) → IsOrderAmong forks seen (Some c) → IsConflictOfKind nodes (IsIn seen) (IsIn leads) c c.order
    order_found c found =
        let at = found.3 in
        let conflict : IsOrderConflict nodes (IsIn seen) c = record {
          parallel = parallel c found.0 found.1 found.2 at.of_fork at.related.in_child at.related.in_after;
          sees_inside = at.related.sees_inside;
          sees_after = at.related.sees_after;
        } in
        subst (λ kind. IsConflictOfKind nodes (IsIn seen) (IsIn leads) c kind) (sym at.kind) conflict

    no_order : IsOrderAmong forks seen None → HasNoOrderConflict nodes (IsIn seen)
    no_order none a b c = elim c.parallel.1 [
      | inl p ↦ sides c.parallel.0 a b p
          (λ k r is child after. none k r is a b (record { in_child = child; in_after = after; sees_inside = c.sees_first; sees_after = c.sees_second }))
      | inr p ↦ sides c.parallel.0 b a p
          (λ k r is child after. none k r is b a (record { in_child = child; in_after = after; sees_inside = c.sees_second; sees_after = c.sees_first }))
    ]

    no_data : IsDataAmong nodes forks leads None → HasNoDataConflict nodes (IsIn leads)
    no_data none a b c = elim c.parallel.1 [
      | inl p ↦ sides c.parallel.0 a b p
          (λ k r is child after. none k r is a b
          (record { in_child = child; in_after = after; inside_leads = c.first_leads; after_leads = c.second_leads; clash = c.clash }))
      | inr p ↦ sides c.parallel.0 b a p
          (λ k r is child after. none k r is b a
          (record { in_child = child; in_after = after; inside_leads = c.second_leads; after_leads = c.first_leads; clash = exchanged nodes a b c.clash }))
    ]

    pub data_found : (result : Option Conflict) → IsOrderAmong forks seen None → IsDataAmong nodes forks leads result → IsFirstConflict nodes (IsIn seen) (IsIn leads) result
    data_found None none among = (no_order none, no_data among)
    data_found (Some c) none found =
        let at = found.3 in
        let conflict : IsDataConflict nodes (IsIn leads) c = record {
          parallel = parallel c found.0 found.1 found.2 at.of_fork at.related.in_child at.related.in_after;
          clash = at.related.clash;
          inside_leads = at.related.inside_leads;
          after_leads = at.related.after_leads;
        } in
        subst (λ kind. IsConflictOfKind nodes (IsIn seen) (IsIn leads) c kind) (sym at.kind) (no_order none, conflict)

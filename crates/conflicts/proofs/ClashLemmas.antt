-- Nodes that clash are accessors of one cell.
use Rattle.std.proofs.Common.{◌≡◌, inl, inr, ℕ, Bool, true, false, List, map, Contains, Option, Some, None, slice_get, option_map, IsSomeAnd, refl, sym, ◌∙◌, ap, subst}
use Rattle.std.proofs.lemmas.Option.{slice_get-map}
use Rattle.dep_nodes.specs.declared.accesses.Access.{Access}
use Rattle.dep_nodes.specs.declared.accesses.Cell.{Cell}
use Rattle.dep_nodes.specs.declared.access_table.Accessor.{Accessor}
use Rattle.dep_nodes.specs.declared.access_table.CellAccesses.{CellAccesses}
use Rattle.dep_nodes.specs.declared.dependence_graph.GraphNode.{GraphNode}
use Rattle.dep_nodes.specs.GrowingGraphs.{HasAccess, HasAccessor, IsAccessTable}
use Rattle.dep_nodes.specs.Conflicts.{MayClash}
use Rattle.dep_nodes.proofs.ListedLemmas.{Has, is_there}
use Rattle.thread_regions.specs.declared.tables.ForkRegions.{ForkRegions}
use Rattle.thread_regions.proofs.FirstLemmas.{some_same}
use Rattle.conflicts.specs.declared.clashes.Wanted.{Wanted}
use Rattle.conflicts.specs.declared.clashes.Wanted.TheVariants.{Any, Write}
use Rattle.thread_regions.specs.declared.conflicting.Conflict.{Conflict}
use Rattle.conflicts.specs.Clashes.{IsOn, AreOnBoth, IsOnBoth, AreClashing, IsClash}
use Rattle.conflicts.specs.Finding.{AreClashingAt, IsAt, IsDataAtCells, IsDataAt}

-- ---- the accessors of one cell

module _ (r : ForkRegions) (leads : List Bool) (accessors : List Accessor) where
  any_on : (side : List Bool) (wanted : Wanted) (x : Accessor) → IsOn side leads wanted x → IsOn side leads Any x
  any_on side wanted x on = record { leads_on = on.leads_on; on_side = on.on_side; is_wanted = refl }

  any_on_both : (inside after : Wanted) (a b : Accessor) → AreOnBoth r leads inside after accessors a b → AreOnBoth r leads Any Any accessors a b
  any_on_both inside after a b both = record {
    has_first = both.has_first;
    has_second = both.has_second;
    is_inside = any_on r.child inside a both.is_inside;
    is_after = any_on r.after after b both.is_after;
  }

  pub inside_writes : (a b : Accessor) → AreOnBoth r leads Write Any accessors a b → AreClashing r leads accessors a b
  inside_writes a b both = record { on_both = any_on_both Write Any a b both; writes = inl both.is_inside.is_wanted }

  after_writes : (a b : Accessor) → AreOnBoth r leads Any Write accessors a b → AreClashing r leads accessors a b
  after_writes a b both = record { on_both = any_on_both Any Write a b both; writes = inr both.is_after.is_wanted }

  writing : (side : List Bool) (x : Accessor) → IsOn side leads Any x → x.write ≡ true → IsOn side leads Write x
  writing side x on writes = record { leads_on = on.leads_on; on_side = on.on_side; is_wanted = writes }

  -- where no accessor inside clashes by its own writing, one behind the fork does, or none
  pub clash_of_both : (result : Option (Accessor × Accessor)) → IsOnBoth r leads Write Any accessors None → IsOnBoth r leads Any Write accessors result → IsClash r leads accessors result
  clash_of_both None none_writes none = λ a b clash.
      let both = clash.on_both in
      elim clash.writes [
        | inl first ↦ none_writes a b (record { has_first = both.has_first; has_second = both.has_second; is_inside = writing r.child a both.is_inside first; is_after = both.is_after })
        | inr second ↦ none a b (record { has_first = both.has_first; has_second = both.has_second; is_inside = both.is_inside; is_after = writing r.after b both.is_after second })
      ]
  clash_of_both (Some both) none_writes are = after_writes both.0 both.1 are

-- ---- the cells of a graph

abbrev by : ℕ → Access → Accessor
by n access = record { node = n; write = access.write }

module _ (nodes : List GraphNode) (cells : List CellAccesses) (table : IsAccessTable nodes cells) (r : ForkRegions) (leads : List Bool) where
  named : (k : ℕ) (x : CellAccesses) → slice_get cells k ≡ Some x → slice_get (map (λ (at : CellAccesses). at.cell) cells) k ≡ Some x.cell
  named k x is = slice_get-map (λ (at : CellAccesses). at.cell) cells k ∙ ap (λ (o : Option CellAccesses). option_map (λ (at : CellAccesses). at.cell) o) is

  one_cell : (k m : ℕ) (x y : CellAccesses) → slice_get cells k ≡ Some x → slice_get cells m ≡ Some y → y.cell ≡ x.cell → y ≡ x
  one_cell k m x y is_x is_y same =
      let places : k ≡ m = table.cells_once k m x.cell (named k x is_x) (named m y is_y ∙ ap (λ (c : Cell). Some c) same) in
      some_same (sym is_y ∙ ap (λ (i : ℕ). slice_get cells i) (sym places) ∙ is_x)

  none_clash : IsDataAtCells cells r leads None → IsDataAt nodes r leads None
  none_clash none = λ a b at.
      let first = at.clash.first in
      let second = at.clash.second in
      let listed : HasAccessor cells a first = table.listed a first at.clash.has_first in
      let other : HasAccessor cells b second = table.listed b second at.clash.has_second in
      let x = is_there (Has first.cell (by a first)) (slice_get cells listed.0) listed.1 in
      let y = is_there (Has second.cell (by b second)) (slice_get cells other.0) other.1 in
      let same : y.item ≡ x.item = one_cell listed.0 other.0 x.item y.item x.is y.is (y.holds.0 ∙ sym at.clash.clash.same_cell ∙ sym x.holds.0) in
      none listed.0 x.item x.is (by a first) (by b second) (record {
        on_both = record {
          has_first = x.holds.1;
          has_second = subst (λ (c : CellAccesses). Contains c.accessors (by b second)) same y.holds.1;
          is_inside = record { leads_on = at.inside_leads; on_side = at.in_child; is_wanted = refl };
          is_after = record { leads_on = at.after_leads; on_side = at.in_after; is_wanted = refl };
        };
        writes = at.clash.clash.writes;
      })

  abbrev access_of : CellAccesses → Accessor → Access
  access_of cell x = record { cell = cell.cell; write = x.write }

  has_access : (k : ℕ) (cell : CellAccesses) (x : Accessor) → slice_get cells k ≡ Some cell → Contains cell.accessors x → HasAccess nodes x.node (access_of cell x)
  has_access k cell x is among =
      table.there x.node (access_of cell x) (k, subst (λ (o : Option CellAccesses). IsSomeAnd o (Has cell.cell x)) (sym is) (refl, among))

  clash_found : (c : Conflict) → IsDataAtCells cells r leads (Some c) → IsDataAt nodes r leads (Some c)
  clash_found c (k, cell, is, at) =
      let both = at.clashing.on_both in
      let clash : MayClash nodes at.first.node at.second.node = record {
        first = access_of cell at.first;
        second = access_of cell at.second;
        has_first = has_access k cell at.first is both.has_first;
        has_second = has_access k cell at.second is both.has_second;
        clash = record { same_cell = refl; writes = at.clashing.writes };
      } in
      let related : AreClashingAt nodes r leads at.first.node at.second.node = record {
        in_child = both.is_inside.on_side;
        in_after = both.is_after.on_side;
        inside_leads = both.is_inside.leads_on;
        after_leads = both.is_after.leads_on;
        clash = clash;
      } in
      subst (λ (d : Conflict). IsAt r (AreClashingAt nodes r leads) false d) (sym at.is) (record { kind = refl; of_fork = refl; related = related })

  -- what is found at the cells of the graph is what is found at its nodes
  pub data_of_cells : (result : Option Conflict) → IsDataAtCells cells r leads result → IsDataAt nodes r leads result
  data_of_cells None none = none_clash none
  data_of_cells (Some c) found = clash_found c found

-- The edges between the ends of cells are those that the accesses of a graph ask for.
use Rattle.std.specs.Prelude.{◌↔◌}
use Rattle.std.proofs.Common.{◌≡◌, ◌⊎◌, inl, inr, ℕ, ◌+◌, ◌<◌, ◌≤◌, Bool, true, false, Contains, List, [], ◌∷◌, ◌++◌, map, length, get_or, slice_get, take, option_map, Option, None, Some, IsSomeAnd, refl, ap, sym, ◌∙◌, subst, arith}
use Rattle.std.proofs.lemmas.Option.{same_Some, slice_get-get_or, slice_get-map, slice_get_within}
use Rattle.std.proofs.lemmas.List.{take_more, take_all}
use Rattle.std.proofs.lemmas.List.Elements.{Contains-append_left, Contains-push, Contains-push_cases}
use Rattle.dep_nodes.specs.declared.kinds.EdgeKind.TheVariants.{Heap}
use Rattle.dep_nodes.specs.declared.accesses.Access.{Access}
use Rattle.dep_nodes.specs.declared.accesses.Cell.{Cell}
use Rattle.dep_nodes.specs.declared.access_table.Accessor.{Accessor}
use Rattle.dep_nodes.specs.declared.access_table.CellAccesses.{CellAccesses}
use Rattle.dep_nodes.specs.declared.dependence_graph.GraphNode.{GraphNode}
use Rattle.dep_nodes.specs.GrowingGraphs.{HasAccess, IsAccessTable}
use Rattle.dep_nodes.proofs.ListedLemmas.{is_there, Has}
use Rattle.dep_nodes.proofs.OnceLemmas.{contains_at}
use Rattle.heap_deps.specs.declared.cell_edges.CellEnds.{CellEnds}
use Rattle.heap_deps.specs.Items.{Item, access, edge}
use Rattle.heap_deps.specs.Adds.{From}
use Rattle.heap_deps.specs.CellEdges.{writing, reading, IsThroughCell, IsHeapItem, LeadsBy, LeadsThrough, EdgesBetween, AreEndsOf}

-- ---- the ends of one cell

abbrev accessor_at : ℕ → Bool → Accessor
accessor_at n write = record { node = n; write = write }

pub nodes_none : (write : Bool) (n : ℕ) → Contains [] n ↔ Contains [] (accessor_at n write)
nodes_none write n = (λ c. absurd (omega (arith, c.1)), λ c. absurd (omega (arith, c.1)))

pub nodes_more : (accessors : List Accessor) (i : ℕ) (x : Accessor) (write : Bool) (old new : List ℕ) → i < length accessors → x ≡ get_or accessors i x → ((n : ℕ) → Contains old n ↔ Contains (take i accessors) (accessor_at n write))
    → ((n : ℕ) → Contains new n ↔ (Contains old n ⊎ (x ≡ accessor_at n write))) → (n : ℕ) → Contains new n ↔ Contains (take (i + 1) accessors) (accessor_at n write)
nodes_more accessors i x write old new below is before adds n = (λ c. subst (λ ys. Contains ys (accessor_at n write)) (sym taken) (there ((adds n).0 c)), λ c. (adds n).1 (back (Contains-push_cases (take i accessors) x (accessor_at n write) (subst (λ ys. Contains ys (accessor_at n write)) taken c))))
  where
    taken : take (i + 1) accessors ≡ take i accessors ++ x ∷ []
    taken = take_more accessors i x below ∙ ap (λ y. take i accessors ++ y ∷ []) (sym is)

    there : Contains old n ⊎ (x ≡ accessor_at n write) → Contains (take i accessors ++ x ∷ []) (accessor_at n write)
    there (inl c) = Contains-append_left (take i accessors) (x ∷ []) (accessor_at n write) ((before n).0 c)
    there (inr e) = subst (Contains (take i accessors ++ x ∷ [])) e (Contains-push (take i accessors) x)

    back : Contains (take i accessors) (accessor_at n write) ⊎ (x ≡ accessor_at n write) → Contains old n ⊎ (x ≡ accessor_at n write)
    back (inl c) = inl ((before n).1 c)
    back (inr e) = inr e

pub nodes_kept : (old new : List ℕ) (x : Accessor) (write : Bool) → new ≡ old ++ x.node ∷ [] → x.write ≡ write → (n : ℕ) → Contains new n ↔ (Contains old n ⊎ (x ≡ accessor_at n write))
nodes_kept old new x write made same n = (λ c. there (Contains-push_cases old x.node n (subst (λ ys. Contains ys n) made c)), back)
  where
    there : Contains old n ⊎ (x.node ≡ n) → Contains old n ⊎ (x ≡ accessor_at n write)
    there (inl c) = inl c
    there (inr e) = inr (ap (λ m. accessor_at m x.write) e ∙ ap (accessor_at n) same)

    back : Contains old n ⊎ (x ≡ accessor_at n write) → Contains new n
    back (inl c) = subst (λ ys. Contains ys n) (sym made) (Contains-append_left old (x.node ∷ []) n c)
    back (inr e) = subst (λ ys. Contains ys n) (sym made) (subst (Contains (old ++ x.node ∷ [])) (ap (λ (a : Accessor). a.node) e) (Contains-push old x.node))

pub nodes_passed : (old : List ℕ) (x : Accessor) (write : Bool) → (x.write ≡ write → ⊥) → (n : ℕ) → Contains old n ↔ (Contains old n ⊎ (x ≡ accessor_at n write))
nodes_passed old x write other n = (λ c. inl c, back)
  where
    back : Contains old n ⊎ (x ≡ accessor_at n write) → Contains old n
    back (inl c) = c
    back (inr e) = absurd (other (ap (λ (a : Accessor). a.write) e))

-- ---- the ends of all cells

abbrev Through : CellEnds → ℕ × ℕ → Type 0
Through ends p = LeadsThrough ends p.0 p.1

abbrev By : CellAccesses → ℕ × ℕ → Type 0
By at p = LeadsBy at.accessors p.0 p.1

pub ends_none : AreEndsOf [] []
ends_none pair = (λ from. absurd (let (x, c, leads) = from in omega (arith, c.1)), λ from. absurd (let (x, c, leads) = from in omega (arith, c.1)))

pub ends_more : (cells : List CellAccesses) (i : ℕ) (x : CellAccesses) (ends : CellEnds) (old new : List CellEnds) → i < length cells → x ≡ get_or cells i x → AreEndsOf (take i cells) old → new ≡ old ++ ends ∷ []
    → ((from to : ℕ) → LeadsThrough ends from to ↔ LeadsBy x.accessors from to) → AreEndsOf (take (i + 1) cells) new
ends_more cells i x ends old new below is before made leads pair = (there, back)
  where
    taken : take (i + 1) cells ≡ take i cells ++ x ∷ []
    taken = take_more cells i x below ∙ ap (λ y. take i cells ++ y ∷ []) (sym is)

    earlier : From (take i cells) By pair → From (take (i + 1) cells) By pair
    earlier (at, c, by) = (at, subst (λ ys. Contains ys at) (sym taken) (Contains-append_left (take i cells) (x ∷ []) at c), by)

    there : From new Through pair → From (take (i + 1) cells) By pair
    there (e, c, through) = elim (Contains-push_cases old ends e (subst (λ ys. Contains ys e) made c)) [
      | inl was ↦ earlier ((before pair).0 (e, was, through))
      | inr same ↦ (x, subst (λ ys. Contains ys x) (sym taken) (Contains-push (take i cells) x), (leads pair.0 pair.1).0 (subst (λ f. Through f pair) (sym same) through))
    ]

    later : From old Through pair → From new Through pair
    later (e, c, through) = (e, subst (λ ys. Contains ys e) (sym made) (Contains-append_left old (ends ∷ []) e c), through)

    back : From (take (i + 1) cells) By pair → From new Through pair
    back (at, c, by) = elim (Contains-push_cases (take i cells) x at (subst (λ ys. Contains ys at) taken c)) [
      | inl was ↦ later ((before pair).1 (at, was, by))
      | inr same ↦ (ends, subst (λ ys. Contains ys ends) (sym made) (Contains-push old ends), (leads pair.0 pair.1).1 (subst (λ f. By f pair) (sym same) by))
    ]

pub ends_all : (cells : List CellAccesses) (i : ℕ) (all : List CellEnds) → length cells ≤ i → AreEndsOf (take i cells) all → AreEndsOf cells all
ends_all cells i all past are = subst (λ ys. AreEndsOf ys all) (take_all i cells past) are

-- ---- and the accesses of the graph

module _ (rows : List GraphNode) (cells : List CellAccesses) (table : IsAccessTable rows cells) where
  -- the cell with its accesses is at a place
  at_place : (at : CellAccesses) → Contains cells at → (k : ℕ) × (slice_get cells k ≡ Some at)
  at_place at (k, below, is) = (k, slice_get-get_or cells k at below ∙ ap (λ y. Some y) is)

  access_there : (at : CellAccesses) → Contains cells at → (n : ℕ) (write : Bool) → Contains at.accessors (accessor_at n write) → HasAccess rows n (record { cell = at.cell; write = write })
  access_there at among n write c =
      let (k, is) = at_place at among in
      table.there n (record { cell = at.cell; write = write }) (k, subst (λ (o : Option CellAccesses). IsSomeAnd o (Has at.cell (accessor_at n write))) (sym is) (refl, c))

  pub through_told : (from to : ℕ) → From cells By (from, to) ↔ IsThroughCell rows from to
  through_told from to = (there, back)
    where
      there : From cells By (from, to) → IsThroughCell rows from to
      there (at, among, by) = record { cell = at.cell; writes = access_there at among from true by.0; reads = access_there at among to false by.1 }

      name_at : (k : ℕ) (x : CellAccesses) → slice_get cells k ≡ Some x → slice_get (map (λ (at : CellAccesses). at.cell) cells) k ≡ Some x.cell
      name_at k x is = slice_get-map (λ (at : CellAccesses). at.cell) cells k ∙ ap (option_map (λ (at : CellAccesses). at.cell)) is

      same_item : (k l : ℕ) (x y : CellAccesses) (cell : Cell) → slice_get cells k ≡ Some x → slice_get cells l ≡ Some y → x.cell ≡ cell → y.cell ≡ cell → x ≡ y
      same_item k l x y cell at_k at_l named_x named_y =
          let same : k ≡ l = table.cells_once k l cell (name_at k x at_k ∙ ap (λ c. Some c) named_x) (name_at l y at_l ∙ ap (λ c. Some c) named_y) in
          same_Some x y (sym at_k ∙ ap (slice_get cells) same ∙ at_l)

      back : IsThroughCell rows from to → From cells By (from, to)
      back through =
          let (k, at_k) = table.listed from (writing through.cell) through.writes in
          let (l, at_l) = table.listed to (reading through.cell) through.reads in
          let w = is_there (Has through.cell (accessor_at from true)) (slice_get cells k) at_k in
          let r = is_there (Has through.cell (accessor_at to false)) (slice_get cells l) at_l in
          let same : w.item ≡ r.item = same_item k l w.item r.item through.cell w.is r.is w.holds.0 r.holds.0 in
          (w.item, contains_at cells k w.item w.is, (w.holds.1, subst (λ (a : CellAccesses). Contains a.accessors (accessor_at to false)) (sym same) r.holds.1))

  pub edges_told : (all : List CellEnds) → AreEndsOf cells all → (x : Item) → IsHeapItem rows x ↔ From all EdgesBetween x
  edges_told all are x = (there x, back)
    where
      between : (from to : ℕ) → From all Through (from, to) → From all EdgesBetween (edge from Heap to)
      between from to (e, c, through) = (e, c, (from, through.0, (to, through.1, refl)))

      there : (x : Item) → IsHeapItem rows x → From all EdgesBetween x
      there (access n a) none = absurd none
      there (edge from kind to) (is, through) = subst (λ k. From all EdgesBetween (edge from k to)) (sym is) (between from to ((are (from, to)).1 ((through_told from to).1 through)))

      back : From all EdgesBetween x → IsHeapItem rows x
      back (e, c, (from, writes, (to, reads, is))) = subst (IsHeapItem rows) (sym is) (refl, (through_told from to).0 ((are (from, to)).0 (e, c, (writes, reads))))

  -- the ends are nodes of the graph
  access_inside : (n : ℕ) (a : Access) → HasAccess rows n a → n < length rows
  access_inside n a has = within n (slice_get rows n) refl has
    where
      within : (n : ℕ) (o : Option GraphNode) → slice_get rows n ≡ o → IsSomeAnd o (λ (node : GraphNode). Contains node.accesses a) → n < length rows
      within n None is has = absurd has
      within n (Some node) is has = slice_get_within rows n node is

  pub ends_inside : (all : List CellEnds) → AreEndsOf cells all → (ends : CellEnds) (from to : ℕ) → Contains all ends → LeadsThrough ends from to → (from < length rows) × (to < length rows)
  ends_inside all are ends from to among leads =
      let through = (through_told from to).0 ((are (from, to)).0 (ends, among, leads)) in
      (access_inside from (writing through.cell) through.writes, access_inside to (reading through.cell) through.reads)

pub both_sides : {P Q : Type 0} → P ↔ Q → Q ↔ P
both_sides told = (told.1, told.0)

-- The table of a graph's cells, as the graph grows.
use Rattle.std.specs.List.{AllByRecursion}
use Rattle.std.proofs.Common.{◌≡◌, ◌⊎◌, inl, inr, ℕ, ◌+◌, ◌<◌, Contains, get_or, List, [], ◌∷◌, ◌++◌, length, slice_get, slice_set, Option, Some, IsSomeAnd, refl, ap, sym, ◌∙◌, subst, arith}
use Rattle.std.proofs.lemmas.List.Elements.{Contains-append_left, Contains-append_cases}
use Rattle.dep_nodes.specs.declared.graphs.NodeName.{NodeName}
use Rattle.dep_nodes.specs.declared.accesses.Access.{Access}
use Rattle.dep_nodes.specs.declared.access_table.Accessor.{Accessor}
use Rattle.dep_nodes.specs.declared.access_table.CellAccesses.{CellAccesses}
use Rattle.dep_nodes.specs.declared.dependence_graph.GraphNode.{GraphNode}
use Rattle.dep_nodes.specs.OneForm.{plain_cell}
use Rattle.dep_nodes.specs.AccessTables.{IsListed, ListsAccess}
use Rattle.dep_nodes.specs.GrowingGraphs.{bare, size_at, graph_size, IsInside, HasAccess, HasAccessor, IsAccessTable, IsGrownGraph}
use Rattle.std.proofs.lemmas.List.Sums.{sum_by-set}
use Rattle.std.proofs.lemmas.Option.{slice_get_within, get_or_from_slice_get}
use Rattle.dep_nodes.proofs.GrowingLemmas.{IsAt, all_found, all_push, inside_set}
use Rattle.dep_nodes.proofs.ListedLemmas.{Has, is_there, set_keeps, set_puts, set_had, push_keeps, push_had, only_one, last_there, listed_kept, listed_now, listed_had, cells_stay_once, accessors_stay_once, all_used, all_stay}

abbrev by : ℕ → Access → Accessor
by n access = record { node = n; write = access.write }

abbrev Accesses : Access → GraphNode → Type 0
Accesses access node = Contains node.accesses access

none_in_none : {A : Type 0} (x : A) → Contains [] x → ⊥
none_in_none x there = absurd (omega (arith, there.1))

table_of_same : (nodes more : List GraphNode) (cells : List CellAccesses) → ((n : ℕ) (access : Access) → HasAccess nodes n access → HasAccess more n access) → ((n : ℕ) (access : Access) → HasAccess more n access → HasAccess nodes n access) → IsAccessTable nodes cells → IsAccessTable more cells
table_of_same nodes more cells kept had table = record {
  listed = λ n access there. table.listed n access (had n access there);
  there = λ n access there. kept n access (table.there n access there);
  cells_once = table.cells_once;
  accessors_once = table.accessors_once;
  used = table.used;
  plain = table.plain;
}

pub table_of_push : (nodes : List GraphNode) (name : NodeName) (cells : List CellAccesses) → IsAccessTable nodes cells → IsAccessTable (nodes ++ bare name ∷ []) cells
table_of_push nodes name cells table =
    table_of_same nodes (nodes ++ bare name ∷ []) cells
    (λ n access there. push_keeps (Accesses access) nodes n (bare name) there)
    (λ n access there. before n access (push_had (Accesses access) nodes n (bare name) there))
    table
  where
    before : (n : ℕ) (access : Access) → IsSomeAnd (slice_get nodes n) (Accesses access) ⊎ Contains [] access → HasAccess nodes n access
    before n access (inl there) = there
    before n access (inr none) = absurd (none_in_none access none)

pub table_of_set : (nodes : List GraphNode) (n : ℕ) (node more : GraphNode) (cells : List CellAccesses) → slice_get nodes n ≡ Some node → more.accesses ≡ node.accesses → IsAccessTable nodes cells → IsAccessTable (slice_set nodes n more) cells
table_of_set nodes n node more cells found same table =
    table_of_same nodes (slice_set nodes n more) cells
    (λ m access there. set_keeps (Accesses access) nodes n m node more found (subst (λ xs. Contains xs access) (sym same)) there)
    (λ m access there. before m access (set_had (Accesses access) nodes n m more there))
    table
  where
    here : (access : Access) → Accesses access node → HasAccess nodes n access
    here access there = subst (λ (o : Option GraphNode). IsSomeAnd o (Accesses access)) (sym found) there

    before : (m : ℕ) (access : Access) → IsSomeAnd (slice_get nodes m) (Accesses access) ⊎ ((m ≡ n) × Accesses access more) → HasAccess nodes m access
    before m access (inl there) = there
    before m access (inr there) = subst (λ k. HasAccess nodes k access) (sym there.0) (here access (subst (λ xs. Contains xs access) same there.1))

-- the node there has the access besides, and so has the table
pub table_grows : (nodes : List GraphNode) (n : ℕ) (node more : GraphNode) (old new : List CellAccesses) (access : Access) → IsAccessTable nodes old → slice_get nodes n ≡ Some node → more.accesses ≡ node.accesses ++ access ∷ [] → (Contains node.accesses access → ⊥) → plain_cell access.cell ≡ access.cell → ListsAccess old new access.cell (record { node = n; write = access.write }) → IsAccessTable (slice_set nodes n more) new
table_grows nodes n node more old new access table found made absent plain lists = record {
  listed = λ m a there. listed m a (set_had (Accesses a) nodes n m more there);
  there = λ m a there. stands m a (listed_had old new access.cell (by n access) lists a.cell (by m a) there);
  cells_once = cells_stay_once old new access.cell (by n access) lists table.cells_once;
  accessors_once = accessors_stay_once old new access.cell (by n access) lists (λ there. absent (here access (table.there n access there))) table.accessors_once;
  used = all_used old new access.cell (by n access) lists table.used;
  plain = all_stay (λ at. plain_cell at.cell ≡ at.cell) old new access.cell (by n access) lists (λ k x is named same. same) plain table.plain;
}
  where
    here : (a : Access) → HasAccess nodes n a → Accesses a node
    here a there = subst (λ (o : Option GraphNode). IsSomeAnd o (Accesses a)) found there

    old_here : (a : Access) → Accesses a node → HasAccess nodes n a
    old_here a there = subst (λ (o : Option GraphNode). IsSomeAnd o (Accesses a)) (sym found) there

    at_node : (a : Access) → Contains node.accesses a ⊎ Contains (access ∷ []) a → HasAccessor new n a
    at_node a (inl before) = listed_kept old new access.cell (by n access) lists a.cell (by n a) (table.listed n a (old_here a before))
    at_node a (inr this) = subst (λ x. HasAccessor new n x) (sym (only_one access a this)) (listed_now old new access.cell (by n access) lists)

    listed : (m : ℕ) (a : Access) → IsSomeAnd (slice_get nodes m) (Accesses a) ⊎ ((m ≡ n) × Accesses a more) → HasAccessor new m a
    listed m a (inl before) = listed_kept old new access.cell (by n access) lists a.cell (by m a) (table.listed m a before)
    listed m a (inr there) = subst (λ k. HasAccessor new k a) (sym there.0) (at_node a (Contains-append_cases node.accesses (access ∷ []) a (subst (λ xs. Contains xs a) made there.1)))

    this_access : (m : ℕ) (a : Access) → a.cell ≡ access.cell → by m a ≡ by n access → a ≡ access
    this_access m a cell by_it = ap (λ c. record { cell = c; write = a.write }) cell ∙ ap (λ w. record { cell = access.cell; write = w }) (ap (λ x. x.write) by_it)

    now : HasAccess (slice_set nodes n more) n access
    now = set_puts (Accesses access) nodes n node more found (subst (λ xs. Contains xs access) (sym made) (last_there node.accesses access))

    stands : (m : ℕ) (a : Access) → IsListed old a.cell (by m a) ⊎ ((a.cell ≡ access.cell) × (by m a ≡ by n access)) → HasAccess (slice_set nodes n more) m a
    stands m a (inl before) = set_keeps (Accesses a) nodes n m node more found (λ there. subst (λ xs. Contains xs a) (sym made) (Contains-append_left node.accesses (access ∷ []) a there)) (table.there m a before)
    stands m a (inr this) =
        subst (λ k. HasAccess (slice_set nodes n more) k a) (sym (ap (λ x. x.node) this.1))
        (subst (λ x. HasAccess (slice_set nodes n more) n x) (sym (this_access m a this.0 this.1)) now)

-- ---- the graph, where a node gets other flow edges

-- the node there is another with the same accesses, whose edges are between the nodes
pub graph_with : (nodes : List GraphNode) (n : ℕ) (node more : GraphNode) (cells : List CellAccesses) (count size : ℕ) → slice_get nodes n ≡ Some node → size_at more ≡ size_at node → more.accesses ≡ node.accesses → IsInside (length nodes) more → IsGrownGraph nodes cells count size → IsGrownGraph (slice_set nodes n more) cells count size
graph_with nodes n node more cells count size found same_size same inside graph =
    let below : n < length nodes = slice_get_within nodes n node found in
    let there : get_or nodes n node ≡ node = get_or_from_slice_get nodes n node node found in
    let sizes : graph_size (slice_set nodes n more) + size_at (get_or nodes n node) ≡ graph_size nodes + size_at more = sum_by-set size_at nodes n more node below in
    record {
      nodes_within = graph.nodes_within;
      counted = omega (arith, sizes, ap size_at there, same_size, graph.counted);
      edges_within = graph.edges_within;
      inside = inside_set nodes n more graph.inside inside;
      table = table_of_set nodes n node more cells found same graph.table;
    }

pub graph_with_flow : (nodes old : List GraphNode) (n from : ℕ) (node : GraphNode) (cells : List CellAccesses) (count size : ℕ) → IsAt nodes old n from node → (to : ℕ) (flows : List ℕ) → (flows ≡ node.flows) ⊎ (flows ≡ node.flows ++ to ∷ []) → to < length old → IsGrownGraph nodes cells count size → IsGrownGraph (slice_set nodes n (record node { flows = flows })) cells count size
graph_with_flow nodes old n from node cells count size is to flows made below graph =
    let there : IsInside (length nodes) node = all_found (IsInside (length nodes)) nodes n node graph.inside is.found in
    let ends : to < length nodes = subst (λ ns. to < length ns) (sym is.same) below in
    graph_with nodes n node (record node { flows = flows }) cells count size is.found refl refl (record { edges = there.edges; flows = within there.flows ends made }) graph
  where
    within : AllByRecursion (λ end. end < length nodes) node.flows → to < length nodes → (flows ≡ node.flows) ⊎ (flows ≡ node.flows ++ to ∷ []) → AllByRecursion (λ end. end < length nodes) flows
    within all ends (inl same) = subst (AllByRecursion (λ end. end < length nodes)) (sym same) all
    within all ends (inr more) = subst (AllByRecursion (λ end. end < length nodes)) (sym more) (all_push (λ end. end < length nodes) node.flows to all ends)

-- ---- the one form of what a node accesses

pub plain_access : (nodes : List GraphNode) (cells : List CellAccesses) → IsAccessTable nodes cells → (n : ℕ) (access : Access) → HasAccess nodes n access → plain_cell access.cell ≡ access.cell
plain_access nodes cells table n access has =
    let listed : HasAccessor cells n access = table.listed n access has in
    let at = is_there (Has access.cell (by n access)) (slice_get cells listed.0) listed.1 in
    subst (λ cell. plain_cell cell ≡ cell) at.holds.0 (all_found (λ x. plain_cell x.cell ≡ x.cell) cells listed.0 at.item table.plain at.is)

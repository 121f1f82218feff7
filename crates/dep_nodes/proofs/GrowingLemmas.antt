-- What a graph has after one more edge or access.
use Rattle.std.specs.List.{AllByRecursion}
use Rattle.std.proofs.Common.{◌≡◌, ◌↔◌, ℕ, zero, suc, ◌<◌, Bool, true, false, IsTrue, All, Contains, List, [], ◌∷◌, ◌++◌, length, get_or, slice_get, slice_set, Option, Some, IsSomeAnd, refl, ap, sym, ◌∙◌, subst, arith, ◌+◌, length-append}
use Rattle.std.proofs.lemmas.Option.{slice_get_read, slice_get_within, get_or_from_slice_get}
use Rattle.std.proofs.lemmas.List.Sums.{sum_by_push, sum_by-set}
use Rattle.std.proofs.lemmas.List.{length-set}
use Rattle.dep_nodes.specs.declared.kinds.EdgeKind.{EdgeKind}
use Rattle.dep_nodes.specs.declared.graphs.NodeName.{NodeName}
use Rattle.dep_nodes.specs.declared.accesses.Access.{Access}
use Rattle.dep_nodes.specs.declared.dependence_graph.GraphNode.{GraphNode}
use Rattle.dep_nodes.specs.GrowingGraphs.{bare, size_at, graph_size, IsInside, HasIdsInside, AppendsNew, AddsEdge, AddsFlow, AddsAccess}

-- ---- what a test of a node's list says

abbrev Is_true : Bool → Type 0
Is_true true = Unit {0}
Is_true false = ⊥

pub has : {A : Type 0} (b : Bool) (seen items : List A) (item : A) → seen ≡ items → IsTrue b ↔ Contains seen item → b ≡ true → Contains items item
has b seen items item same told found = subst (λ xs. Contains xs item) same (told.0 found)

pub lacks : {A : Type 0} (b : Bool) (seen items : List A) (item : A) → seen ≡ items → IsTrue b ↔ Contains seen item → b ≡ false → Contains items item → ⊥
lacks b seen items item same told missing there =
    let found : b ≡ true = told.1 (subst (λ xs. Contains xs item) (sym same) there) in
    subst Is_true (sym found ∙ missing) tt

-- ---- the node at a number

pub record IsAt (nodes old : List GraphNode) (n at : ℕ) (node : GraphNode) : Type 0 where
  pub same : nodes ≡ old
  pub number : n ≡ at
  pub found : slice_get nodes n ≡ Some node

pub is_at : (nodes old : List GraphNode) (n at : ℕ) (node : GraphNode) → nodes ≡ old → n ≡ at → n < length nodes → node ≡ get_or nodes n node → IsAt nodes old n at node
is_at nodes old n at node same number below is = record { same = same; number = number; found = slice_get_read nodes (length nodes) n node refl below is }

pub holds_at : (P : GraphNode → Type 0) (nodes old : List GraphNode) (n at : ℕ) (node : GraphNode) → IsAt nodes old n at node → P node → IsSomeAnd (slice_get old at) P
holds_at P nodes old n at node is p =
    subst (λ ns. IsSomeAnd (slice_get ns at) P) is.same
    (subst (λ k. IsSomeAnd (slice_get nodes k) P) is.number (subst (λ (o : Option GraphNode). IsSomeAnd o P) (sym is.found) p))

pub held_at : (P : GraphNode → Type 0) (nodes old : List GraphNode) (n at : ℕ) (node : GraphNode) → IsAt nodes old n at node → IsSomeAnd (slice_get old at) P → P node
held_at P nodes old n at node is p =
    subst (λ (o : Option GraphNode). IsSomeAnd o P) is.found
    (subst (λ k. IsSomeAnd (slice_get nodes k) P) (sym is.number) (subst (λ ns. IsSomeAnd (slice_get ns at) P) (sym is.same) p))

pub edge_added : (nodes old : List GraphNode) (n to : ℕ) (node : GraphNode) → IsAt nodes old n to node → (from : ℕ) (kind : EdgeKind) (edges : List (ℕ × EdgeKind)) → AppendsNew node.edges (from, kind) edges → AddsEdge old (slice_set nodes n (record node { edges = edges })) from kind to
edge_added nodes old n to node is from kind edges appends =
    let new = slice_set nodes n (record node { edges = edges }) in
    subst (λ ns. AddsEdge ns new from kind to) is.same
    (subst (λ k. AddsEdge nodes new from kind k) is.number
    (subst (λ (o : Option GraphNode). IsSomeAnd o (λ (x : GraphNode). (es : List (ℕ × EdgeKind)) × AppendsNew x.edges (from, kind) es × (new ≡ slice_set nodes n (record x { edges = es })))) (sym is.found) (edges, appends, refl)))

pub flow_added : (nodes old : List GraphNode) (n from : ℕ) (node : GraphNode) → IsAt nodes old n from node → (to : ℕ) (flows : List ℕ) → AppendsNew node.flows to flows → AddsFlow old (slice_set nodes n (record node { flows = flows })) from to
flow_added nodes old n from node is to flows appends =
    let new = slice_set nodes n (record node { flows = flows }) in
    subst (λ ns. AddsFlow ns new from to) is.same
    (subst (λ k. AddsFlow nodes new k to) is.number
    (subst (λ (o : Option GraphNode). IsSomeAnd o (λ (x : GraphNode). (fs : List ℕ) × AppendsNew x.flows to fs × (new ≡ slice_set nodes n (record x { flows = fs })))) (sym is.found) (flows, appends, refl)))

pub access_added : (nodes old : List GraphNode) (n at : ℕ) (node : GraphNode) → IsAt nodes old n at node → (access : Access) (accesses : List Access) → AppendsNew node.accesses access accesses → AddsAccess old (slice_set nodes n (record node { accesses = accesses })) at access
access_added nodes old n at node is access accesses appends =
    let new = slice_set nodes n (record node { accesses = accesses }) in
    subst (λ ns. AddsAccess ns new at access) is.same
    (subst (λ k. AddsAccess nodes new k access) is.number
    (subst (λ (o : Option GraphNode). IsSomeAnd o (λ (x : GraphNode). (xs : List Access) × AppendsNew x.accesses access xs × (new ≡ slice_set nodes n (record x { accesses = xs })))) (sym is.found) (accesses, appends, refl)))

-- ---- edges between nodes of the graph

pub all_weaker : {A : Type 0} (P Q : A → Type 0) (xs : List A) → ((x : A) → P x → Q x) → AllByRecursion P xs → AllByRecursion Q xs
all_weaker P Q [] to all = tt
all_weaker P Q (x ∷ xs) to all = (to x all.0, all_weaker P Q xs to all.1)

pub all_push : {A : Type 0} (P : A → Type 0) (xs : List A) (x : A) → AllByRecursion P xs → P x → AllByRecursion P (xs ++ x ∷ [])
all_push P [] x all p = (p, tt)
all_push P (y ∷ xs) x all p = (all.0, all_push P xs x all.1 p)

pub all_set : {A : Type 0} (P : A → Type 0) (xs : List A) (n : ℕ) (x : A) → AllByRecursion P xs → P x → AllByRecursion P (slice_set xs n x)
all_set P [] n x all p = tt
all_set P (y ∷ xs) zero x all p = (p, all.1)
all_set P (y ∷ xs) (suc n) x all p = (all.0, all_set P xs n x all.1 p)

pub all_found : {A : Type 0} (P : A → Type 0) (xs : List A) (n : ℕ) (x : A) → AllByRecursion P xs → slice_get xs n ≡ Some x → P x
all_found {A} P [] n x all found = absurd (cc)
all_found {A} P (y ∷ xs) zero x all found = subst (λ (o : Option A). IsSomeAnd o P) found all.0
all_found {A} P (y ∷ xs) (suc n) x all found = all_found P xs n x all.1 found

pub all_by_place : {A : Type 0} (P : A → Type 0) (xs : List A) → AllByRecursion P xs → All P xs
all_by_place P [] all k d below = absurd (omega arith)
all_by_place P (x ∷ xs) all zero d below = all.0
all_by_place P (x ∷ xs) all (suc k) d below = all_by_place P xs all.1 k d (omega arith)

pub inside_of_more : (count : ℕ) (node : GraphNode) → IsInside count node → IsInside (count + 1) node
inside_of_more count node inside = record {
  edges = all_weaker (λ edge. edge.0 < count) (λ edge. edge.0 < count + 1) node.edges (λ edge below. omega arith) inside.edges;
  flows = all_weaker (λ end. end < count) (λ end. end < count + 1) node.flows (λ end below. omega arith) inside.flows;
}

pub inside_push : (nodes : List GraphNode) (name : NodeName) → HasIdsInside nodes → HasIdsInside (nodes ++ bare name ∷ [])
inside_push nodes name inside =
    let count : length (nodes ++ bare name ∷ []) ≡ length nodes + 1 = simp (length-append) (omega arith) in
    subst (λ k. AllByRecursion (IsInside k) (nodes ++ bare name ∷ [])) (sym count)
    (all_push (IsInside (length nodes + 1)) nodes (bare name) (all_weaker (IsInside (length nodes)) (IsInside (length nodes + 1)) nodes (inside_of_more (length nodes)) inside) (record { edges = tt; flows = tt }))

pub inside_set : (nodes : List GraphNode) (n : ℕ) (node : GraphNode) → HasIdsInside nodes → IsInside (length nodes) node → HasIdsInside (slice_set nodes n node)
inside_set nodes n node inside there =
    subst (λ k. AllByRecursion (IsInside k) (slice_set nodes n node)) (sym (length-set nodes n node)) (all_set (IsInside (length nodes)) nodes n node inside there)

pub inside_edge : (nodes old : List GraphNode) (n to : ℕ) (node : GraphNode) → IsAt nodes old n to node → HasIdsInside nodes → (from : ℕ) (kind : EdgeKind) (edges : List (ℕ × EdgeKind)) → edges ≡ node.edges ++ (from, kind) ∷ [] → from < length old → HasIdsInside (slice_set nodes n (record node { edges = edges }))
inside_edge nodes old n to node is inside from kind edges made below =
    let there : IsInside (length nodes) node = all_found (IsInside (length nodes)) nodes n node inside is.found in
    let begins : from < length nodes = subst (λ ns. from < length ns) (sym is.same) below in
    let all : AllByRecursion (λ edge. edge.0 < length nodes) edges = subst (AllByRecursion (λ edge. edge.0 < length nodes)) (sym made) (all_push (λ edge. edge.0 < length nodes) node.edges (from, kind) there.edges begins) in
    inside_set nodes n (record node { edges = edges }) inside (record { edges = all; flows = there.flows })

pub inside_flow : (nodes old : List GraphNode) (n from : ℕ) (node : GraphNode) → IsAt nodes old n from node → HasIdsInside nodes → (to : ℕ) (flows : List ℕ) → flows ≡ node.flows ++ to ∷ [] → to < length old → HasIdsInside (slice_set nodes n (record node { flows = flows }))
inside_flow nodes old n from node is inside to flows made below =
    let there : IsInside (length nodes) node = all_found (IsInside (length nodes)) nodes n node inside is.found in
    let ends : to < length nodes = subst (λ ns. to < length ns) (sym is.same) below in
    let all : AllByRecursion (λ end. end < length nodes) flows = subst (AllByRecursion (λ end. end < length nodes)) (sym made) (all_push (λ end. end < length nodes) node.flows to there.flows ends) in
    inside_set nodes n (record node { flows = flows }) inside (record { edges = there.edges; flows = all })

-- ---- how many edges and accesses there are

pub size_pushed : (nodes : List GraphNode) (name : NodeName) → graph_size (nodes ++ bare name ∷ []) ≡ graph_size nodes
size_pushed nodes name = let e : graph_size (nodes ++ bare name ∷ []) ≡ graph_size nodes + size_at (bare name) = sum_by_push size_at nodes (bare name) in omega (arith, e)

pub size_set : (nodes old : List GraphNode) (n at : ℕ) (node new : GraphNode) → IsAt nodes old n at node → size_at new ≡ size_at node + 1 → graph_size (slice_set nodes n new) ≡ graph_size nodes + 1
size_set nodes old n at node new is more =
    let below : n < length nodes = slice_get_within nodes n node is.found in
    let there : get_or nodes n node ≡ node = get_or_from_slice_get nodes n node node is.found in
    let e : graph_size (slice_set nodes n new) + size_at (get_or nodes n node) ≡ graph_size nodes + size_at new = sum_by-set size_at nodes n new node below in
    omega (arith, e, ap size_at there, more)

pub one_more : {A : Type 0} (xs ys : List A) (x : A) → ys ≡ xs ++ x ∷ [] → length ys ≡ length xs + 1
one_more xs ys x made = rw made (simp (length-append) (omega arith))

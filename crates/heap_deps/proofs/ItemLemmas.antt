-- What a graph has after one more access or edge.
use Rattle.std.specs.Prelude.{OnOk, OnErr, ◌↔◌}
use Rattle.std.proofs.Common.{◌≡◌, ◌⊎◌, inl, inr, ℕ, Contains, List, [], ◌∷◌, ◌++◌, map, slice_get, slice_set, Option, Some, IsSomeAnd, Result, Ok, Err, refl, ap, sym, ◌∙◌, subst}
use Rattle.std.proofs.lemmas.Option.{get_or_from_slice_get}
use Rattle.std.proofs.lemmas.List.Elements.{Contains-append_left, Contains-push, Contains-push_cases}
use Rattle.std.proofs.Math.Seq.{map-set_same}
use Rattle.dep_nodes.specs.declared.kinds.EdgeKind.{EdgeKind}
use Rattle.dep_nodes.specs.declared.accesses.Access.{Access}
use Rattle.dep_nodes.specs.declared.dependence_graph.GraphNode.{GraphNode}
use Rattle.dep_nodes.specs.declared.dependence_graph.GraphFault.{GraphFault}
use Rattle.dep_nodes.specs.declared.dependence_graph.GraphFault.TheVariants.{Limit, Memory}
use Rattle.dep_nodes.specs.OnceLists.{IsOnceEach}
use Rattle.dep_nodes.specs.GrowingGraphs.{HasAccess, HasEdge, HasMostEdges, AppendsNew, AddsAccess, AddsEdge, IsLimitedWhere}
use Rattle.dep_nodes.proofs.GrowingLemmas.{all_set, all_found}
use Rattle.dep_nodes.proofs.ListedLemmas.{is_there, set_keeps, set_puts, set_had}
use Rattle.dep_nodes.proofs.OnceLemmas.{once_push}
use Rattle.heap_deps.specs.Items.{Item, access, edge, HasItem, frame, IsRowOnce, Grows, GrowsPartly, IsFull, GrowsOrStops}

-- ---- a list with one more item

pub appends_once : {A : Type 0} (xs ys : List A) (x : A) → AppendsNew xs x ys → IsOnceEach xs → IsOnceEach ys
appends_once xs ys x (inl (has, same)) once = subst IsOnceEach (sym same) once
appends_once xs ys x (inr (lacks, made)) once = subst IsOnceEach (sym made) (once_push xs x once lacks)

pub appends_has : {A : Type 0} (xs ys : List A) (x : A) → AppendsNew xs x ys → (y : A) → Contains ys y ↔ (Contains xs y ⊎ (y ≡ x))
appends_has xs ys x (inl (has, same)) y = (λ c. inl (subst (λ zs. Contains zs y) same c), back)
  where
    back : Contains xs y ⊎ (y ≡ x) → Contains ys y
    back (inl c) = subst (λ zs. Contains zs y) (sym same) c
    back (inr e) = subst (λ zs. Contains zs y) (sym same) (subst (Contains xs) (sym e) has)
appends_has xs ys x (inr (lacks, made)) y = (λ c. there (Contains-push_cases xs x y (subst (λ zs. Contains zs y) made c)), back)
  where
    there : Contains xs y ⊎ (x ≡ y) → Contains xs y ⊎ (y ≡ x)
    there (inl c) = inl c
    there (inr e) = inr (sym e)

    back : Contains xs y ⊎ (y ≡ x) → Contains ys y
    back (inl c) = subst (λ zs. Contains zs y) (sym made) (Contains-append_left xs (x ∷ []) y c)
    back (inr e) = subst (λ zs. Contains zs y) (sym made) (subst (Contains (xs ++ x ∷ [])) (sym e) (Contains-push xs x))

-- ---- a row that changes

module _ (old : List GraphNode) (n : ℕ) (node row : GraphNode) (found : slice_get old n ≡ Some node) where
  frames_same : frame row ≡ frame node → map frame (slice_set old n row) ≡ map frame old
  frames_same same = map-set_same frame old n row node (same ∙ ap frame (sym (get_or_from_slice_get old n node node found)))

  -- what is true of rows in the old graph and in the new one
  same_there : (P : GraphNode → Type 0) → P row ↔ P node → (k : ℕ) → IsSomeAnd (slice_get (slice_set old n row) k) P ↔ IsSomeAnd (slice_get old k) P
  same_there P same k = (λ now. there (set_had P old n k row now), λ was. set_keeps P old n k node row found same.1 was)
    where
      there : IsSomeAnd (slice_get old k) P ⊎ ((k ≡ n) × P row) → IsSomeAnd (slice_get old k) P
      there (inl was) = was
      there (inr (here, now)) = subst (λ j. IsSomeAnd (slice_get old j) P) (sym here) (subst (λ (o : Option GraphNode). IsSomeAnd o P) (sym found) (same.0 now))

  more_there : (P : GraphNode → Type 0) (Q : Type 0) → P row ↔ (P node ⊎ Q) → (k : ℕ) → IsSomeAnd (slice_get (slice_set old n row) k) P ↔ (IsSomeAnd (slice_get old k) P ⊎ ((k ≡ n) × Q))
  more_there P Q more k = (λ now. there (set_had P old n k row now), back)
    where
      here_now : k ≡ n → P node ⊎ Q → IsSomeAnd (slice_get old k) P ⊎ ((k ≡ n) × Q)
      here_now here (inl was) = inl (subst (λ j. IsSomeAnd (slice_get old j) P) (sym here) (subst (λ (o : Option GraphNode). IsSomeAnd o P) (sym found) was))
      here_now here (inr q) = inr (here, q)

      there : IsSomeAnd (slice_get old k) P ⊎ ((k ≡ n) × P row) → IsSomeAnd (slice_get old k) P ⊎ ((k ≡ n) × Q)
      there (inl was) = inl was
      there (inr (here, now)) = here_now here (more.0 now)

      back : IsSomeAnd (slice_get old k) P ⊎ ((k ≡ n) × Q) → IsSomeAnd (slice_get (slice_set old n row) k) P
      back (inl was) = set_keeps P old n k node row found (λ p. more.1 (inl p)) was
      back (inr (here, q)) = subst (λ j. IsSomeAnd (slice_get (slice_set old n row) j) P) (sym here) (set_puts P old n node row found (more.1 (inr q)))

-- ---- one access more

access_items : (old : List GraphNode) (n : ℕ) (a : Access) (node : GraphNode) (accesses : List Access) → slice_get old n ≡ Some node → AppendsNew node.accesses a accesses
    → (x : Item) → HasItem (slice_set old n (record node { accesses = accesses })) x ↔ (HasItem old x ⊎ (x ≡ access n a))
access_items old n a node accesses found appends (access k b) = (λ now. there (told.0 now), back)
  where
    row : GraphNode
    row = record node { accesses = accesses }

    told : HasAccess (slice_set old n row) k b ↔ (HasAccess old k b ⊎ ((k ≡ n) × (b ≡ a)))
    told = more_there old n node row found (λ (x : GraphNode). Contains x.accesses b) (b ≡ a) (appends_has node.accesses accesses a appends b) k

    there : HasAccess old k b ⊎ ((k ≡ n) × (b ≡ a)) → HasAccess old k b ⊎ (access k b ≡ access n a)
    there (inl was) = inl was
    there (inr (at, is)) = inr (ap (λ j. access j b) at ∙ ap (access n) is)

    back : HasAccess old k b ⊎ (access k b ≡ access n a) → HasAccess (slice_set old n row) k b
    back (inl was) = told.1 (inl was)
    back (inr e) = told.1 (inr ((cc), (cc)))
access_items old n a node accesses found appends (edge from kind to) = (λ now. inl (told.0 now), back)
  where
    row : GraphNode
    row = record node { accesses = accesses }

    told : HasEdge (slice_set old n row) from kind to ↔ HasEdge old from kind to
    told = same_there old n node row found (λ (x : GraphNode). Contains x.edges (from, kind)) (λ p. p, λ p. p) to

    back : HasEdge old from kind to ⊎ (edge from kind to ≡ access n a) → HasEdge (slice_set old n row) from kind to
    back (inl was) = told.1 was
    back (inr e) = absurd (cc)

pub access_grows : (old new : List GraphNode) (n : ℕ) (a : Access) → AddsAccess old new n a → Grows old new (λ x. x ≡ access n a)
access_grows old new n a adds =
    let there = is_there _ (slice_get old n) adds in
    let node = there.item in
    let (accesses, appends, is) = there.holds in
    subst (λ rows. Grows old rows (λ x. x ≡ access n a)) (sym is) (record {
      frames = frames_same old n node (record node { accesses = accesses }) there.is refl;
      items = access_items old n a node accesses there.is appends;
      once = λ once. all_set IsRowOnce old n (record node { accesses = accesses }) once (let was = all_found IsRowOnce old n node once there.is in record { edges = was.edges; accesses = appends_once node.accesses accesses a appends was.accesses });
    })

-- ---- one edge more

abbrev SamePair : ℕ → EdgeKind → ℕ → EdgeKind → Type 0
SamePair f q from kind = ◌≡◌ {A = ℕ × EdgeKind} (f, q) (from, kind)

edge_items : (old : List GraphNode) (from : ℕ) (kind : EdgeKind) (n : ℕ) (node : GraphNode) (edges : List (ℕ × EdgeKind)) → slice_get old n ≡ Some node → AppendsNew node.edges (from, kind) edges
    → (x : Item) → HasItem (slice_set old n (record node { edges = edges })) x ↔ (HasItem old x ⊎ (x ≡ edge from kind n))
edge_items old from kind n node edges found appends (edge f q to) = (λ now. there (told.0 now), back)
  where
    row : GraphNode
    row = record node { edges = edges }

    told : HasEdge (slice_set old n row) f q to ↔ (HasEdge old f q to ⊎ ((to ≡ n) × SamePair f q from kind))
    told = more_there old n node row found (λ (x : GraphNode). Contains x.edges (f, q)) (SamePair f q from kind) (appends_has node.edges edges (from, kind) appends (f, q)) to

    there : HasEdge old f q to ⊎ ((to ≡ n) × SamePair f q from kind) → HasEdge old f q to ⊎ (edge f q to ≡ edge from kind n)
    there (inl was) = inl was
    there (inr (at, is)) = inr (ap (edge f q) at ∙ ap (λ (p : ℕ × EdgeKind). edge p.0 p.1 n) is)

    back : HasEdge old f q to ⊎ (edge f q to ≡ edge from kind n) → HasEdge (slice_set old n row) f q to
    back (inl was) = told.1 (inl was)
    back (inr e) = let ef : f ≡ from = cc in let eq : q ≡ kind = cc in told.1 (inr ((cc), ap (λ k. (k, q)) ef ∙ ap (λ w. (from, w)) eq))
edge_items old from kind n node edges found appends (access k b) = (λ now. inl (told.0 now), back)
  where
    row : GraphNode
    row = record node { edges = edges }

    told : HasAccess (slice_set old n row) k b ↔ HasAccess old k b
    told = same_there old n node row found (λ (x : GraphNode). Contains x.accesses b) (λ p. p, λ p. p) k

    back : HasAccess old k b ⊎ (access k b ≡ edge from kind n) → HasAccess (slice_set old n row) k b
    back (inl was) = told.1 was
    back (inr e) = absurd (cc)

pub edge_grows : (old new : List GraphNode) (from : ℕ) (kind : EdgeKind) (n : ℕ) → AddsEdge old new from kind n → Grows old new (λ x. x ≡ edge from kind n)
edge_grows old new from kind n adds =
    let there = is_there _ (slice_get old n) adds in
    let node = there.item in
    let (edges, appends, is) = there.holds in
    subst (λ rows. Grows old rows (λ x. x ≡ edge from kind n)) (sym is) (record {
      frames = frames_same old n node (record node { edges = edges }) there.is refl;
      items = edge_items old from kind n node edges there.is appends;
      once = λ once. all_set IsRowOnce old n (record node { edges = edges }) once (let was = all_found IsRowOnce old n node once there.is in record { edges = appends_once node.edges edges (from, kind) appends was.edges; accesses = was.accesses });
    })

-- ---- a graph that was refused one item

pub partly_none : (old new : List GraphNode) (P : Item → Type 0) → new ≡ old → GrowsPartly old new P
partly_none old new P same = subst (λ rows. GrowsPartly old rows P) (sym same) (record { frames = refl; keeps = λ x has. has; only = λ x has. inl has; once = λ once. once })

pub one_more_or_stops : (r : Result (Unit {0}) GraphFault) (old new : List GraphNode) (x : Item) → OnOk r (Grows old new (λ y. y ≡ x)) → OnErr r (new ≡ old) → IsLimitedWhere r (HasMostEdges old × (HasItem old x → ⊥)) → GrowsOrStops r old new (λ y. y ≡ x)
one_more_or_stops (Ok a) old new x ok same limit = ok
one_more_or_stops (Err (Limit kind)) old new x ok same limit =
    (limit.0, (partly_none old new (λ y. y ≡ x) same, subst (λ rows. IsFull rows (λ y. y ≡ x)) (sym same) (record { most = limit.1.0; item = x; belongs = refl; missing = limit.1.1 })))
one_more_or_stops (Err Memory) old new x ok same limit = partly_none old new (λ y. y ≡ x) same

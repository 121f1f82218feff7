-- A graph after one more edge or flow edge, and the sums of such steps.
use Rattle.std.specs.List.{AllByRecursion}
use Rattle.std.proofs.Common.{◌≡◌, ◌↔◌, ◌⊎◌, inl, inr, ℕ, ◌<◌, ◌≤◌, ◌+◌, List, [], ◌∷◌, ◌++◌, map, length, get_or, take, slice_get, slice_set, Contains, Option, Some, None, IsSomeAnd, IfNone, Result, Ok, Err, OnOk, OnErr, refl, ap, sym, ◌∙◌, subst, arith, length-append}
use Rattle.std.proofs.lemmas.Bool.{cases_eq}
use Rattle.std.proofs.lemmas.Option.{same_Some, get_or_from_slice_get, slice_get_within}
use Rattle.std.proofs.lemmas.List.{length-set, take_more, take_all}
use Rattle.std.proofs.lemmas.List.Elements.{Contains-append_left, Contains-get_or, Contains-push, Contains-push_cases}
use Rattle.std.proofs.Math.Seq.{map-set_same}
use Rattle.dep_nodes.specs.declared.kinds.EdgeKind.{EdgeKind}
use Rattle.dep_nodes.specs.declared.graphs.NodeName.{NodeName}
use Rattle.dep_nodes.specs.declared.dependence_graph.GraphNode.{GraphNode}
use Rattle.dep_nodes.specs.declared.dependence_graph.GraphFault.{GraphFault}
use Rattle.dep_nodes.specs.declared.dependence_graph.GraphFault.TheVariants.{Limit, Memory}
use Rattle.dep_nodes.specs.OnceLists.{IsOnceEach}
use Rattle.dep_nodes.specs.GrowingGraphs.{bare, IsInside, HasEdge, HasMostEdges, IsLimitedWhere, AppendsNew, AddsEdge, AddsFlow}
use Rattle.dep_nodes.proofs.GrowingLemmas.{all_push, all_set, all_found, inside_push, inside_set}
use Rattle.dep_nodes.proofs.ListedLemmas.{is_there, set_keeps, set_puts, set_had}
use Rattle.dep_nodes.proofs.OnceLemmas.{once_push, contains_at}
use Rattle.sdg.specs.declared.instance_nodes.InstanceNode.{InstanceNode}
use Rattle.sdg.specs.Growing.{Growing, HasOnceEach, IsGrowing}
use Rattle.sdg.specs.Links.{Tie, by_word, by_flow, Link, link, HasFlow, HasTie, HasLink, Stands, InTable}
use Rattle.sdg.specs.Growth.{From, FromBelow, unlinked, KeepsNodes, AddsAmong, IsFullAmong, RefusesAmong, AddedAmong, TableAt, AddsLinks, IsFull, Refuses, LinksAdded}

-- ---- lists that have each item once

none_twice : {A : Type 0} (xs : List A) → xs ≡ [] → IsOnceEach xs
none_twice xs empty i j x at_i at_j = absurd (cc)

appended_once : {A : Type 0} (xs ys : List A) (x : A) → AppendsNew xs x ys → IsOnceEach xs → IsOnceEach ys
appended_once xs ys x (inl had) once = subst IsOnceEach (sym had.1) once
appended_once xs ys x (inr new) once = subst IsOnceEach (sym new.1) (once_push xs x once new.0)

appended : {A : Type 0} (xs ys : List A) (x : A) → AppendsNew xs x ys → (y : A) → Contains ys y ↔ (Contains xs y ⊎ (y ≡ x))
appended {A} xs ys x (inl had) y = (λ there. inl (subst (λ zs. Contains zs y) had.1 there), back)
  where
    back : Contains xs y ⊎ (y ≡ x) → Contains ys y
    back (inl there) = subst (λ zs. Contains zs y) (sym had.1) there
    back (inr is) = subst (λ z. Contains ys z) (sym is) (subst (λ zs. Contains zs x) (sym had.1) had.0)
appended {A} xs ys x (inr new) y = (λ there. before (subst (λ zs. Contains zs y) new.1 there), back)
  where
    before : Contains (xs ++ x ∷ []) y → Contains xs y ⊎ (y ≡ x)
    before there = elim (Contains-push_cases xs x y there) [
      | inl had ↦ inl had
      | inr last ↦ inr (sym last)
    ]

    back : Contains xs y ⊎ (y ≡ x) → Contains ys y
    back (inl there) = subst (λ zs. Contains zs y) (sym new.1) (Contains-append_left xs (x ∷ []) y there)
    back (inr is) = subst (λ z. Contains ys z) (sym is) (subst (λ zs. Contains zs x) (sym new.1) (Contains-push xs x))

appended_all : {A : Type 0} (P : A → Type 0) (xs ys : List A) (x : A) → AppendsNew xs x ys → AllByRecursion P xs → P x → AllByRecursion P ys
appended_all P xs ys x (inl had) all p = subst (AllByRecursion P) (sym had.1) all
appended_all P xs ys x (inr new) all p = subst (AllByRecursion P) (sym new.1) (all_push P xs x all p)

-- ---- one row is written

set_adds : (P : GraphNode → Type 0) (Q : Type 0) (rows : List GraphNode) (at : ℕ) (row next : GraphNode) → slice_get rows at ≡ Some row → P next ↔ (P row ⊎ Q)
    → (k : ℕ) → IsSomeAnd (slice_get (slice_set rows at next) k) P ↔ (IsSomeAnd (slice_get rows k) P ⊎ ((k ≡ at) × Q))
set_adds P Q rows at row next found more k = (there, back)
  where
    told : (k ≡ at) × P next → P row ⊎ Q → IsSomeAnd (slice_get rows k) P ⊎ ((k ≡ at) × Q)
    told here (inl p) = inl (subst (λ j. IsSomeAnd (slice_get rows j) P) (sym here.0) (subst (λ (o : Option GraphNode). IsSomeAnd o P) (sym found) p))
    told here (inr q) = inr (here.0, q)

    there : IsSomeAnd (slice_get (slice_set rows at next) k) P → IsSomeAnd (slice_get rows k) P ⊎ ((k ≡ at) × Q)
    there has = elim (set_had P rows at k next has) [
      | inl before ↦ inl before
      | inr here ↦ told here (more.0 here.1)
    ]

    back : IsSomeAnd (slice_get rows k) P ⊎ ((k ≡ at) × Q) → IsSomeAnd (slice_get (slice_set rows at next) k) P
    back (inl before) = set_keeps P rows at k row next found (λ p. more.1 (inl p)) before
    back (inr (same, q)) = subst (λ j. IsSomeAnd (slice_get (slice_set rows at next) j) P) (sym same) (set_puts P rows at row next found (more.1 (inr q)))

rows_same : (rows : List GraphNode) (at : ℕ) (row next : GraphNode) → slice_get rows at ≡ Some row → unlinked next ≡ unlinked row → map unlinked (slice_set rows at next) ≡ map unlinked rows
rows_same rows at row next found same = map-set_same unlinked rows at next row (same ∙ ap unlinked (sym (get_or_from_slice_get rows at row row found)))

growing_set : (rows : List GraphNode) (nodes : List InstanceNode) (at : ℕ) (next : GraphNode) → IsGrowing rows nodes → IsInside (length rows) next → HasOnceEach next → IsGrowing (slice_set rows at next) nodes
growing_set rows nodes at next growing inside once = record {
  long = length-set rows at next ∙ growing.long;
  nodes_once = growing.nodes_once;
  inside = inside_set rows at next growing.inside inside;
  lists_once = all_set HasOnceEach rows at next growing.lists_once once;
}

-- ---- one more edge, one more flow edge

-- the rows have one tie more
pub record AddsTie (old new : List GraphNode) (begin : ℕ) (tie : Tie) (end : ℕ) : Type 0 where
  pub same : map unlinked new ≡ map unlinked old
  pub ties : (k : ℕ) (t : Tie) (l : ℕ) → HasTie new k t l ↔ (HasTie old k t l ⊎ ((k ≡ begin) × ((t ≡ tie) × (l ≡ end))))

pub edge_grows : (old new : List GraphNode) (nodes : List InstanceNode) (begin : ℕ) (word : EdgeKind) (end : ℕ) → IsGrowing old nodes → begin < length old → AddsEdge old new begin word end → IsGrowing new nodes
edge_grows old new nodes begin word end growing below adds =
    let found = is_there _ (slice_get old end) adds in
    let row = found.item in
    let (edges, appends, made) = found.holds in
    let within = all_found (IsInside (length old)) old end row growing.inside found.is in
    let once = all_found HasOnceEach old end row growing.lists_once found.is in
    subst (λ rows. IsGrowing rows nodes) (sym made)
    (growing_set old nodes end (record row { edges = edges }) growing
    (record { edges = appended_all (λ edge. edge.0 < length old) row.edges edges (begin, word) appends within.edges below; flows = within.flows })
    (record { edges = appended_once row.edges edges (begin, word) appends once.edges; flows = once.flows; accesses = once.accesses }))

pub flow_grows : (old new : List GraphNode) (nodes : List InstanceNode) (begin end : ℕ) → IsGrowing old nodes → end < length old → AddsFlow old new begin end → IsGrowing new nodes
flow_grows old new nodes begin end growing below adds =
    let found = is_there _ (slice_get old begin) adds in
    let row = found.item in
    let (flows, appends, made) = found.holds in
    let within = all_found (IsInside (length old)) old begin row growing.inside found.is in
    let once = all_found HasOnceEach old begin row growing.lists_once found.is in
    subst (λ rows. IsGrowing rows nodes) (sym made)
    (growing_set old nodes begin (record row { flows = flows }) growing
    (record { edges = within.edges; flows = appended_all (λ to. to < length old) row.flows flows end appends within.flows below })
    (record { edges = once.edges; flows = appended_once row.flows flows end appends once.flows; accesses = once.accesses }))

abbrev pair : ℕ → EdgeKind → ℕ × EdgeKind
pair k w = (k, w)

abbrev word_of : Tie → Option EdgeKind
word_of (by_word word) = Some word
word_of by_flow = None

edge_adds : (old new : List GraphNode) (begin : ℕ) (word : EdgeKind) (end : ℕ) → AddsEdge old new begin word end → AddsTie old new begin (by_word word) end
edge_adds old new begin word end adds =
    let found = is_there _ (slice_get old end) adds in
    by_row found.item found.is found.holds.0 found.holds.1 found.holds.2
  where
    by_row : (row : GraphNode) → slice_get old end ≡ Some row → (edges : List (ℕ × EdgeKind)) → AppendsNew row.edges (begin, word) edges → new ≡ slice_set old end (record row { edges = edges }) → AddsTie old new begin (by_word word) end
    by_row row found edges appends made = record {
      same = ap (map unlinked) made ∙ rows_same old end row (record row { edges = edges }) found refl;
      ties = by_tie;
    }
      where
        set : List GraphNode
        set = slice_set old end (record row { edges = edges })

        parts : (k : ℕ) (w : EdgeKind) (l : ℕ) → HasEdge old k w l ⊎ ((l ≡ end) × (pair k w ≡ pair begin word)) → HasEdge old k w l ⊎ ((k ≡ begin) × ((by_word w ≡ by_word word) × (l ≡ end)))
        parts k w l (inl had) = inl had
        parts k w l (inr (at, is)) = inr (ap (λ (p : ℕ × EdgeKind). p.0) is, (ap (λ (p : ℕ × EdgeKind). by_word p.1) is, at))

        whole : (k : ℕ) (w : EdgeKind) (l : ℕ) → HasEdge old k w l ⊎ ((k ≡ begin) × ((by_word w ≡ by_word word) × (l ≡ end))) → HasEdge old k w l ⊎ ((l ≡ end) × (pair k w ≡ pair begin word))
        whole k w l (inl had) = inl had
        whole k w l (inr (is_k, (is_w, at))) =
            let e : w ≡ word = same_Some w word (ap word_of is_w) in
            inr (at, ap (λ (n : ℕ). pair n w) is_k ∙ ap (λ (v : EdgeKind). pair begin v) e)

        no_flow : (k l : ℕ) → HasFlow old k l ⊎ ((k ≡ end) × ⊥) → HasFlow old k l ⊎ ((k ≡ begin) × ((by_flow ≡ by_word word) × (l ≡ end)))
        no_flow k l (inl had) = inl had
        no_flow k l (inr none) = absurd none.1

        old_flow : (k l : ℕ) → HasFlow old k l ⊎ ((k ≡ begin) × ((by_flow ≡ by_word word) × (l ≡ end))) → HasFlow old k l ⊎ ((k ≡ end) × ⊥)
        old_flow k l (inl had) = inl had
        old_flow k l (inr (_, (differs, _))) = absurd (cc)

        no_more : (P : Type 0) → P ↔ (P ⊎ ⊥)
        no_more P = (λ p. inl p, back)
          where
            back : P ⊎ ⊥ → P
            back (inl p) = p
            back (inr none) = absurd none

        by_tie : (k : ℕ) (t : Tie) (l : ℕ) → HasTie new k t l ↔ (HasTie old k t l ⊎ ((k ≡ begin) × ((t ≡ by_word word) × (l ≡ end))))
        by_tie k (by_word w) l =
            let told = set_adds (λ row. Contains row.edges (k, w)) (pair k w ≡ pair begin word) old end row (record row { edges = edges }) found (appended row.edges edges (begin, word) appends (k, w)) l in
            (λ has. parts k w l (told.0 (subst (λ rows. HasEdge rows k w l) made has)), λ has. subst (λ rows. HasEdge rows k w l) (sym made) (told.1 (whole k w l has)))
        by_tie k by_flow l =
            let told = set_adds (λ row. Contains row.flows l) ⊥ old end row (record row { edges = edges }) found (no_more (Contains row.flows l)) k in
            (λ has. no_flow k l (told.0 (subst (λ rows. HasFlow rows k l) made has)), λ has. subst (λ rows. HasFlow rows k l) (sym made) (told.1 (old_flow k l has)))

flow_adds : (old new : List GraphNode) (begin end : ℕ) → AddsFlow old new begin end → AddsTie old new begin by_flow end
flow_adds old new begin end adds =
    let found = is_there _ (slice_get old begin) adds in
    by_row found.item found.is found.holds.0 found.holds.1 found.holds.2
  where
    by_row : (row : GraphNode) → slice_get old begin ≡ Some row → (flows : List ℕ) → AppendsNew row.flows end flows → new ≡ slice_set old begin (record row { flows = flows }) → AddsTie old new begin by_flow end
    by_row row found flows appends made = record {
      same = ap (map unlinked) made ∙ rows_same old begin row (record row { flows = flows }) found refl;
      ties = by_tie;
    }
      where
        no_edge : (k : ℕ) (w : EdgeKind) (l : ℕ) → HasEdge old k w l ⊎ ((l ≡ begin) × ⊥) → HasEdge old k w l ⊎ ((k ≡ begin) × ((by_word w ≡ by_flow) × (l ≡ end)))
        no_edge k w l (inl had) = inl had
        no_edge k w l (inr none) = absurd none.1

        old_edge : (k : ℕ) (w : EdgeKind) (l : ℕ) → HasEdge old k w l ⊎ ((k ≡ begin) × ((by_word w ≡ by_flow) × (l ≡ end))) → HasEdge old k w l ⊎ ((l ≡ begin) × ⊥)
        old_edge k w l (inl had) = inl had
        old_edge k w l (inr (_, (differs, _))) = absurd (cc)

        parts : (k l : ℕ) → HasFlow old k l ⊎ ((k ≡ begin) × (l ≡ end)) → HasFlow old k l ⊎ ((k ≡ begin) × ((by_flow ≡ by_flow) × (l ≡ end)))
        parts k l (inl had) = inl had
        parts k l (inr (is, at)) = inr (is, (refl, at))

        whole : (k l : ℕ) → HasFlow old k l ⊎ ((k ≡ begin) × ((by_flow ≡ by_flow) × (l ≡ end))) → HasFlow old k l ⊎ ((k ≡ begin) × (l ≡ end))
        whole k l (inl had) = inl had
        whole k l (inr (is, (_, at))) = inr (is, at)

        no_more : (P : Type 0) → P ↔ (P ⊎ ⊥)
        no_more P = (λ p. inl p, back)
          where
            back : P ⊎ ⊥ → P
            back (inl p) = p
            back (inr none) = absurd none

        by_tie : (k : ℕ) (t : Tie) (l : ℕ) → HasTie new k t l ↔ (HasTie old k t l ⊎ ((k ≡ begin) × ((t ≡ by_flow) × (l ≡ end))))
        by_tie k (by_word w) l =
            let told = set_adds (λ row. Contains row.edges (k, w)) ⊥ old begin row (record row { flows = flows }) found (no_more (Contains row.edges (k, w))) l in
            (λ has. no_edge k w l (told.0 (subst (λ rows. HasEdge rows k w l) made has)), λ has. subst (λ rows. HasEdge rows k w l) (sym made) (told.1 (old_edge k w l has)))
        by_tie k by_flow l =
            let told = set_adds (λ row. Contains row.flows l) (l ≡ end) old begin row (record row { flows = flows }) found (appended row.flows flows end appends l) k in
            (λ has. parts k l (told.0 (subst (λ rows. HasFlow rows k l) made has)), λ has. subst (λ rows. HasFlow rows k l) (sym made) (told.1 (whole k l has)))

-- ---- between nodes of the table

pub record Ends (nodes : List InstanceNode) (begin end : ℕ) (from to : InstanceNode) : Type 0 where
  pub once : IsOnceEach nodes
  pub from_at : InTable nodes begin from
  pub to_at : InTable nodes end to

-- the rows have a link exactly where they have it between the places of its ends
tie_of : (nodes : List InstanceNode) (begin end : ℕ) (from to : InstanceNode) (tie : Tie) (rows : List GraphNode) → Ends nodes begin end from to → HasLink (InTable nodes) rows (link from tie to) → HasTie rows begin tie end
tie_of nodes begin end from to tie rows ends has =
    let b : has.begin ≡ begin = ends.once has.begin begin from has.from ends.from_at in
    let e : has.end ≡ end = ends.once has.end end to has.to ends.to_at in
    subst (λ k. HasTie rows k tie end) b (subst (λ k. HasTie rows has.begin tie k) e has.tied)

links_of_tie : (old new : List GraphNode) (nodes : List InstanceNode) (begin end : ℕ) (from to : InstanceNode) (tie : Tie) → Ends nodes begin end from to → AddsTie old new begin tie end
    → (l : Link InstanceNode) → HasLink (InTable nodes) new l ↔ (HasLink (InTable nodes) old l ⊎ (Stands (InTable nodes) l × (l ≡ link from tie to)))
links_of_tie old new nodes begin end from to tie ends adds l = (there, back)
  where
    At : ℕ → InstanceNode → Type 0
    At = InTable nodes

    it_is : (has : HasLink (InTable nodes) new l) → (has.begin ≡ begin) × ((l.tie ≡ tie) × (has.end ≡ end)) → l ≡ link from tie to
    it_is has (b, (t, e)) =
        let f : l.from ≡ from = same_Some l.from from (sym has.from ∙ ap (λ k. slice_get nodes k) b ∙ ends.from_at) in
        let g : l.to ≡ to = same_Some l.to to (sym has.to ∙ ap (λ k. slice_get nodes k) e ∙ ends.to_at) in
        ap (λ (n : InstanceNode). link n l.tie l.to) f ∙ ap (λ (s : Tie). link from s l.to) t ∙ ap (λ (n : InstanceNode). link from tie n) g

    stands : HasLink (InTable nodes) new l → Stands (InTable nodes) l
    stands has = record { begin = has.begin; end = has.end; from = has.from; to = has.to }

    by_case : (has : HasLink (InTable nodes) new l) → HasTie old has.begin l.tie has.end ⊎ ((has.begin ≡ begin) × ((l.tie ≡ tie) × (has.end ≡ end)))
        → HasLink (InTable nodes) old l ⊎ (Stands (InTable nodes) l × (l ≡ link from tie to))
    by_case has (inl tied) = inl (record { begin = has.begin; end = has.end; from = has.from; to = has.to; tied = tied })
    by_case has (inr is) = inr (stands has, it_is has is)

    there : HasLink (InTable nodes) new l → HasLink (InTable nodes) old l ⊎ (Stands (InTable nodes) l × (l ≡ link from tie to))
    there has = by_case has ((adds.ties has.begin l.tie has.end).0 has.tied)

    it : HasLink (InTable nodes) new (link from tie to)
    it = record { begin = begin; end = end; from = ends.from_at; to = ends.to_at; tied = (adds.ties begin tie end).1 (inr (refl, (refl, refl))) }

    back : HasLink (InTable nodes) old l ⊎ (Stands (InTable nodes) l × (l ≡ link from tie to)) → HasLink (InTable nodes) new l
    back (inl had) = record { begin = had.begin; end = had.end; from = had.from; to = had.to; tied = (adds.ties had.begin l.tie had.end).1 (inl had.tied) }
    back (inr (_, is)) = subst (HasLink (InTable nodes) new) (sym is) it

tie_added : (old new : List GraphNode) (nodes : List InstanceNode) (begin end : ℕ) (from to : InstanceNode) (tie : Tie) → Ends nodes begin end from to → AddsTie old new begin tie end
    → AddsLinks (record { rows = old; nodes = nodes }) (record { rows = new; nodes = nodes }) (λ l. l ≡ link from tie to)
tie_added old new nodes begin end from to tie ends adds = record {
  kept = record { nodes = refl; rows = adds.same };
  links = links_of_tie old new nodes begin end from to tie ends adds;
}

tie_refused : (old new : List GraphNode) (nodes : List InstanceNode) (begin end : ℕ) (from to : InstanceNode) (tie : Tie) (fault : GraphFault) → Ends nodes begin end from to → new ≡ old
    → IsLimitedWhere {A = ℕ} (Err fault) (HasMostEdges old × (HasTie old begin tie end → ⊥)) → Refuses fault (record { rows = old; nodes = nodes }) (record { rows = new; nodes = nodes }) (λ l. l ≡ link from tie to)
tie_refused old new nodes begin end from to tie fault ends same full = record {
  kept = record { nodes = refl; rows = ap (map unlinked) same };
  full = subst (λ rows. IsFull fault (record { rows = rows; nodes = nodes }) (λ l. l ≡ link from tie to)) (sym same) (by_fault fault full);
}
  where
    by_fault : (fault : GraphFault) → IsLimitedWhere {A = ℕ} (Err fault) (HasMostEdges old × (HasTie old begin tie end → ⊥)) → IsFull fault (record { rows = old; nodes = nodes }) (λ l. l ≡ link from tie to)
    by_fault Memory full = tt
    by_fault (Limit kind) full = (
      full.0,
      full.1.0,
      record {
        missing = link from tie to;
        belongs = refl;
        stands = record { begin = begin; end = end; from = ends.from_at; to = ends.to_at };
        lacks = λ has. full.1.1 (tie_of nodes begin end from to tie old ends has);
      },
    )

pub edge_result : (result : Result (Unit {0}) GraphFault) (old new : List GraphNode) (nodes : List InstanceNode) (begin end : ℕ) (from to : InstanceNode) (word : EdgeKind) → Ends nodes begin end from to
    → OnOk result (AddsEdge old new begin word end) → OnErr result (new ≡ old) → IsLimitedWhere result (HasMostEdges old × (HasEdge old begin word end → ⊥))
    → LinksAdded result (record { rows = old; nodes = nodes }) (record { rows = new; nodes = nodes }) (λ l. l ≡ link from (by_word word) to)
edge_result (Ok done) old new nodes begin end from to word ends adds same full = tie_added old new nodes begin end from to (by_word word) ends (edge_adds old new begin word end adds)
edge_result (Err (Limit kind)) old new nodes begin end from to word ends adds same full = tie_refused old new nodes begin end from to (by_word word) (Limit kind) ends same full
edge_result (Err Memory) old new nodes begin end from to word ends adds same full = tie_refused old new nodes begin end from to (by_word word) Memory ends same full

pub flow_done : (old new : List GraphNode) (nodes : List InstanceNode) (begin end : ℕ) (from to : InstanceNode) → Ends nodes begin end from to → AddsFlow old new begin end
    → AddsLinks (record { rows = old; nodes = nodes }) (record { rows = new; nodes = nodes }) (λ l. l ≡ link from by_flow to)
flow_done old new nodes begin end from to ends adds = tie_added old new nodes begin end from to by_flow ends (flow_adds old new begin end adds)

pub flow_refused : (old new : List GraphNode) (nodes : List InstanceNode) (from to : InstanceNode) → new ≡ old
    → Refuses Memory (record { rows = old; nodes = nodes }) (record { rows = new; nodes = nodes }) (λ l. l ≡ link from by_flow to)
flow_refused old new nodes from to same = record { kept = record { nodes = refl; rows = ap (map unlinked) same }; full = tt }

pub absent : {P : Type 0} (o : Option ℕ) → ((n : ℕ) → o ≡ Some n → ⊥) → IfNone o P → P
absent None none p = p
absent (Some n) none p = absurd (none n refl)

-- ---- sums of such steps

pub adds_none : (graph : Growing) (P : Link InstanceNode → Type 0) → ((l : Link InstanceNode) → Stands (InTable graph.nodes) l → P l → ⊥) → AddsLinks graph graph P
adds_none graph P none = record {
  kept = record { nodes = refl; rows = refl };
  links = λ l. (λ has. inl has, back l);
}
  where
    back : (l : Link InstanceNode) → HasLink (InTable graph.nodes) graph.rows l ⊎ (Stands (InTable graph.nodes) l × P l) → HasLink (InTable graph.nodes) graph.rows l
    back l (inl has) = has
    back l (inr (stands, p)) = absurd (none l stands p)

pub lacks_end : (graph : Growing) (from to : InstanceNode) (tie : Tie) → (Contains graph.nodes from → ⊥) ⊎ (Contains graph.nodes to → ⊥) → AddsLinks graph graph (λ l. l ≡ link from tie to)
lacks_end graph from to tie missing = adds_none graph (λ l. l ≡ link from tie to) (none missing)
  where
    none : (Contains graph.nodes from → ⊥) ⊎ (Contains graph.nodes to → ⊥) → (l : Link InstanceNode) → Stands (InTable graph.nodes) l → l ≡ link from tie to → ⊥
    none (inl off) l stands is = off (subst (Contains graph.nodes) (ap (λ (x : Link InstanceNode). x.from) is) (contains_at graph.nodes stands.begin l.from stands.from))
    none (inr off) l stands is = off (subst (Contains graph.nodes) (ap (λ (x : Link InstanceNode). x.to) is) (contains_at graph.nodes stands.end l.to stands.to))

-- ---- what a step of the graph says

pub ends_of : (seen : Growing) (rows : List GraphNode) (nodes : List InstanceNode) (begin end : ℕ) (from to : InstanceNode) → record { rows = rows; nodes = nodes } ≡ seen → IsGrowing rows nodes
    → slice_get seen.nodes begin ≡ Some from → slice_get seen.nodes end ≡ Some to → Ends nodes begin end from to
ends_of seen rows nodes begin end from to is growing from_at to_at =
    let e : nodes ≡ seen.nodes = ap (λ (g : Growing). g.nodes) is in
    record {
      once = growing.nodes_once;
      from_at = ap (λ ns. slice_get ns begin) e ∙ from_at;
      to_at = ap (λ ns. slice_get ns end) e ∙ to_at;
    }

pub below_of : (seen : Growing) (rows : List GraphNode) (nodes : List InstanceNode) (n : ℕ) → record { rows = rows; nodes = nodes } ≡ seen → n < length seen.rows → n < length rows
below_of seen rows nodes n is below = subst (λ (g : Growing). n < length g.rows) (sym is) below

pub edge_growing : (result : Result (Unit {0}) GraphFault) (old new : List GraphNode) (nodes : List InstanceNode) (begin : ℕ) (word : EdgeKind) (end : ℕ) → IsGrowing old nodes → begin < length old
    → OnOk result (AddsEdge old new begin word end) → OnErr result (new ≡ old) → IsGrowing new nodes
edge_growing (Ok done) old new nodes begin word end growing below adds same = edge_grows old new nodes begin word end growing below adds
edge_growing (Err fault) old new nodes begin word end growing below adds same = subst (λ rows. IsGrowing rows nodes) (sym same) growing

pub node_growing : (old new : List GraphNode) (nodes more : List InstanceNode) (name : NodeName) (node : InstanceNode) → IsGrowing old nodes → new ≡ old ++ bare name ∷ [] → more ≡ nodes ++ node ∷ []
    → (Contains nodes node → ⊥) → IsGrowing new more
node_growing old new nodes more name node growing made added lacks =
    let rows_long : length (old ++ bare name ∷ []) ≡ length old + 1 = simp (length-append) (omega arith) in
    let nodes_long : length (nodes ++ node ∷ []) ≡ length nodes + 1 = simp (length-append) (omega arith) in
    let once : HasOnceEach (bare name) = record { edges = none_twice [] refl; flows = none_twice [] refl; accesses = none_twice [] refl } in
    let whole : IsGrowing (old ++ bare name ∷ []) (nodes ++ node ∷ []) = record {
      long = omega (arith, rows_long, nodes_long, growing.long);
      nodes_once = once_push nodes node growing.nodes_once lacks;
      inside = inside_push old name growing.inside;
      lists_once = all_push HasOnceEach old (bare name) growing.lists_once once;
    } in
    subst (λ rows. IsGrowing rows more) (sym made) (subst (IsGrowing (old ++ bare name ∷ [])) (sym added) whole)

-- ---- one after the other

pub kept_along : (s t u : Growing) → KeepsNodes s t → KeepsNodes t u → KeepsNodes s u
kept_along s t u first second = record { nodes = second.nodes ∙ first.nodes; rows = second.rows ∙ first.rows }

module _ {N : Type 0} (At : Growing → ℕ → N → Type 0) (same : (s t : Growing) → KeepsNodes s t → (k : ℕ) (n : N) → At s k n ↔ At t k n) where
  pub stands_before : (s t : Growing) → KeepsNodes s t → (l : Link N) → Stands (At t) l → Stands (At s) l
  stands_before s t kept l stands = record { begin = stands.begin; end = stands.end; from = (same s t kept stands.begin l.from).1 stands.from; to = (same s t kept stands.end l.to).1 stands.to }

  pub stands_then : (s t : Growing) → KeepsNodes s t → (l : Link N) → Stands (At s) l → Stands (At t) l
  stands_then s t kept l stands = record { begin = stands.begin; end = stands.end; from = (same s t kept stands.begin l.from).0 stands.from; to = (same s t kept stands.end l.to).0 stands.to }

  pub among_more : (s t u : Growing) (P Q R : Link N → Type 0) → AddsAmong At s t P → AddsAmong At t u Q → ((l : Link N) → R l ↔ (P l ⊎ Q l)) → AddsAmong At s u R
  among_more s t u P Q R first second sum = record { kept = kept_along s t u first.kept second.kept; links = λ l. (there l, back l) }
    where
      early : (l : Link N) → HasLink (At s) s.rows l ⊎ (Stands (At s) l × P l) → HasLink (At s) s.rows l ⊎ (Stands (At s) l × R l)
      early l (inl had) = inl had
      early l (inr (stands, p)) = inr (stands, (sum l).1 (inl p))

      by_second : (l : Link N) → HasLink (At t) t.rows l ⊎ (Stands (At t) l × Q l) → HasLink (At s) s.rows l ⊎ (Stands (At s) l × R l)
      by_second l (inl had) = early l ((first.links l).0 had)
      by_second l (inr (stands, q)) = inr (stands_before s t first.kept l stands, (sum l).1 (inr q))

      there : (l : Link N) → HasLink (At u) u.rows l → HasLink (At s) s.rows l ⊎ (Stands (At s) l × R l)
      there l has = by_second l ((second.links l).0 has)

      late : (l : Link N) → Stands (At s) l → P l ⊎ Q l → HasLink (At u) u.rows l
      late l stands (inl p) = (second.links l).1 (inl ((first.links l).1 (inr (stands, p))))
      late l stands (inr q) = (second.links l).1 (inr (stands_then s t first.kept l stands, q))

      back : (l : Link N) → HasLink (At s) s.rows l ⊎ (Stands (At s) l × R l) → HasLink (At u) u.rows l
      back l (inl had) = (second.links l).1 (inl ((first.links l).1 (inl had)))
      back l (inr (stands, r)) = late l stands ((sum l).0 r)

  pub among_alike : (s t : Growing) (P Q : Link N → Type 0) → AddsAmong At s t P → ((l : Link N) → Stands (At s) l → P l ↔ Q l) → AddsAmong At s t Q
  among_alike s t P Q adds alike = record { kept = adds.kept; links = λ l. (λ has. there l ((adds.links l).0 has), back l) }
    where
      there : (l : Link N) → HasLink (At s) s.rows l ⊎ (Stands (At s) l × P l) → HasLink (At s) s.rows l ⊎ (Stands (At s) l × Q l)
      there l (inl had) = inl had
      there l (inr (stands, p)) = inr (stands, (alike l stands).0 p)

      back : (l : Link N) → HasLink (At s) s.rows l ⊎ (Stands (At s) l × Q l) → HasLink (At t) t.rows l
      back l (inl had) = (adds.links l).1 (inl had)
      back l (inr (stands, q)) = (adds.links l).1 (inr (stands, (alike l stands).1 q))

  full_of_more : (fault : GraphFault) (graph : Growing) (P Q : Link N → Type 0) → ((l : Link N) → Stands (At graph) l → P l → Q l) → IsFullAmong At fault graph P → IsFullAmong At fault graph Q
  full_of_more Memory graph P Q more full = tt
  full_of_more (Limit kind) graph P Q more (is, most, lacks) =
      (is, most, record { missing = lacks.missing; belongs = more lacks.missing lacks.stands lacks.belongs; stands = lacks.stands; lacks = lacks.lacks })

  pub among_refused_after : (fault : GraphFault) (s t u : Growing) (P Q R : Link N → Type 0) → AddsAmong At s t P → RefusesAmong At fault t u Q → ((l : Link N) → Q l → R l) → RefusesAmong At fault s u R
  among_refused_after fault s t u P Q R first refuses more = record { kept = kept_along s t u first.kept refuses.kept; full = full_of_more fault u Q R (λ l stands. more l) refuses.full }

  pub among_refused_alike : (fault : GraphFault) (s t : Growing) (P Q : Link N → Type 0) → RefusesAmong At fault s t P → ((l : Link N) → Stands (At s) l → P l → Q l) → RefusesAmong At fault s t Q
  among_refused_alike fault s t P Q refuses more = record { kept = refuses.kept; full = full_of_more fault t P Q (λ l stands. more l (stands_before s t refuses.kept l stands)) refuses.full }

  pub among_added_alike : {A : Type 0} (result : Result A GraphFault) (s t : Growing) (P Q : Link N → Type 0) → AddedAmong At result s t P → ((l : Link N) → Stands (At s) l → P l ↔ Q l) → AddedAmong At result s t Q
  among_added_alike (Ok a) s t P Q adds alike = among_alike s t P Q adds alike
  among_added_alike (Err fault) s t P Q refuses alike = among_refused_alike fault s t P Q refuses (λ l stands. (alike l stands).0)

  pub among_added_after : {A : Type 0} (result : Result A GraphFault) (s t u : Growing) (P Q R : Link N → Type 0) → AddsAmong At s t P → AddedAmong At result t u Q → ((l : Link N) → R l ↔ (P l ⊎ Q l)) → AddedAmong At result s u R
  among_added_after (Ok a) s t u P Q R first second sum = among_more s t u P Q R first second sum
  among_added_after (Err fault) s t u P Q R first second sum = among_refused_after fault s t u P Q R first second (λ l q. (sum l).1 (inr q))

-- ---- by names of the table

pub table_same : (s t : Growing) → KeepsNodes s t → (k : ℕ) (n : InstanceNode) → TableAt s k n ↔ TableAt t k n
table_same s t kept k n = (λ at. subst (λ nodes. InTable nodes k n) (sym kept.nodes) at, λ at. subst (λ nodes. InTable nodes k n) kept.nodes at)

pub adds_more : (s t u : Growing) (P Q R : Link InstanceNode → Type 0) → AddsLinks s t P → AddsLinks t u Q → ((l : Link InstanceNode) → R l ↔ (P l ⊎ Q l)) → AddsLinks s u R
adds_more s t u P Q R first second sum = among_more TableAt table_same s t u P Q R first second sum

pub adds_alike : (s t : Growing) (P Q : Link InstanceNode → Type 0) → AddsLinks s t P → ((l : Link InstanceNode) → P l ↔ Q l) → AddsLinks s t Q
adds_alike s t P Q adds alike = among_alike TableAt table_same s t P Q adds (λ l stands. alike l)

pub refused_after : (fault : GraphFault) (s t u : Growing) (P Q R : Link InstanceNode → Type 0) → AddsLinks s t P → Refuses fault t u Q → ((l : Link InstanceNode) → Q l → R l) → Refuses fault s u R
refused_after fault s t u P Q R first refuses more = among_refused_after TableAt table_same fault s t u P Q R first refuses more

pub added_alike : {A : Type 0} (result : Result A GraphFault) (s t : Growing) (P Q : Link InstanceNode → Type 0) → LinksAdded result s t P → ((l : Link InstanceNode) → P l ↔ Q l) → LinksAdded result s t Q
added_alike result s t P Q adds alike = among_added_alike TableAt table_same result s t P Q adds (λ l stands. alike l)

pub added_after : {A : Type 0} (result : Result A GraphFault) (s t u : Growing) (P Q R : Link InstanceNode → Type 0) → AddsLinks s t P → LinksAdded result t u Q → ((l : Link InstanceNode) → R l ↔ (P l ⊎ Q l)) → LinksAdded result s u R
added_after result s t u P Q R first second sum = among_added_after TableAt table_same result s t u P Q R first second sum

-- ---- over items

pub from_none : {A X : Type 0} (makes : A → X → Type 0) (x : X) → From [] makes x → ⊥
from_none makes x (a, (k, below, is), made) = omega (arith, below)

pub from_more : {A X : Type 0} (items : List A) (a : A) (makes : A → X → Type 0) (x : X) → From (items ++ a ∷ []) makes x ↔ (From items makes x ⊎ makes a x)
from_more {A} {X} items a makes x = (there, back)
  where
    there : From (items ++ a ∷ []) makes x → From items makes x ⊎ makes a x
    there (b, among, made) = elim (Contains-push_cases items a b among) [
      | inl before ↦ inl (b, before, made)
      | inr last ↦ inr (subst (λ c. makes c x) (sym last) made)
    ]

    back : From items makes x ⊎ makes a x → From (items ++ a ∷ []) makes x
    back (inl (b, among, made)) = (b, Contains-append_left items (a ∷ []) b among, made)
    back (inr made) = (a, Contains-push items a, made)

module _ {A : Type 0} (xs : List A) (makes : A → Link InstanceNode → Type 0) where
  pub over_none : (graph : Growing) → AddsLinks graph graph (From [] makes)
  over_none graph = adds_none graph (From [] makes) (λ l stands. from_none makes l)

  pub over_item : (s t u : Growing) (i : ℕ) (x : A) → i < length xs → x ≡ get_or xs i x → AddsLinks s t (From (take i xs) makes) → AddsLinks t u (makes x) → AddsLinks s u (From (take (i + 1) xs) makes)
  over_item s t u i x below is first second =
      subst (λ items. AddsLinks s u (From items makes)) (sym (take_more xs i x below))
      (adds_more s t u (From (take i xs) makes) (makes (get_or xs i x)) (From (take i xs ++ get_or xs i x ∷ []) makes) first
      (subst (λ y. AddsLinks t u (makes y)) is second) (from_more (take i xs) (get_or xs i x) makes))

  pub over_all : (s t : Growing) (i : ℕ) → length xs ≤ i → AddsLinks s t (From (take i xs) makes) → AddsLinks s t (From xs makes)
  over_all s t i past adds = subst (λ items. AddsLinks s t (From items makes)) (take_all i xs past) adds

  pub over_refused : (fault : GraphFault) (s t u : Growing) (i : ℕ) (x : A) → i < length xs → x ≡ get_or xs i x → AddsLinks s t (From (take i xs) makes) → Refuses fault t u (makes x) → Refuses fault s u (From xs makes)
  over_refused fault s t u i x below is first second =
      refused_after fault s t u (From (take i xs) makes) (makes x) (From xs makes) first second (λ l made. (x, (i, below, sym is), made))

  -- at a place that was read, where the list has not changed
  pub over_read : (s t u : Growing) (now : List A) (i : ℕ) (x : A) → now ≡ xs → slice_get now i ≡ Some x → AddsLinks s t (From (take i xs) makes) → AddsLinks t u (makes x) → AddsLinks s u (From (take (i + 1) xs) makes)
  over_read s t u now i x same is first second =
      let at : slice_get xs i ≡ Some x = subst (λ ys. slice_get ys i ≡ Some x) same is in
      over_item s t u i x (slice_get_within xs i x at) (sym (get_or_from_slice_get xs i x x at)) first second

  pub read_refused : (fault : GraphFault) (s t u : Growing) (now : List A) (i : ℕ) (x : A) → now ≡ xs → slice_get now i ≡ Some x → AddsLinks s t (From (take i xs) makes) → Refuses fault t u (makes x) → Refuses fault s u (From xs makes)
  read_refused fault s t u now i x same is first second =
      let at : slice_get xs i ≡ Some x = subst (λ ys. slice_get ys i ≡ Some x) same is in
      over_refused fault s t u i x (slice_get_within xs i x at) (sym (get_or_from_slice_get xs i x x at)) first second

-- ---- over numbers

pub below_more : {X : Type 0} (n : ℕ) (makes : ℕ → X → Type 0) (x : X) → FromBelow (n + 1) makes x ↔ (FromBelow n makes x ⊎ makes n x)
below_more {X} n makes x = (there, back)
  where
    there : FromBelow (n + 1) makes x → FromBelow n makes x ⊎ makes n x
    there (k, below, made) = elim (cases_eq k n) [
      | inl same ↦ inr (subst (λ m. makes m x) same made)
      | inr other ↦ inl (k, omega (arith, below, other), made)
    ]

    back : FromBelow n makes x ⊎ makes n x → FromBelow (n + 1) makes x
    back (inl (k, below, made)) = (k, omega (arith, below), made)
    back (inr made) = (n, omega arith, made)

pub below_none : (graph : Growing) (makes : ℕ → Link InstanceNode → Type 0) → AddsLinks graph graph (FromBelow 0 makes)
below_none graph makes = adds_none graph (FromBelow 0 makes) none
  where
    none : (l : Link InstanceNode) → Stands (InTable graph.nodes) l → FromBelow 0 makes l → ⊥
    none l stands (n, below, made) = omega (arith, below)

pub below_step : (s t u : Growing) (n : ℕ) (makes : ℕ → Link InstanceNode → Type 0) → AddsLinks s t (FromBelow n makes) → AddsLinks t u (makes n) → AddsLinks s u (FromBelow (n + 1) makes)
below_step s t u n makes first second = adds_more s t u (FromBelow n makes) (makes n) (FromBelow (n + 1) makes) first second (below_more n makes)

pub below_refused : (fault : GraphFault) (s t u : Growing) (n end : ℕ) (makes : ℕ → Link InstanceNode → Type 0) → n < end → AddsLinks s t (FromBelow n makes) → Refuses fault t u (makes n) → Refuses fault s u (FromBelow end makes)
below_refused fault s t u n end makes below first second = refused_after fault s t u (FromBelow n makes) (makes n) (FromBelow end makes) first second (λ l made. (n, below, made))

-- ---- over numbers in a list

module _ (xs : List ℕ) (makes : ℕ → Link InstanceNode → Type 0) where
  pub over_number : (s t u : Growing) (i : ℕ) → i < length xs → AddsLinks s t (From (take i xs) makes) → AddsLinks t u (makes (get_or xs i 0)) → AddsLinks s u (From (take (i + 1) xs) makes)
  over_number s t u i below first second =
      subst (λ items. AddsLinks s u (From items makes)) (sym (take_more xs i 0 below))
      (adds_more s t u (From (take i xs) makes) (makes (get_or xs i 0)) (From (take i xs ++ get_or xs i 0 ∷ []) makes) first second (from_more (take i xs) (get_or xs i 0) makes))

  pub number_refused : (fault : GraphFault) (s t u : Growing) (i : ℕ) → i < length xs → AddsLinks s t (From (take i xs) makes) → Refuses fault t u (makes (get_or xs i 0)) → Refuses fault s u (From xs makes)
  number_refused fault s t u i below first second =
      refused_after fault s t u (From (take i xs) makes) (makes (get_or xs i 0)) (From xs makes) first second (λ l made. (get_or xs i 0, Contains-get_or xs i 0 below, made))

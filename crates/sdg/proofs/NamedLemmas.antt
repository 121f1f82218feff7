-- From links by numbers to links by instances over lists of sites.
use Rattle.std.proofs.Common.{◌≡◌, ◌↔◌, ◌⊎◌, inl, inr, ℕ, List, map, slice_get, Option, Some, None, option_map, Result, Ok, Err, refl, ap, sym, ◌∙◌, subst}
use Rattle.std.proofs.lemmas.Option.{same_Some, slice_get-map}
use Rattle.dep_nodes.specs.declared.kinds.NodeKind.{NodeKind}
use Rattle.dep_nodes.specs.declared.dependence_graph.GraphNode.{GraphNode}
use Rattle.dep_nodes.specs.declared.dependence_graph.GraphFault.{GraphFault}
use Rattle.dep_nodes.specs.declared.dependence_graph.GraphFault.TheVariants.{Limit, Memory}
use Rattle.dep_nodes.specs.Nodes.{node_named}
use Rattle.dep_nodes.specs.OnceLists.{IsOnceEach}
use Rattle.dependence.specs.declared.facts.InstKey.{InstKey}
use Rattle.dependence.specs.ProgramGraph.{IsNamed}
use Rattle.fact_sets.specs.FactLists.{IsInstance, pair_of}
use Rattle.fact_sets.specs.Seen.{TellsApart, instance_seen}
use Rattle.sdg.specs.declared.instance_nodes.InstanceNode.{InstanceNode}
use Rattle.sdg.specs.Growing.{Growing}
use Rattle.sdg.specs.Links.{Tie, Link, link, HasTie, HasLink, Stands, InTable}
use Rattle.sdg.specs.Growth.{unlinked, KeepsNodes, IsFullAmong, RefusesAmong, TableAt, AddsLinks, IsFull, Refuses, LinksAdded}
use Rattle.sdg.specs.NamedGraphs.{Spot, spot, IsSeenAs, AreNamed, RowAt, AddsSeen, SeenAdded}
use Rattle.sdg.proofs.GrowthLemmas.{stands_before, table_same}

-- ---- names of rows stay

row_behind : (o : Option GraphNode) (row : GraphNode) → option_map unlinked o ≡ Some (unlinked row) → (other : GraphNode) × (o ≡ Some other) × (other.name ≡ row.name)
row_behind None row e = absurd (cc)
row_behind (Some other) row e = (other, refl, ap (λ (r : GraphNode). r.name) (same_Some (unlinked other) (unlinked row) e))

pub named_still : (old new : List GraphNode) → map unlinked new ≡ map unlinked old → (k : ℕ) (i : InstKey (List ℕ)) (n : NodeKind) → IsNamed old k i n → IsNamed new k i n
named_still old new same k i n (row, found, name) =
    let e : option_map unlinked (slice_get new k) ≡ Some (unlinked row) = sym (slice_get-map unlinked new k) ∙ ap (λ rows. slice_get rows k) same ∙ slice_get-map unlinked old k ∙ ap (option_map unlinked) found in
    let (other, is, same_name) = row_behind (slice_get new k) row e in
    (other, is, ap node_named same_name ∙ name)

pub row_same : (s t : Growing) → KeepsNodes s t → (k : ℕ) (n : Spot) → RowAt s k n ↔ RowAt t k n
row_same s t kept k n = (named_still s.rows t.rows kept.rows k n.instance n.kind, named_still t.rows s.rows (sym kept.rows) k n.instance n.kind)

-- ---- nodes and spots

module _ {C : Type 0} (list : C → List ℕ) (tells : TellsApart list) (instances : List (ℕ × C)) (once : IsOnceEach instances) where
  the_key : ℕ → C → InstKey C
  the_key m c = record { method = m; context = c }

  same_pair : (a b : InstKey C) → pair_of a ≡ pair_of b → a ≡ b
  unfolding the_key
  same_pair a b e = ap (λ (p : ℕ × C). the_key p.0 p.1) e

  pub same_instance : (a b : InstKey C) → instance_seen list a ≡ instance_seen list b → a ≡ b
  unfolding the_key
  same_instance a b e =
      let em : a.method ≡ b.method = ap (λ (k : InstKey (List ℕ)). k.method) e in
      let ec : a.context ≡ b.context = tells a.context b.context (ap (λ (k : InstKey (List ℕ)). k.context) e) in
      ap (λ (m : ℕ). the_key m a.context) em ∙ ap (λ (c : C). the_key b.method c) ec

  pub same_key : (n : ℕ) (a b : InstKey C) → IsInstance instances n a → IsInstance instances n b → a ≡ b
  same_key n a b at_a at_b = same_pair a b (same_Some (pair_of a) (pair_of b) (sym at_a ∙ at_b))

  pub same_number : (m n : ℕ) (a b : InstKey C) → IsInstance instances m a → IsInstance instances n b → instance_seen list a ≡ instance_seen list b → m ≡ n
  same_number m n a b at_a at_b seen = once m n (pair_of b) (subst (λ key. IsInstance instances m key) (same_instance a b seen) at_a) at_b

  abbrev the_node : ℕ → NodeKind → InstanceNode
  the_node i kind = record { instance = i; kind = kind }

  pub same_node : (a b : InstanceNode) (s : Spot) → IsSeenAs list instances a s → IsSeenAs list instances b s → a ≡ b
  same_node a b s is_a is_b =
      let ei : a.instance ≡ b.instance = same_number a.instance b.instance is_a.key is_b.key is_a.is_key is_b.is_key (is_a.seen ∙ sym is_b.seen) in
      let ek : a.kind ≡ b.kind = is_a.same_kind ∙ sym is_b.same_kind in
      ap (λ (i : ℕ). the_node i a.kind) ei ∙ ap (λ (kind : NodeKind). the_node b.instance kind) ek

  -- both ends are seen so, and the ties are the same
  pub record IsSeenLink (l : Link InstanceNode) (L : Link Spot) : Type 0 where
    pub from : IsSeenAs list instances l.from L.from
    pub tie : l.tie ≡ L.tie
    pub to : IsSeenAs list instances l.to L.to

  pub same_link : (a b : Link InstanceNode) (L : Link Spot) → IsSeenLink a L → IsSeenLink b L → a ≡ b
  same_link a b L is_a is_b =
      let ef : a.from ≡ b.from = same_node a.from b.from L.from is_a.from is_b.from in
      let et : a.tie ≡ b.tie = is_a.tie ∙ sym is_b.tie in
      let eo : a.to ≡ b.to = same_node a.to b.to L.to is_a.to is_b.to in
      ap (λ (n : InstanceNode). link n a.tie a.to) ef ∙ ap (λ (t : Tie). link b.from t a.to) et ∙ ap (λ (n : InstanceNode). link b.from b.tie n) eo

  module _ (graph : Growing) (named : AreNamed list instances graph) where
    row_at : (k : ℕ) (node : InstanceNode) (s : Spot) → InTable graph.nodes k node → IsSeenAs list instances node s → RowAt graph k s
    row_at k node s at seen =
        let (key, is_key, is_named) = named.keyed k node at in
        let e : instance_seen list key ≡ s.instance = ap (instance_seen list) (same_key node.instance key seen.key is_key seen.is_key) ∙ seen.seen in
        subst (λ i. IsNamed graph.rows k i s.kind) e (subst (IsNamed graph.rows k (instance_seen list key)) seen.same_kind is_named)

    link_up : (rows : List GraphNode) (l : Link InstanceNode) (L : Link Spot) → IsSeenLink l L → HasLink (TableAt graph) rows l → HasLink (RowAt graph) rows L
    link_up rows l L seen has = record {
      begin = has.begin;
      end = has.end;
      from = row_at has.begin l.from L.from has.from seen.from;
      to = row_at has.end l.to L.to has.to seen.to;
      tied = subst (λ t. HasTie rows has.begin t has.end) seen.tie has.tied;
    }

    stands_up : (l : Link InstanceNode) (L : Link Spot) → IsSeenLink l L → Stands (TableAt graph) l → Stands (RowAt graph) L
    stands_up l L seen stands = record {
      begin = stands.begin;
      end = stands.end;
      from = row_at stands.begin l.from L.from stands.from seen.from;
      to = row_at stands.end l.to L.to stands.to seen.to;
    }

    link_down : (rows : List GraphNode) (L : Link Spot) → HasLink (RowAt graph) rows L → (l : Link InstanceNode) × (IsSeenLink l L × HasLink (TableAt graph) rows l)
    link_down rows L has =
        let (a, at_a, seen_a) = named.node_of has.begin L.from has.from in
        let (b, at_b, seen_b) = named.node_of has.end L.to has.to in
        (link a L.tie b, (record { from = seen_a; tie = refl; to = seen_b }, record { begin = has.begin; end = has.end; from = at_a; to = at_b; tied = has.tied }))

    stands_down : (L : Link Spot) → Stands (RowAt graph) L → (l : Link InstanceNode) × (IsSeenLink l L × Stands (TableAt graph) l)
    stands_down L stands =
        let (a, at_a, seen_a) = named.node_of stands.begin L.from stands.from in
        let (b, at_b, seen_b) = named.node_of stands.end L.to stands.to in
        (link a L.tie b, (record { from = seen_a; tie = refl; to = seen_b }, record { begin = stands.begin; end = stands.end; from = at_a; to = at_b }))

    seen_of : (k : ℕ) (node : InstanceNode) → InTable graph.nodes k node → (s : Spot) × IsSeenAs list instances node s
    seen_of k node at =
        let (key, is_key, is_named) = named.keyed k node at in
        (spot (instance_seen list key) node.kind, record { key = key; is_key = is_key; seen = refl; same_kind = refl })

    link_seen : (l : Link InstanceNode) → Stands (TableAt graph) l → (L : Link Spot) × IsSeenLink l L
    link_seen l stands =
        let (a, seen_a) = seen_of stands.begin l.from stands.from in
        let (b, seen_b) = seen_of stands.end l.to stands.to in
        (link a l.tie b, record { from = seen_a; tie = refl; to = seen_b })

  pub named_kept : (old new : Growing) → KeepsNodes old new → AreNamed list instances old → AreNamed list instances new
  named_kept old new kept named = record { keyed = keyed; node_of = node_of }
    where
      keyed : (k : ℕ) (node : InstanceNode) → InTable new.nodes k node → (key : InstKey C) × IsInstance instances node.instance key × IsNamed new.rows k (instance_seen list key) node.kind
      keyed k node at =
          let (key, is_key, is_named) = named.keyed k node (subst (λ nodes. InTable nodes k node) kept.nodes at) in
          (key, is_key, named_still old.rows new.rows kept.rows k (instance_seen list key) node.kind is_named)

      node_of : (k : ℕ) (s : Spot) → IsNamed new.rows k s.instance s.kind → (node : InstanceNode) × InTable new.nodes k node × IsSeenAs list instances node s
      node_of k s at =
          let (node, in_table, seen) = named.node_of k s (named_still new.rows old.rows (sym kept.rows) k s.instance s.kind at) in
          (node, subst (λ nodes. InTable nodes k node) (sym kept.nodes) in_table, seen)

  -- ---- what is added by numbers is added by instances

  module _ (old new : Growing) (P : Link InstanceNode → Type 0) (R : Link Spot → Type 0) (named : AreNamed list instances old)
      (alike : (l : Link InstanceNode) (L : Link Spot) → IsSeenLink l L → Stands (TableAt old) l → P l ↔ R L) where
    adds_seen : AddsLinks old new P → AddsSeen old new R
    adds_seen adds = record { kept = adds.kept; links = λ L. (there L, back L) }
      where
        then_named : AreNamed list instances new
        then_named = named_kept old new adds.kept named

        up : (l : Link InstanceNode) (L : Link Spot) → IsSeenLink l L → HasLink (TableAt old) old.rows l ⊎ (Stands (TableAt old) l × P l) → HasLink (RowAt old) old.rows L ⊎ (Stands (RowAt old) L × R L)
        up l L seen (inl had) = inl (link_up old named old.rows l L seen had)
        up l L seen (inr (stands, p)) = inr (stands_up old named l L seen stands, (alike l L seen stands).0 p)

        there : (L : Link Spot) → HasLink (RowAt new) new.rows L → HasLink (RowAt old) old.rows L ⊎ (Stands (RowAt old) L × R L)
        there L has =
            let (l, (seen, has_l)) = link_down new then_named new.rows L has in
            up l L seen ((adds.links l).0 has_l)

        back : (L : Link Spot) → HasLink (RowAt old) old.rows L ⊎ (Stands (RowAt old) L × R L) → HasLink (RowAt new) new.rows L
        back L (inl had) =
            let (l, (seen, had_l)) = link_down old named old.rows L had in
            link_up new then_named new.rows l L seen ((adds.links l).1 (inl had_l))
        back L (inr (stands, r)) =
            let (l, (seen, stands_l)) = stands_down old named L stands in
            link_up new then_named new.rows l L seen ((adds.links l).1 (inr (stands_l, (alike l L seen stands_l).1 r)))

    refuses_seen : (fault : GraphFault) → Refuses fault old new P → RefusesAmong RowAt fault old new R
    refuses_seen fault refuses = record { kept = refuses.kept; full = by_fault fault refuses.full }
      where
        then_named : AreNamed list instances new
        then_named = named_kept old new refuses.kept named

        by_fault : (fault : GraphFault) → IsFull fault new P → IsFullAmong RowAt fault new R
        by_fault Memory full = tt
        by_fault (Limit kind) (is, most, lacks) =
            let (L, seen) = link_seen new then_named lacks.missing lacks.stands in
            let early = stands_before TableAt table_same old new refuses.kept lacks.missing lacks.stands in (
              is,
              most,
              record {
                missing = L;
                belongs = (alike lacks.missing L seen early).0 lacks.belongs;
                stands = stands_up new then_named lacks.missing L seen lacks.stands;
                lacks = λ has. (let (l, (seen_l, has_l)) = link_down new then_named new.rows L has in
                    lacks.lacks (subst (HasLink (TableAt new) new.rows) (same_link l lacks.missing L seen_l seen) has_l));
              },
            )

    pub seen_added : {A : Type 0} (result : Result A GraphFault) → LinksAdded result old new P → SeenAdded result old new R
    seen_added (Ok a) adds = adds_seen adds
    seen_added (Err fault) refuses = refuses_seen fault refuses

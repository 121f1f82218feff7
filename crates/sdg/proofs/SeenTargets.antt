-- What goes between calls and their targets, by numbers and by instances over lists of sites.
use Rattle.std.proofs.Common.{◌≡◌, ◌↔◌, inl, inr, ℕ, Bool, true, false, List, Contains, Some, refl, ap, sym, ◌∙◌, subst}
use Rattle.std.proofs.lemmas.Option.{same_Some}
use Rattle.dep_nodes.specs.declared.kinds.NodeKind.{NodeKind}
use Rattle.dep_nodes.specs.declared.kinds.NodeKind.TheVariants.{Entry, Exit, Instr, Call, RetVal, RetKind, Throw, Catch, Poll, XPoll, Arg, Param, Kind, Value, Thrown}
use Rattle.dep_nodes.specs.declared.kinds.EdgeKind.TheVariants.{Arg as ArgEdge, Call as CallEdge, Ret, Fork as ForkEdge}
use Rattle.dep_nodes.specs.OnceLists.{IsOnceEach}
use Rattle.dep_nodes.proofs.OnceLemmas.{contains_at}
use Rattle.dependence.specs.declared.facts.InstKey.{InstKey}
use Rattle.dependence.specs.declared.facts.Fact.{Fact}
use Rattle.dependence.specs.declared.facts.Fact.TheVariants.{Reached, Holds, CellHolds, Target, Fork, Throws, Stalls}
use Rattle.fact_sets.specs.declared.numbered.CallPlace.{CallPlace}
use Rattle.fact_sets.specs.declared.numbered.NumberedFact.{NumberedFact}
use Rattle.fact_sets.specs.declared.numbered.NumberedFact.TheVariants.{Calls as IsCalled}
use Rattle.fact_sets.specs.FactLists.{FactLists, HasFact, Says, IsInstance, IsCall, called, forked}
use Rattle.fact_sets.specs.Seen.{TellsApart, Known, instance_seen, fact_seen}
use Rattle.sdg.specs.declared.instance_nodes.InstanceNode.{InstanceNode}
use Rattle.sdg.specs.Growing.{Growing}
use Rattle.sdg.specs.Links.{Tie, by_word, by_flow, Link, link, Stands, InTable}
use Rattle.sdg.specs.Growth.{From, TableAt}
use Rattle.sdg.specs.NamedGraphs.{Spot, spot}
use Rattle.sdg.specs.TargetLinks.{node_at, CallLink, ForkLink, ThreadLink, LinkAt, call_pc}
use Rattle.sdg.specs.TargetRules.{ByTarget, gives_argument, calls, comes_back, brings_value, brings_exception, behind_call, starts, starts_on}
use Rattle.sdg.proofs.NamedLemmas.{IsSeenLink, same_number}

-- a call fact by the numbers of its instances
abbrev pub called_at : List NumberedFact → ℕ → ℕ → ℕ → Bool → Type 0
called_at facts i pc j fork = Contains facts (IsCalled (record { instance = i; pc = pc }) j fork)

says_target : {C : Type 0} (instances objects : List (ℕ × C)) (n : NumberedFact) (a b : InstKey C) (p : ℕ) → Says instances objects n (Target a p b) → (call : CallPlace) × ((j : ℕ) × ((n ≡ IsCalled call j false) × IsCall instances call j a p b))
says_target instances objects _ _ _ _ (called call j pc key to is) = (call, (j, (refl, is)))

says_fork : {C : Type 0} (instances objects : List (ℕ × C)) (n : NumberedFact) (a b : InstKey C) (p : ℕ) → Says instances objects n (Fork a p b) → (call : CallPlace) × ((j : ℕ) × ((n ≡ IsCalled call j true) × IsCall instances call j a p b))
says_fork instances objects _ _ _ _ (forked call j pc key to is) = (call, (j, (refl, is)))

abbrev the_call : ℕ → ℕ → CallPlace
the_call i pc = record { instance = i; pc = pc }

module _ {C : Type 0} (list : C → List ℕ) (tells : TellsApart list) (lists : FactLists C) (once : IsOnceEach lists.instances) where
  abbrev Has : Fact (List ℕ) → Type 0
  Has = Known list lists

  abbrev Seen : Link InstanceNode → Link Spot → Type 0
  Seen = IsSeenLink list tells lists.instances once

  -- an instance by its number
  abbrev Is : ℕ → InstKey (List ℕ) → Type 0
  Is n i = (key : InstKey C) × (IsInstance lists.instances n key × (instance_seen list key ≡ i))

  known_target : (m n pc : ℕ) (i j : InstKey (List ℕ)) → Is m i → Is n j → called_at lists.facts m pc n false → Has (Target i pc j)
  known_target m n pc i j (a, (is_a, seen_a)) (b, (is_b, seen_b)) there = record {
    fact = Target a pc b;
    has = record { numbered = IsCalled (the_call m pc) n false; there = there; says = called (the_call m pc) n pc a b (record { caller = is_a; place = refl; target = is_b }) };
    seen = ap (λ (k : InstKey (List ℕ)). Target k pc (instance_seen list b)) seen_a ∙ ap (λ (k : InstKey (List ℕ)). Target i pc k) seen_b;
  }

  known_fork : (m n pc : ℕ) (i j : InstKey (List ℕ)) → Is m i → Is n j → called_at lists.facts m pc n true → Has (Fork i pc j)
  known_fork m n pc i j (a, (is_a, seen_a)) (b, (is_b, seen_b)) there = record {
    fact = Fork a pc b;
    has = record { numbered = IsCalled (the_call m pc) n true; there = there; says = forked (the_call m pc) n pc a b (record { caller = is_a; place = refl; target = is_b }) };
    seen = ap (λ (k : InstKey (List ℕ)). Fork k pc (instance_seen list b)) seen_a ∙ ap (λ (k : InstKey (List ℕ)). Fork i pc k) seen_b;
  }

  -- the numbers of a call that is known are those of its instances
  at_numbers : (m n pc : ℕ) (i j : InstKey (List ℕ)) (fork : Bool) (call : CallPlace) (k : ℕ) (a b : InstKey C) → Is m i → Is n j → instance_seen list a ≡ i → instance_seen list b ≡ j → IsCall lists.instances call k a pc b
      → Contains lists.facts (IsCalled call k fork) → called_at lists.facts m pc n fork
  at_numbers m n pc i j fork call k a b (key_i, (is_i, seen_i)) (key_j, (is_j, seen_j)) seen_a seen_b is there =
      let em : call.instance ≡ m = same_number list tells lists.instances once call.instance m a key_i is.caller is_i (seen_a ∙ sym seen_i) in
      let en : k ≡ n = same_number list tells lists.instances once k n b key_j is.target is_j (seen_b ∙ sym seen_j) in
      let ec : call ≡ the_call m pc = ap (λ (x : ℕ). the_call x call.pc) em ∙ ap (λ (x : ℕ). the_call m x) is.place in
      subst (λ x. Contains lists.facts (IsCalled (the_call m pc) x fork)) en (subst (λ x. Contains lists.facts (IsCalled x k fork)) ec there)

  target_numbers : (m n pc : ℕ) (i j : InstKey (List ℕ)) → Is m i → Is n j → (fact : Fact C) → HasFact lists fact → fact_seen list fact ≡ Target i pc j → called_at lists.facts m pc n false
  target_numbers m n pc i j is_m is_n (Target a p b) has e =
      let ep : p ≡ pc = cc in
      let (call, (k, (same, is))) = says_target lists.instances lists.objects has.numbered a b p has.says in
      at_numbers m n pc i j false call k a b is_m is_n (cc) (cc) (subst (λ x. IsCall lists.instances call k a x b) ep is) (subst (λ x. Contains lists.facts x) same has.there)
  target_numbers m n pc i j is_m is_n (Fork a p b) has e = absurd (cc)
  target_numbers m n pc i j is_m is_n (Reached a) has e = absurd (cc)
  target_numbers m n pc i j is_m is_n (Holds a spot o) has e = absurd (cc)
  target_numbers m n pc i j is_m is_n (CellHolds cell o) has e = absurd (cc)
  target_numbers m n pc i j is_m is_n (Throws a) has e = absurd (cc)
  target_numbers m n pc i j is_m is_n (Stalls a) has e = absurd (cc)

  fork_numbers : (m n pc : ℕ) (i j : InstKey (List ℕ)) → Is m i → Is n j → (fact : Fact C) → HasFact lists fact → fact_seen list fact ≡ Fork i pc j → called_at lists.facts m pc n true
  fork_numbers m n pc i j is_m is_n (Fork a p b) has e =
      let ep : p ≡ pc = cc in
      let (call, (k, (same, is))) = says_fork lists.instances lists.objects has.numbered a b p has.says in
      at_numbers m n pc i j true call k a b is_m is_n (cc) (cc) (subst (λ x. IsCall lists.instances call k a x b) ep is) (subst (λ x. Contains lists.facts x) same has.there)
  fork_numbers m n pc i j is_m is_n (Target a p b) has e = absurd (cc)
  fork_numbers m n pc i j is_m is_n (Reached a) has e = absurd (cc)
  fork_numbers m n pc i j is_m is_n (Holds a spot o) has e = absurd (cc)
  fork_numbers m n pc i j is_m is_n (CellHolds cell o) has e = absurd (cc)
  fork_numbers m n pc i j is_m is_n (Throws a) has e = absurd (cc)
  fork_numbers m n pc i j is_m is_n (Stalls a) has e = absurd (cc)

  -- ---- from numbers

  -- a link of two numbers and kinds, as it is seen
  record Meant (L : Link Spot) (i : ℕ) (a : NodeKind) (t : Tie) (j : ℕ) (b : NodeKind) : Type 0 where
    whole : link (spot L.from.instance a) t (spot L.to.instance b) ≡ L
    from_is : Is i L.from.instance
    to_is : Is j L.to.instance

  meant : (l : Link InstanceNode) (L : Link Spot) → Seen l L → (i : ℕ) (a : NodeKind) (t : Tie) (j : ℕ) (b : NodeKind) → l ≡ link (node_at i a) t (node_at j b) → Meant L i a t j b
  meant l L seen i a t j b is =
      let ea : a ≡ L.from.kind = ap (λ (x : Link InstanceNode). x.from.kind) (sym is) ∙ seen.from.same_kind in
      let et : t ≡ L.tie = ap (λ (x : Link InstanceNode). x.tie) (sym is) ∙ seen.tie in
      let eb : b ≡ L.to.kind = ap (λ (x : Link InstanceNode). x.to.kind) (sym is) ∙ seen.to.same_kind in
      let ei : l.from.instance ≡ i = ap (λ (x : Link InstanceNode). x.from.instance) is in
      let ej : l.to.instance ≡ j = ap (λ (x : Link InstanceNode). x.to.instance) is in
      record {
        whole = ap (λ (k : NodeKind). link (spot L.from.instance k) t (spot L.to.instance b)) ea ∙ ap (λ (x : Tie). link L.from x (spot L.to.instance b)) et ∙ ap (λ (k : NodeKind). link L.from L.tie (spot L.to.instance k)) eb;
        from_is = (seen.from.key, (subst (λ n. IsInstance lists.instances n seen.from.key) ei seen.from.is_key, seen.from.seen));
        to_is = (seen.to.key, (subst (λ n. IsInstance lists.instances n seen.to.key) ej seen.to.is_key, seen.to.seen));
      }

  -- the call goes along the link, or against it
  along : (l : Link InstanceNode) (L : Link Spot) → Seen l L → (i pc j : ℕ) (a : NodeKind) (t : Tie) (b : NodeKind) → l ≡ link (node_at i a) t (node_at j b) → called_at lists.facts i pc j false
      → ((x y : InstKey (List ℕ)) → Has (Target x pc y) → ByTarget Has (link (spot x a) t (spot y b))) → ByTarget Has L
  along l L seen i pc j a t b is there rule =
      let m = meant l L seen i a t j b is in
      subst (ByTarget Has) m.whole (rule L.from.instance L.to.instance (known_target i j pc L.from.instance L.to.instance m.from_is m.to_is there))

  against : (l : Link InstanceNode) (L : Link Spot) → Seen l L → (i pc j : ℕ) (a : NodeKind) (t : Tie) (b : NodeKind) → l ≡ link (node_at j a) t (node_at i b) → called_at lists.facts i pc j false
      → ((x y : InstKey (List ℕ)) → Has (Target x pc y) → ByTarget Has (link (spot y a) t (spot x b))) → ByTarget Has L
  against l L seen i pc j a t b is there rule =
      let m = meant l L seen j a t i b is in
      subst (ByTarget Has) m.whole (rule L.to.instance L.from.instance (known_target i j pc L.to.instance L.from.instance m.to_is m.from_is there))

  to_thread : (l : Link InstanceNode) (L : Link Spot) → Seen l L → (i pc j : ℕ) (a : NodeKind) (t : Tie) (b : NodeKind) → l ≡ link (node_at i a) t (node_at j b) → called_at lists.facts i pc j true
      → ((x y : InstKey (List ℕ)) → Has (Fork x pc y) → ByTarget Has (link (spot x a) t (spot y b))) → ByTarget Has L
  to_thread l L seen i pc j a t b is there rule =
      let m = meant l L seen i a t j b is in
      subst (ByTarget Has) m.whole (rule L.from.instance L.to.instance (known_fork i j pc L.from.instance L.to.instance m.from_is m.to_is there))

  moved : (i p pc j : ℕ) (fork : Bool) → Some p ≡ Some pc → called_at lists.facts i pc j fork → called_at lists.facts i p j fork
  moved i p pc j fork e there = subst (λ x. called_at lists.facts i x j fork) (sym (same_Some p pc e)) there

  by_call : (l : Link InstanceNode) (L : Link Spot) → Seen l L → (i pc j : ℕ) (kind : NodeKind) → call_pc kind ≡ Some pc → called_at lists.facts i pc j false → CallLink i kind j l → ByTarget Has L
  by_call l L seen i pc j (Call p) e there is = along l L seen i p j (Call p) (by_word CallEdge) Entry is (moved i p pc j false e there) (λ x y has. calls x y p has)
  by_call l L seen i pc j (Arg p k) e there is = along l L seen i p j (Arg p k) (by_word ArgEdge) (Param k) is (moved i p pc j false e there) (λ x y has. gives_argument x y p k has)
  by_call l L seen i pc j (RetVal p) e there is = against l L seen i p j Value (by_word Ret) (RetVal p) is (moved i p pc j false e there) (λ x y has. brings_value x y p has)
  by_call l L seen i pc j (RetKind p) e there (inl is) = against l L seen i p j Kind (by_word Ret) (RetKind p) is (moved i p pc j false e there) (λ x y has. comes_back x y p has)
  by_call l L seen i pc j (RetKind p) e there (inr is) = against l L seen i p j Exit by_flow (RetKind p) is (moved i p pc j false e there) (λ x y has. behind_call x y p has)
  by_call l L seen i pc j (Throw p) e there is = against l L seen i p j Thrown (by_word Ret) (Throw p) is (moved i p pc j false e there) (λ x y has. brings_exception x y p has)
  by_call l L seen i pc j Entry e there none = absurd none
  by_call l L seen i pc j Exit e there none = absurd none
  by_call l L seen i pc j (Instr p) e there none = absurd none
  by_call l L seen i pc j (Catch k) e there none = absurd none
  by_call l L seen i pc j (Poll p k) e there none = absurd none
  by_call l L seen i pc j (XPoll p k) e there none = absurd none
  by_call l L seen i pc j (Param k) e there none = absurd none
  by_call l L seen i pc j Kind e there none = absurd none
  by_call l L seen i pc j Value e there none = absurd none
  by_call l L seen i pc j Thrown e there none = absurd none

  by_fork : (l : Link InstanceNode) (L : Link Spot) → Seen l L → (i pc j : ℕ) (kind : NodeKind) → call_pc kind ≡ Some pc → called_at lists.facts i pc j true → ForkLink i kind j l → ByTarget Has L
  by_fork l L seen i pc j (Call p) e there is = to_thread l L seen i p j (Call p) (by_word ForkEdge) Entry is (moved i p pc j true e there) (λ x y has. starts x y p has)
  by_fork l L seen i pc j (Arg p k) e there (first, is) =
      let is0 : l ≡ link (node_at i (Arg p 0)) (by_word ForkEdge) (node_at j (Param 0)) = subst (λ n. l ≡ link (node_at i (Arg p n)) (by_word ForkEdge) (node_at j (Param 0))) first is in
      to_thread l L seen i p j (Arg p 0) (by_word ForkEdge) (Param 0) is0 (moved i p pc j true e there) (λ x y has. starts_on x y p has)
  by_fork l L seen i pc j (RetVal p) e there none = absurd none
  by_fork l L seen i pc j (RetKind p) e there none = absurd none
  by_fork l L seen i pc j (Throw p) e there none = absurd none
  by_fork l L seen i pc j Entry e there none = absurd none
  by_fork l L seen i pc j Exit e there none = absurd none
  by_fork l L seen i pc j (Instr p) e there none = absurd none
  by_fork l L seen i pc j (Catch k) e there none = absurd none
  by_fork l L seen i pc j (Poll p k) e there none = absurd none
  by_fork l L seen i pc j (XPoll p k) e there none = absurd none
  by_fork l L seen i pc j (Param k) e there none = absurd none
  by_fork l L seen i pc j Kind e there none = absurd none
  by_fork l L seen i pc j Value e there none = absurd none
  by_fork l L seen i pc j Thrown e there none = absurd none

  by_thread : (l : Link InstanceNode) (L : Link Spot) → Seen l L → (i pc j : ℕ) (kind : NodeKind) (fork : Bool) → call_pc kind ≡ Some pc → called_at lists.facts i pc j fork → ThreadLink i kind j fork l → ByTarget Has L
  by_thread l L seen i pc j kind true e there links = by_fork l L seen i pc j kind e there links
  by_thread l L seen i pc j kind false e there links = by_call l L seen i pc j kind e there links

  -- ---- to numbers

  module _ (nodes : List InstanceNode) (l : Link InstanceNode) where
    abbrev Gives : Type 0
    Gives = From nodes (LinkAt lists.facts) l

    is_link : (a : NodeKind) (t : Tie) (b : NodeKind) → l.from.kind ≡ a → l.tie ≡ t → l.to.kind ≡ b → l ≡ link (node_at l.from.instance a) t (node_at l.to.instance b)
    is_link a t b ea et eb =
        ap (λ (k : NodeKind). link (node_at l.from.instance k) l.tie l.to) ea ∙ ap (λ (x : Tie). link (node_at l.from.instance a) x l.to) et ∙ ap (λ (k : NodeKind). link (node_at l.from.instance a) t (node_at l.to.instance k)) eb

    given : (node : InstanceNode) (j pc : ℕ) (a : NodeKind) (fork : Bool) → Contains nodes node → node.kind ≡ a → call_pc a ≡ Some pc → called_at lists.facts node.instance pc j fork → ThreadLink node.instance a j fork l → Gives
    given node j pc a fork among ea is_call there links = (
      node,
      among,
      record {
        pc = pc;
        is_call = ap call_pc ea ∙ is_call;
        target = record { instance = j; fork = fork };
        is_target = there;
        links = subst (λ k. ThreadLink node.instance k j fork l) (sym ea) links;
      },
    )

    module _ (stands : Stands (InTable nodes) l) where
      from_among : Contains nodes l.from
      from_among = contains_at nodes stands.begin l.from stands.from

      to_among : Contains nodes l.to
      to_among = contains_at nodes stands.end l.to stands.to

      -- the numbers at the ends of the link
      from_number : (L : Link Spot) → Seen l L → Is l.from.instance L.from.instance
      from_number L seen = (seen.from.key, (seen.from.is_key, seen.from.seen))

      to_number : (L : Link Spot) → Seen l L → Is l.to.instance L.to.instance
      to_number L seen = (seen.to.key, (seen.to.is_key, seen.to.seen))

      pub back_to_numbers : (L : Link Spot) → Seen l L → ByTarget Has L → Gives
      back_to_numbers L seen (gives_argument i j pc k has) =
          let there = target_numbers l.from.instance l.to.instance pc i j (from_number _ seen) (to_number _ seen) has.fact has.has has.seen in
          given l.from l.to.instance pc (Arg pc k) false from_among seen.from.same_kind refl there (is_link (Arg pc k) (by_word ArgEdge) (Param k) seen.from.same_kind seen.tie seen.to.same_kind)
      back_to_numbers L seen (calls i j pc has) =
          let there = target_numbers l.from.instance l.to.instance pc i j (from_number _ seen) (to_number _ seen) has.fact has.has has.seen in
          given l.from l.to.instance pc (Call pc) false from_among seen.from.same_kind refl there (is_link (Call pc) (by_word CallEdge) Entry seen.from.same_kind seen.tie seen.to.same_kind)
      back_to_numbers L seen (comes_back i j pc has) =
          let there = target_numbers l.to.instance l.from.instance pc i j (to_number _ seen) (from_number _ seen) has.fact has.has has.seen in
          given l.to l.from.instance pc (RetKind pc) false to_among seen.to.same_kind refl there (inl (is_link Kind (by_word Ret) (RetKind pc) seen.from.same_kind seen.tie seen.to.same_kind))
      back_to_numbers L seen (behind_call i j pc has) =
          let there = target_numbers l.to.instance l.from.instance pc i j (to_number _ seen) (from_number _ seen) has.fact has.has has.seen in
          given l.to l.from.instance pc (RetKind pc) false to_among seen.to.same_kind refl there (inr (is_link Exit by_flow (RetKind pc) seen.from.same_kind seen.tie seen.to.same_kind))
      back_to_numbers L seen (brings_value i j pc has) =
          let there = target_numbers l.to.instance l.from.instance pc i j (to_number _ seen) (from_number _ seen) has.fact has.has has.seen in
          given l.to l.from.instance pc (RetVal pc) false to_among seen.to.same_kind refl there (is_link Value (by_word Ret) (RetVal pc) seen.from.same_kind seen.tie seen.to.same_kind)
      back_to_numbers L seen (brings_exception i j pc has) =
          let there = target_numbers l.to.instance l.from.instance pc i j (to_number _ seen) (from_number _ seen) has.fact has.has has.seen in
          given l.to l.from.instance pc (Throw pc) false to_among seen.to.same_kind refl there (is_link Thrown (by_word Ret) (Throw pc) seen.from.same_kind seen.tie seen.to.same_kind)
      back_to_numbers L seen (starts i j pc has) =
          let there = fork_numbers l.from.instance l.to.instance pc i j (from_number _ seen) (to_number _ seen) has.fact has.has has.seen in
          given l.from l.to.instance pc (Call pc) true from_among seen.from.same_kind refl there (is_link (Call pc) (by_word ForkEdge) Entry seen.from.same_kind seen.tie seen.to.same_kind)
      back_to_numbers L seen (starts_on i j pc has) =
          let there = fork_numbers l.from.instance l.to.instance pc i j (from_number _ seen) (to_number _ seen) has.fact has.has has.seen in
          given l.from l.to.instance pc (Arg pc 0) true from_among seen.from.same_kind refl there (refl, is_link (Arg pc 0) (by_word ForkEdge) (Param 0) seen.from.same_kind seen.tie seen.to.same_kind)

  pub targets_alike : (graph : Growing) (l : Link InstanceNode) (L : Link Spot) → Seen l L → Stands (TableAt graph) l → From graph.nodes (LinkAt lists.facts) l ↔ ByTarget Has L
  targets_alike graph l L seen stands = (there, back_to_numbers graph.nodes l stands L seen)
    where
      there : From graph.nodes (LinkAt lists.facts) l → ByTarget Has L
      there (node, among, at) = by_thread l L seen node.instance at.pc at.target.instance node.kind at.target.fork at.is_call at.is_target at.links

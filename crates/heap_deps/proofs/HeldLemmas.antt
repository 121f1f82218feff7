-- What the nodes of an instance hold, over lists of sites.
use Rattle.std.specs.Prelude.{◌↔◌}
use Rattle.std.proofs.Common.{◌≡◌, ℕ, List, Contains, refl, ap, ◌∙◌, subst}
use Rattle.jo_ids.specs.declared.ObjKey.{ObjKey}
use Rattle.dep_nodes.specs.declared.kinds.NodeKind.{NodeKind}
use Rattle.dep_nodes.specs.OnceLists.{IsOnceEach}
use Rattle.dependence.specs.declared.facts.InstKey.{InstKey}
use Rattle.dependence.specs.declared.facts.Fact.{Fact}
use Rattle.dependence.specs.declared.facts.Fact.TheVariants.{Reached, Holds, CellHolds, Target as TargetOf, Fork, Throws, Stalls}
use Rattle.fact_sets.specs.declared.numbered.Holder.TheVariants.{Node}
use Rattle.fact_sets.specs.declared.numbered.NumberedFact.{NumberedFact}
use Rattle.fact_sets.specs.declared.numbered.NumberedFact.TheVariants.{Holds as IsHeld}
use Rattle.fact_sets.specs.FactLists.{FactLists, HasFact, Says, IsInstance, held, pair_of}
use Rattle.fact_sets.specs.Seen.{TellsApart, instance_seen, object_seen, fact_seen, Known}
use Rattle.heap_deps.specs.Adds.{From}
use Rattle.heap_deps.specs.ObjectCells.{IsObjectSeen, OfObject}

module _ {C : Type 0} (list : C → List ℕ) where
  pub same_instance : TellsApart list → (a b : InstKey C) → instance_seen list a ≡ instance_seen list b → a ≡ b
  same_instance tells a b e =
      let em : a.method ≡ b.method = ap (λ (k : InstKey (List ℕ)). k.method) e in
      let ec : a.context ≡ b.context = tells a.context b.context (ap (λ (k : InstKey (List ℕ)). k.context) e) in
      let whole : InstKey C → InstKey C = λ k. k in
      ap (λ (m : ℕ). whole (record { method = m; context = a.context })) em ∙ ap (λ (c : C). whole (record { method = b.method; context = c })) ec

  module _ (tells : TellsApart list) (L : FactLists C) where
    kept_known : (f : Fact C) → HasFact L f → Known list L (fact_seen list f)
    kept_known f has = record { fact = f; has = has; seen = refl }

    pub held_known : (i x : ℕ) (key : InstKey C) (spot : NodeKind) (o : ObjKey (List ℕ)) → IsInstance L.instances i key → Contains L.facts (IsHeld (Node i spot) x) → IsObjectSeen list L.objects x o
        → Known list L (Holds (instance_seen list key) spot o)
    held_known i x key spot o is there (k, at, seen) =
        subst (λ q. Known list L (Holds (instance_seen list key) spot q)) seen
        (kept_known (Holds key spot k) (record { numbered = IsHeld (Node i spot) x; there = there; says = held i x spot key k is at }))

    -- a number under which a node holds an object that is seen so
    pub record HeldSeen (i : ℕ) (spot : NodeKind) (o : ObjKey (List ℕ)) : Type 0 where
      pub x : ℕ
      pub there : Contains L.facts (IsHeld (Node i spot) x)
      pub seen : IsObjectSeen list L.objects x o

    held_says : (n : NumberedFact) (i : ℕ) (key : InstKey C) (spot : NodeKind) (k : ObjKey C) → IsOnceEach L.instances → IsInstance L.instances i key → Contains L.facts n
        → Says L.instances L.objects n (Holds key spot k) → HeldSeen i spot (object_seen list k)
    held_says _ i _ _ _ once is there (held j x spot key k is_j at) =
        let e : j ≡ i = once j i (pair_of key) is_j is in
        record { x = x; there = subst (λ m. Contains L.facts (IsHeld (Node m spot) x)) e there; seen = (k, at, refl) }

    held_kept : (i : ℕ) (key : InstKey C) (spot : NodeKind) (o : ObjKey (List ℕ)) → IsOnceEach L.instances → IsInstance L.instances i key
        → (fact : Fact C) → HasFact L fact → fact_seen list fact ≡ Holds (instance_seen list key) spot o → HeldSeen i spot o
    held_kept i key spot o once is (Holds a kind k) has e =
        let ea : a ≡ key = same_instance tells a key (cc) in
        let ek : kind ≡ spot = cc in
        let eo : object_seen list k ≡ o = cc in
        let there : HasFact L (Holds key spot k) = subst (λ q. HasFact L (Holds key q k)) ek (subst (λ q. HasFact L (Holds q kind k)) ea has) in
        subst (λ q. HeldSeen i spot q) eo (held_says there.numbered i key spot k once is there.there there.says)
    held_kept i key spot o once is (Reached a) has e = absurd (cc)
    held_kept i key spot o once is (CellHolds cell k) has e = absurd (cc)
    held_kept i key spot o once is (TargetOf a pc b) has e = absurd (cc)
    held_kept i key spot o once is (Fork a pc b) has e = absurd (cc)
    held_kept i key spot o once is (Throws a) has e = absurd (cc)
    held_kept i key spot o once is (Stalls a) has e = absurd (cc)

    pub known_held : (i : ℕ) (key : InstKey C) (spot : NodeKind) (o : ObjKey (List ℕ)) → IsOnceEach L.instances → IsInstance L.instances i key
        → Known list L (Holds (instance_seen list key) spot o) → HeldSeen i spot o
    known_held i key spot o once is known = held_kept i key spot o once is known.fact known.has known.seen

    -- what the numbers that a node holds make, one by one
    pub from_held : {X : Type 0} (objects : List ℕ) (i : ℕ) (key : InstKey C) (spot : NodeKind) (makes : ObjKey (List ℕ) → X → Type 0) → IsOnceEach L.instances → IsInstance L.instances i key
        → ((x : ℕ) → Contains objects x ↔ Contains L.facts (IsHeld (Node i spot) x)) → (g : X)
        → From objects (OfObject list L.objects makes) g ↔ ((o : ObjKey (List ℕ)) × Known list L (Holds (instance_seen list key) spot o) × makes o g)
    from_held {X} objects i key spot makes once is each g = (there, back)
      where
        there : From objects (OfObject list L.objects makes) g → (o : ObjKey (List ℕ)) × Known list L (Holds (instance_seen list key) spot o) × makes o g
        there (x, among, (o, seen, made)) = (o, held_known i x key spot o is ((each x).0 among) seen, made)

        back : (o : ObjKey (List ℕ)) × Known list L (Holds (instance_seen list key) spot o) × makes o g → From objects (OfObject list L.objects makes) g
        back (o, known, made) =
            let one = known_held i key spot o once is known in
            (one.x, (each one.x).1 one.there, (o, one.seen, made))

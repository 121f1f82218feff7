-- What nodes hold, what calls take and what is added, over lists of sites.
use Rattle.std.proofs.Common.{◌≡◌, ◌↔◌, ◌⊎◌, inl, inr, ℕ, Bool, true, false, List, [], ◌∷◌, ◌++◌, Contains, refl, ap, sym, ◌∙◌, subst}
use Rattle.std.proofs.lemmas.Option.{same_Some}
use Rattle.jo_ids.specs.declared.ObjKey.{ObjKey}
use Rattle.dep_nodes.specs.declared.kinds.NodeKind.{NodeKind}
use Rattle.dep_nodes.specs.OnceLists.{IsOnceEach}
use Rattle.dependence.specs.declared.facts.InstKey.{InstKey}
use Rattle.dependence.specs.declared.facts.Fact.{Fact}
use Rattle.dependence.specs.declared.facts.Fact.TheVariants.{Reached, Holds, CellHolds, Target as TargetOf, Fork, Throws, Stalls}
use Rattle.dependence.specs.declared.facts.Target.{Target}
use Rattle.dependence.specs.FactRules.{IsTarget}
use Rattle.fact_sets.specs.declared.numbered.CallPlace.{CallPlace}
use Rattle.fact_sets.specs.declared.numbered.Holder.TheVariants.{Node}
use Rattle.fact_sets.specs.declared.numbered.NumberedFact.{NumberedFact}
use Rattle.fact_sets.specs.declared.numbered.NumberedFact.TheVariants.{Holds as IsHeld, Calls as IsCalled}
use Rattle.fact_sets.specs.FactLists.{FactLists, HasFact, Says, IsInstance, IsObject, IsCall, held, called, forked, pair_of}
use Rattle.fact_sets.specs.Seen.{TellsApart, instance_seen, object_seen, fact_seen, Known, Listed}
use Rattle.fact_rules.specs.Adds.{Adds, From}
use Rattle.fact_rules.specs.Additions.{IsObjectSeen, IsInstanceSeen, OfObject}
use Rattle.fact_rules.proofs.AddsLemmas.{adds_more, adds_push}
use Rattle.fact_rules.proofs.SeenLemmas.{same_instance, kept_known}

-- one group, and then another
pub adds_both : {X : Type 0} (S T U P Q : X → Type 0) → Adds S T P → Adds T U Q → Adds S U (λ x. P x ⊎ Q x)
adds_both S T U P Q first second = adds_more S T U P Q (λ x. P x ⊎ Q x) first second (λ x. (λ p. p, λ p. p))

module _ {C : Type 0} (list : C → List ℕ) where
  -- ---- what is added

  -- a fact is added
  pub listed_one : (old new : List (Fact C)) (fact : Fact C) → Adds (Contains old) (Contains new) (λ f. f ≡ fact) → Adds (Listed list old) (Listed list new) (λ g. g ≡ fact_seen list fact)
  listed_one old new fact adds g = (there, back)
    where
      part : (f : Fact C) → fact_seen list f ≡ g → Contains old f ⊎ (f ≡ fact) → Listed list old g ⊎ (g ≡ fact_seen list fact)
      part f seen (inl had) = inl (record { fact = f; there = had; seen = seen })
      part f seen (inr is) = inr (sym seen ∙ ap (fact_seen list) is)

      there : Listed list new g → Listed list old g ⊎ (g ≡ fact_seen list fact)
      there listed = part listed.fact listed.seen ((adds listed.fact).0 listed.there)

      back : Listed list old g ⊎ (g ≡ fact_seen list fact) → Listed list new g
      back (inl had) = record { fact = had.fact; there = (adds had.fact).1 (inl had.there); seen = had.seen }
      back (inr is) = record { fact = fact; there = (adds fact).1 (inr refl); seen = sym is }

  pub listed_push : (old : List (Fact C)) (fact : Fact C) → Adds (Listed list old) (Listed list (old ++ fact ∷ [])) (λ g. g ≡ fact_seen list fact)
  listed_push old fact = listed_one old (old ++ fact ∷ []) fact (adds_push old fact)

  -- ---- what numbers name

  abbrev the_key : ℕ → C → ObjKey C
  the_key n c = record { site = n; context = c }

  abbrev the_instance : ℕ → C → InstKey C
  the_instance n c = record { method = n; context = c }

  pub same_object_named : (objects : List (ℕ × C)) (x : ℕ) (a b : ObjKey C) → IsObject objects x a → IsObject objects x b → a ≡ b
  same_object_named objects x a b one other = ap (λ (p : ℕ × C). the_key p.0 p.1) (same_Some (a.site, a.context) (b.site, b.context) (sym one ∙ other))

  pub same_instance_named : (instances : List (ℕ × C)) (x : ℕ) (a b : InstKey C) → IsInstance instances x a → IsInstance instances x b → a ≡ b
  same_instance_named instances x a b one other = ap (λ (p : ℕ × C). the_instance p.0 p.1) (same_Some (a.method, a.context) (b.method, b.context) (sym one ∙ other))

  pub object_seen_so : (objects : List (ℕ × C)) (x : ℕ) (key : ObjKey C) → IsObject objects x key → IsObjectSeen list objects x (object_seen list key)
  object_seen_so objects x key at = (key, at, refl)

  -- a number is seen in one way
  pub one_object_seen : (objects : List (ℕ × C)) (x : ℕ) (key : ObjKey C) (o : ObjKey (List ℕ)) → IsObject objects x key → IsObjectSeen list objects x o → object_seen list key ≡ o
  one_object_seen objects x key o at (other, at_other, seen) = ap (object_seen list) (same_object_named objects x key other at at_other) ∙ seen

  pub one_instance_seen : (instances : List (ℕ × C)) (x : ℕ) (key : InstKey C) (i : InstKey (List ℕ)) → IsInstance instances x key → IsInstanceSeen list instances x i → instance_seen list key ≡ i
  one_instance_seen instances x key i at (other, at_other, seen) = ap (instance_seen list) (same_instance_named instances x key other at at_other) ∙ seen

  -- what is made of the object that a number names
  pub of_object : {X : Type 0} (objects : List (ℕ × C)) (x : ℕ) (key : ObjKey C) (makes : ObjKey (List ℕ) → X → Type 0) → IsObject objects x key → (g : X) → makes (object_seen list key) g ↔ OfObject list objects makes x g
  of_object {X} objects x key makes at g = (λ made. (object_seen list key, (key, at, refl), made), back)
    where
      back : OfObject list objects makes x g → makes (object_seen list key) g
      back (o, seen, made) = subst (λ k. makes k g) (sym (one_object_seen objects x key o at seen)) made

  -- ---- what a node holds

  module _ (tells : TellsApart list) (L : FactLists C) where
    pub held_known : (i x : ℕ) (key : InstKey C) (spot : NodeKind) (o : ObjKey (List ℕ)) → IsInstance L.instances i key → Contains L.facts (IsHeld (Node i spot) x) → IsObjectSeen list L.objects x o
        → Known list L (Holds (instance_seen list key) spot o)
    held_known i x key spot o is there (k, at, seen) =
        subst (λ q. Known list L (Holds (instance_seen list key) spot q)) seen
        (kept_known list tells L (Holds key spot k) (record { numbered = IsHeld (Node i spot) x; there = there; says = held i x spot key k is at }))

    -- a number under which a node holds an object that is seen so
    pub record HeldSeen (i : ℕ) (spot : NodeKind) (o : ObjKey (List ℕ)) : Type 0 where
      pub x : ℕ
      pub there : Contains L.facts (IsHeld (Node i spot) x)
      pub seen : IsObjectSeen list L.objects x o

    held_says : (n : NumberedFact) (i : ℕ) (key : InstKey C) (spot : NodeKind) (k : ObjKey C) → IsOnceEach L.instances → IsInstance L.instances i key → Contains L.facts n
        → Says L.instances L.objects n (Holds key spot k) → HeldSeen i spot (object_seen list k)
    held_says _ i _ _ _ once is there (held j x spot key k is_j at) =
        let e : j ≡ i = once j i (pair_of key) is_j is in
        record { x = x; there = subst (λ m. Contains L.facts (IsHeld (Node m spot) x)) e there; seen = (k, at, refl) }

    held_kept : (i : ℕ) (key : InstKey C) (spot : NodeKind) (o : ObjKey (List ℕ)) → IsOnceEach L.instances → IsInstance L.instances i key
        → (fact : Fact C) → HasFact L fact → fact_seen list fact ≡ Holds (instance_seen list key) spot o → HeldSeen i spot o
    held_kept i key spot o once is (Holds a kind k) has e =
        let ea : a ≡ key = same_instance list tells a key (cc) in
        let ek : kind ≡ spot = cc in
        let eo : object_seen list k ≡ o = cc in
        let there : HasFact L (Holds key spot k) = subst (λ q. HasFact L (Holds key q k)) ek (subst (λ q. HasFact L (Holds q kind k)) ea has) in
        subst (λ q. HeldSeen i spot q) eo (held_says there.numbered i key spot k once is there.there there.says)
    held_kept i key spot o once is (Reached a) has e = absurd (cc)
    held_kept i key spot o once is (CellHolds cell k) has e = absurd (cc)
    held_kept i key spot o once is (TargetOf a pc b) has e = absurd (cc)
    held_kept i key spot o once is (Fork a pc b) has e = absurd (cc)
    held_kept i key spot o once is (Throws a) has e = absurd (cc)
    held_kept i key spot o once is (Stalls a) has e = absurd (cc)

    pub known_held : (i : ℕ) (key : InstKey C) (spot : NodeKind) (o : ObjKey (List ℕ)) → IsOnceEach L.instances → IsInstance L.instances i key
        → Known list L (Holds (instance_seen list key) spot o) → HeldSeen i spot o
    known_held i key spot o once is known = held_kept i key spot o once is known.fact known.has known.seen

    -- what the numbers that a node holds make, one by one
    pub from_held : {X : Type 0} (objects : List ℕ) (i : ℕ) (key : InstKey C) (spot : NodeKind) (makes : ObjKey (List ℕ) → X → Type 0) → IsOnceEach L.instances → IsInstance L.instances i key
        → ((x : ℕ) → Contains objects x ↔ Contains L.facts (IsHeld (Node i spot) x)) → (g : X)
        → From objects (OfObject list L.objects makes) g ↔ ((o : ObjKey (List ℕ)) × Known list L (Holds (instance_seen list key) spot o) × makes o g)
    from_held {X} objects i key spot makes once is each g = (there, back)
      where
        there : From objects (OfObject list L.objects makes) g → (o : ObjKey (List ℕ)) × Known list L (Holds (instance_seen list key) spot o) × makes o g
        there (x, among, (o, seen, made)) = (o, held_known i x key spot o is ((each x).0 among) seen, made)

        back : (o : ObjKey (List ℕ)) × Known list L (Holds (instance_seen list key) spot o) × makes o g → From objects (OfObject list L.objects makes) g
        back (o, known, made) =
            let one = known_held i key spot o once is known in
            (one.x, (each one.x).1 one.there, (o, one.seen, made))

    -- ---- what a call takes

    abbrev IsCalledAt : ℕ → ℕ → Target → Type 0
    IsCalledAt i pc t = Contains L.facts (IsCalled (record { instance = i; pc = pc }) t.instance t.fork)

    -- a target of a call
    pub record TargetSeen (i pc : ℕ) (j : InstKey (List ℕ)) : Type 0 where
      pub target : Target
      pub there : IsCalledAt i pc target
      pub seen : IsInstanceSeen list L.instances target.instance j

    abbrev the_place : ℕ → ℕ → CallPlace
    the_place n p = record { instance = n; pc = p }

    same_call : (call : CallPlace) (i pc : ℕ) → call.instance ≡ i → call.pc ≡ pc → call ≡ record { instance = i; pc = pc }
    same_call call i pc ei ep = ap (λ (n : ℕ). the_place n call.pc) ei ∙ ap (λ (n : ℕ). the_place i n) ep

    call_says : (call : CallPlace) (j i pc : ℕ) (fork : Bool) (key to : InstKey C) → IsOnceEach L.instances → IsInstance L.instances i key → Contains L.facts (IsCalled call j fork)
        → IsCall L.instances call j key pc to → TargetSeen i pc (instance_seen list to)
    call_says call j i pc fork key to once is there says =
        let e : call ≡ record { instance = i; pc = pc } = same_call call i pc (once call.instance i (pair_of key) says.caller is) says.place in
        record {
          target = record { instance = j; fork = fork };
          there = subst (λ (c : CallPlace). Contains L.facts (IsCalled c j fork)) e there;
          seen = (to, says.target, refl);
        }

    target_says : (n : NumberedFact) (i pc : ℕ) (key to : InstKey C) → IsOnceEach L.instances → IsInstance L.instances i key → Contains L.facts n
        → Says L.instances L.objects n (TargetOf key pc to) → TargetSeen i pc (instance_seen list to)
    target_says _ i _ _ _ once is there (called call j pc key to says) = call_says call j i pc false key to once is there says

    fork_says : (n : NumberedFact) (i pc : ℕ) (key to : InstKey C) → IsOnceEach L.instances → IsInstance L.instances i key → Contains L.facts n
        → Says L.instances L.objects n (Fork key pc to) → TargetSeen i pc (instance_seen list to)
    fork_says _ i _ _ _ once is there (forked call j pc key to says) = call_says call j i pc true key to once is there says

    target_kept : (i pc : ℕ) (key : InstKey C) (j : InstKey (List ℕ)) → IsOnceEach L.instances → IsInstance L.instances i key
        → (fact : Fact C) → HasFact L fact → (fact_seen list fact ≡ TargetOf (instance_seen list key) pc j) ⊎ (fact_seen list fact ≡ Fork (instance_seen list key) pc j) → TargetSeen i pc j
    target_kept i pc key j once is (TargetOf a p b) has (inl e) =
        let ea : a ≡ key = same_instance list tells a key (cc) in
        let ep : p ≡ pc = cc in
        let ej : instance_seen list b ≡ j = cc in
        let there : HasFact L (TargetOf key pc b) = subst (λ q. HasFact L (TargetOf key q b)) ep (subst (λ q. HasFact L (TargetOf q p b)) ea has) in
        subst (λ q. TargetSeen i pc q) ej (target_says there.numbered i pc key b once is there.there there.says)
    target_kept i pc key j once is (Fork a p b) has (inr e) =
        let ea : a ≡ key = same_instance list tells a key (cc) in
        let ep : p ≡ pc = cc in
        let ej : instance_seen list b ≡ j = cc in
        let there : HasFact L (Fork key pc b) = subst (λ q. HasFact L (Fork key q b)) ep (subst (λ q. HasFact L (Fork q p b)) ea has) in
        subst (λ q. TargetSeen i pc q) ej (fork_says there.numbered i pc key b once is there.there there.says)
    target_kept i pc key j once is (TargetOf a p b) has (inr e) = absurd (cc)
    target_kept i pc key j once is (Fork a p b) has (inl e) = absurd (cc)
    target_kept i pc key j once is (Reached a) has (inl e) = absurd (cc)
    target_kept i pc key j once is (Reached a) has (inr e) = absurd (cc)
    target_kept i pc key j once is (Holds a spot k) has (inl e) = absurd (cc)
    target_kept i pc key j once is (Holds a spot k) has (inr e) = absurd (cc)
    target_kept i pc key j once is (CellHolds cell k) has (inl e) = absurd (cc)
    target_kept i pc key j once is (CellHolds cell k) has (inr e) = absurd (cc)
    target_kept i pc key j once is (Throws a) has (inl e) = absurd (cc)
    target_kept i pc key j once is (Throws a) has (inr e) = absurd (cc)
    target_kept i pc key j once is (Stalls a) has (inl e) = absurd (cc)
    target_kept i pc key j once is (Stalls a) has (inr e) = absurd (cc)

    pub known_target : (i pc : ℕ) (key : InstKey C) (j : InstKey (List ℕ)) → IsOnceEach L.instances → IsInstance L.instances i key
        → IsTarget (Known list L) (instance_seen list key) pc j → TargetSeen i pc j
    known_target i pc key j once is (inl known) = target_kept i pc key j once is known.fact known.has (inl known.seen)
    known_target i pc key j once is (inr known) = target_kept i pc key j once is known.fact known.has (inr known.seen)

    called_so : (i pc t : ℕ) (fork : Bool) (key to : InstKey C) → IsInstance L.instances i key → IsInstance L.instances t to → Contains L.facts (IsCalled (record { instance = i; pc = pc }) t fork)
        → IsTarget (Known list L) (instance_seen list key) pc (instance_seen list to)
    called_so i pc t false key to is at there =
        inl (kept_known list tells L (TargetOf key pc to)
        (record { numbered = IsCalled (record { instance = i; pc = pc }) t false; there = there; says = called (record { instance = i; pc = pc }) t pc key to (record { caller = is; place = refl; target = at }) }))
    called_so i pc t true key to is at there =
        inr (kept_known list tells L (Fork key pc to)
        (record { numbered = IsCalled (record { instance = i; pc = pc }) t true; there = there; says = forked (record { instance = i; pc = pc }) t pc key to (record { caller = is; place = refl; target = at }) }))

    pub target_known : (i pc : ℕ) (key : InstKey C) (j : InstKey (List ℕ)) → IsInstance L.instances i key → TargetSeen i pc j → IsTarget (Known list L) (instance_seen list key) pc j
    target_known i pc key j is one =
        let (to, at, seen) = one.seen in
        subst (λ q. IsTarget (Known list L) (instance_seen list key) pc q) seen (called_so i pc one.target.instance one.target.fork key to is at one.there)

    -- what the targets of a call make, one by one
    abbrev pub OfTarget : {X : Type 0} → (InstKey (List ℕ) → X → Type 0) → Target → X → Type 0
    OfTarget makes t g = (j : InstKey (List ℕ)) × IsInstanceSeen list L.instances t.instance j × makes j g

    pub from_targets : {X : Type 0} (targets : List Target) (i pc : ℕ) (key : InstKey C) (makes : InstKey (List ℕ) → X → Type 0) → IsOnceEach L.instances → IsInstance L.instances i key
        → ((t : Target) → Contains targets t ↔ IsCalledAt i pc t) → (g : X)
        → From targets (OfTarget makes) g ↔ ((j : InstKey (List ℕ)) × IsTarget (Known list L) (instance_seen list key) pc j × makes j g)
    from_targets {X} targets i pc key makes once is each g = (there, back)
      where
        there : From targets (OfTarget makes) g → (j : InstKey (List ℕ)) × IsTarget (Known list L) (instance_seen list key) pc j × makes j g
        there (t, among, (j, seen, made)) = (j, target_known i pc key j is (record { target = t; there = (each t).0 among; seen = seen }), made)

        back : (j : InstKey (List ℕ)) × IsTarget (Known list L) (instance_seen list key) pc j × makes j g → From targets (OfTarget makes) g
        back (j, known, made) =
            let one = known_target i pc key j once is known in
            (one.target, (each one.target).1 one.there, (j, one.seen, made))

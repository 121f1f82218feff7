-- Facts by the numbers of instances and the sites of objects are those that are kept, seen over contexts as lists of sites.
use Rattle.std.specs.Prelude.{slice_get}
use Rattle.std.proofs.Common.{inl, inr, ◌⊎◌, ◌≡◌, ℕ, ◌<◌, ◌≤◌, false, List, [], length, get_or, Contains, Option, Some, None, refl, sym, ◌∙◌, ap, subst, arith}
use Rattle.std.proofs.lemmas.Option.{slice_get_cases, slice_get_within}
use Rattle.dep_nodes.specs.declared.kinds.NodeKind.{NodeKind}
use Rattle.dep_nodes.specs.OnceLists.{IsOnceEach}
use Rattle.dependence.specs.declared.facts.InstKey.{InstKey}
use Rattle.dependence.specs.declared.facts.Fact.{Fact}
use Rattle.dependence.specs.declared.facts.Fact.TheVariants.{Holds, Target, Throws, Stalls}
use Rattle.dependence.specs.FlowGraph.{AnInstance, AnObject, TargetEnds}
use Rattle.fact_sets.specs.declared.numbered.Holder.TheVariants.{Node}
use Rattle.fact_sets.specs.declared.numbered.NumberedFact.{NumberedFact}
use Rattle.fact_sets.specs.declared.numbered.NumberedFact.TheVariants.{Holds as IsHeld, Calls as IsCalled, Throws as MayThrow, Stalls as MayStall}
use Rattle.fact_sets.specs.FactLists.{FactLists, pair_of, IsInstance, Says, reached, held, in_cell, called, forked, throws, stalls}
use Rattle.fact_sets.specs.Seen.{TellsApart, instance_seen, object_seen, fact_seen, Known}
use Rattle.instance_flows.specs.BySite.{BySite}
use Rattle.instance_flows.proofs.AlikeLemmas.{in_context, SaysAlike}

-- ---- parts of facts

abbrev holder_in : AnInstance → Fact (List ℕ) → AnInstance
holder_in other (Holds i kind o) = i
holder_in other _ = other

abbrev kind_in : NodeKind → Fact (List ℕ) → NodeKind
kind_in other (Holds i kind o) = kind
kind_in other _ = other

abbrev object_in : AnObject → Fact (List ℕ) → AnObject
object_in other (Holds i kind o) = o
object_in other _ = other

abbrev caller_in : AnInstance → Fact (List ℕ) → AnInstance
caller_in other (Target i pc j) = i
caller_in other _ = other

abbrev pc_in : Fact (List ℕ) → ℕ
pc_in (Target i pc j) = pc
pc_in _ = 0

abbrev target_in : AnInstance → Fact (List ℕ) → AnInstance
target_in other (Target i pc j) = j
target_in other _ = other

abbrev thrower_in : AnInstance → Fact (List ℕ) → AnInstance
thrower_in other (Throws i) = i
thrower_in other _ = other

abbrev staller_in : AnInstance → Fact (List ℕ) → AnInstance
staller_in other (Stalls i) = i
staller_in other _ = other

module _ {C : Type 0} (list : C → List ℕ) (apart : TellsApart list) (lists : FactLists C) (once : IsOnceEach lists.instances) where
  -- two instances that are seen alike have one number
  same_key : (a b : InstKey C) → instance_seen list a ≡ instance_seen list b → pair_of a ≡ pair_of b
  same_key a b e =
      let method : a.method ≡ b.method = ap (λ (i : AnInstance). i.method) e in
      let context : a.context ≡ b.context = apart a.context b.context (ap (λ (i : AnInstance). i.context) e) in
      ap (λ k. (k, a.context)) method ∙ ap (λ c. (b.method, c)) context

  same_number : (x y : ℕ) (a b : InstKey C) → IsInstance lists.instances x a → IsInstance lists.instances y b → instance_seen list a ≡ instance_seen list b → x ≡ y
  same_number x y a b is_x is_y e = once x y (pair_of b) (is_x ∙ ap (λ p. Some p) (same_key a b e)) is_y

  -- the instance with a number
  record Named (x : ℕ) : Type 0 where
    key : InstKey C
    is : IsInstance lists.instances x key

  named : (x : ℕ) → x < length lists.instances → Named x
  named x below = by_pair (slice_get lists.instances x) refl
    where
      by_pair : (o : Option (ℕ × C)) → slice_get lists.instances x ≡ o → Named x
      by_pair None e = absurd (none_within (slice_get_cases lists.instances x).1)
        where
          none_within : ((p : ℕ × C) × (x < length lists.instances) × (slice_get lists.instances x ≡ Some p) × (get_or lists.instances x p ≡ p)) ⊎ ((length lists.instances ≤ x) × (slice_get lists.instances x ≡ None)) → ⊥
          none_within (inl there) = some_is_none there.0 (sym there.2 ∙ e)
            where
              some_is_none : (p : ℕ × C) → Some p ≡ None → ⊥
              some_is_none p f = absurd (cc)
          none_within (inr past) = omega (arith, past.0, below)
      by_pair (Some pair) e = record { key = record { method = pair.0; context = pair.1 }; is = e }

  -- the number of an instance of which a fact is kept
  record Numbered (j : InstKey (List ℕ)) (makes : ℕ → NumberedFact) : Type 0 where
    number : ℕ
    key : InstKey C
    is : IsInstance lists.instances number key
    seen : instance_seen list key ≡ j
    among : Contains lists.facts (makes number)

  throws_said : (numbered : NumberedFact) (fact : Fact C) (j : AnInstance) → Contains lists.facts numbered → Says lists.instances lists.objects numbered fact → fact_seen list fact ≡ Throws j → Numbered j MayThrow
  throws_said _ _ j among (reached x k is) e = absurd (cc)
  throws_said _ _ j among (held x y kind k object is_x is_o) e = absurd (cc)
  throws_said _ _ j among (in_cell cell there o object is_c is_o) e = absurd (cc)
  throws_said _ _ j among (called call x pc k to is) e = absurd (cc)
  throws_said _ _ j among (forked call x pc k to is) e = absurd (cc)
  throws_said _ _ j among (throws x k is) e = record { number = x; key = k; is = is; seen = ap (thrower_in j) e; among = among }
  throws_said _ _ j among (stalls x k is) e = absurd (cc)

  stalls_said : (numbered : NumberedFact) (fact : Fact C) (j : AnInstance) → Contains lists.facts numbered → Says lists.instances lists.objects numbered fact → fact_seen list fact ≡ Stalls j → Numbered j MayStall
  stalls_said _ _ j among (reached x k is) e = absurd (cc)
  stalls_said _ _ j among (held x y kind k object is_x is_o) e = absurd (cc)
  stalls_said _ _ j among (in_cell cell there o object is_c is_o) e = absurd (cc)
  stalls_said _ _ j among (called call x pc k to is) e = absurd (cc)
  stalls_said _ _ j among (forked call x pc k to is) e = absurd (cc)
  stalls_said _ _ j among (throws x k is) e = absurd (cc)
  stalls_said _ _ j among (stalls x k is) e = record { number = x; key = k; is = is; seen = ap (staller_in j) e; among = among }

  -- a target of a call of the instance with that number
  record CalledFrom (n pc : ℕ) (j : InstKey (List ℕ)) : Type 0 where
    number : ℕ
    key : InstKey C
    is : IsInstance lists.instances number key
    seen : instance_seen list key ≡ j
    among : Contains lists.facts (IsCalled (record { instance = n; pc = pc }) number false)

  module _ (n : ℕ) (own : InstKey C) (is_n : IsInstance lists.instances n own) where
    held_there : (kind : NodeKind) (o : AnObject) → BySite lists n (Holds (in_context own.method []) kind o)
        → (p : AnObject) × Known list lists (Holds (in_context own.method (list own.context)) kind p) × (o.site ≡ p.site)
    held_there kind o (x, object, among, is, e) =
        (object_seen list object, record { fact = Holds own kind object; has = record { numbered = IsHeld (Node n kind) x; there = among; says = held n x kind own object is_n is }; seen = refl }, e)

    held_said : (numbered : NumberedFact) (fact : Fact C) (kind : NodeKind) (o : AnObject) → Contains lists.facts numbered → Says lists.instances lists.objects numbered fact
        → fact_seen list fact ≡ Holds (in_context own.method (list own.context)) kind o → BySite lists n (Holds (in_context own.method []) kind o)
    held_said _ _ kind o among (reached x k is) e = absurd (cc)
    held_said _ _ kind o among (held x y other k object is_x is_o) e =
        let number : x ≡ n = same_number x n k own is_x is_n (ap (holder_in (in_context own.method (list own.context))) e) in
        let kinds : other ≡ kind = ap (kind_in kind) e in
        let objects : object_seen list object ≡ o = ap (object_in o) e in
        let there : Contains lists.facts (IsHeld (Node n kind) y) = subst (λ a. Contains lists.facts (IsHeld (Node a kind) y)) number (subst (λ k2. Contains lists.facts (IsHeld (Node x k2) y)) kinds among) in
        (y, object, there, is_o, sym (ap (λ (p : AnObject). p.site) objects))
    held_said _ _ kind o among (in_cell cell there x object is_c is_o) e = absurd (cc)
    held_said _ _ kind o among (called call x pc k to is) e = absurd (cc)
    held_said _ _ kind o among (forked call x pc k to is) e = absurd (cc)
    held_said _ _ kind o among (throws x k is) e = absurd (cc)
    held_said _ _ kind o among (stalls x k is) e = absurd (cc)

    target_said : (numbered : NumberedFact) (fact : Fact C) (pc : ℕ) (j : AnInstance) → Contains lists.facts numbered → Says lists.instances lists.objects numbered fact
        → fact_seen list fact ≡ Target (in_context own.method (list own.context)) pc j → CalledFrom n pc j
    target_said _ _ pc j among (reached x k is) e = absurd (cc)
    target_said _ _ pc j among (held x y other k object is_x is_o) e = absurd (cc)
    target_said _ _ pc j among (in_cell cell there x object is_c is_o) e = absurd (cc)
    target_said _ _ pc j among (called call x at k to is) e =
        let number : call.instance ≡ n = same_number call.instance n k own is.caller is_n (ap (caller_in (in_context own.method (list own.context))) e) in
        let place : call.pc ≡ pc = is.place ∙ ap pc_in e in
        let first = subst (λ a. Contains lists.facts (IsCalled (record { instance = a; pc = call.pc }) x false)) number among in
        record { number = x; key = to; is = is.target; seen = ap (target_in j) e; among = subst (λ b. Contains lists.facts (IsCalled (record { instance = n; pc = b }) x false)) place first }
    target_said _ _ pc j among (forked call x at k to is) e = absurd (cc)
    target_said _ _ pc j among (throws x k is) e = absurd (cc)
    target_said _ _ pc j among (stalls x k is) e = absurd (cc)

    target_known : (pc x : ℕ) (k : InstKey C) → IsInstance lists.instances x k → Contains lists.facts (IsCalled (record { instance = n; pc = pc }) x false)
        → Known list lists (Target (in_context own.method (list own.context)) pc (instance_seen list k))
    target_known pc x k is among = record {
      fact = Target own pc k;
      has = record { numbered = IsCalled (record { instance = n; pc = pc }) x false; there = among; says = called (record { instance = n; pc = pc }) x pc own k (record { caller = is_n; place = refl; target = is }) };
      seen = refl;
    }

    throws_there : (pc : ℕ) → TargetEnds (BySite lists n) (in_context own.method []) pc Throws → TargetEnds (Known list lists) (in_context own.method (list own.context)) pc Throws
    throws_there pc (j, target, ends) =
        let at = named j.method target.1 in
        (instance_seen list at.key, target_known pc j.method at.key at.is target.0, record { fact = Throws at.key; has = record { numbered = MayThrow j.method; there = ends; says = throws j.method at.key at.is }; seen = refl })

    stalls_there : (pc : ℕ) → TargetEnds (BySite lists n) (in_context own.method []) pc Stalls → TargetEnds (Known list lists) (in_context own.method (list own.context)) pc Stalls
    stalls_there pc (j, target, ends) =
        let at = named j.method target.1 in
        (instance_seen list at.key, target_known pc j.method at.key at.is target.0, record { fact = Stalls at.key; has = record { numbered = MayStall j.method; there = ends; says = stalls j.method at.key at.is }; seen = refl })

    throws_back : (pc : ℕ) → TargetEnds (Known list lists) (in_context own.method (list own.context)) pc Throws → TargetEnds (BySite lists n) (in_context own.method []) pc Throws
    throws_back pc (j, target, ends) =
        let at = target_said target.has.numbered target.fact pc j target.has.there target.has.says target.seen in
        let end = throws_said ends.has.numbered ends.fact j ends.has.there ends.has.says ends.seen in
        let same : end.number ≡ at.number = same_number end.number at.number end.key at.key end.is at.is (end.seen ∙ sym at.seen) in
        (in_context at.number [], (at.among, slice_get_within lists.instances at.number (pair_of at.key) at.is), subst (λ x. Contains lists.facts (MayThrow x)) same end.among)

    stalls_back : (pc : ℕ) → TargetEnds (Known list lists) (in_context own.method (list own.context)) pc Stalls → TargetEnds (BySite lists n) (in_context own.method []) pc Stalls
    stalls_back pc (j, target, ends) =
        let at = target_said target.has.numbered target.fact pc j target.has.there target.has.says target.seen in
        let end = stalls_said ends.has.numbered ends.fact j ends.has.there ends.has.says ends.seen in
        let same : end.number ≡ at.number = same_number end.number at.number end.key at.key end.is at.is (end.seen ∙ sym at.seen) in
        (in_context at.number [], (at.among, slice_get_within lists.instances at.number (pair_of at.key) at.is), subst (λ x. Contains lists.facts (MayStall x)) same end.among)

    pub seen_alike : SaysAlike (BySite lists n) (Known list lists) (in_context own.method []) (in_context own.method (list own.context))
    seen_alike = record { held = held_there; throws = throws_there; stalls = stalls_there }

    pub alike_seen : SaysAlike (Known list lists) (BySite lists n) (in_context own.method (list own.context)) (in_context own.method [])
    alike_seen = record {
      held = λ kind o known. (o, held_said known.has.numbered known.fact kind o known.has.there known.has.says known.seen, refl);
      throws = throws_back;
      stalls = stalls_back;
    }

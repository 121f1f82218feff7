-- Facts that are kept, by their numbers.
use Rattle.std.proofs.Common.{◌≡◌, ◌↔◌, ℕ, Bool, List, Contains, IsTrue, refl, ap, sym, ◌∙◌, subst}
use Rattle.std.proofs.lemmas.Option.{same_Some}
use Rattle.jo_ids.specs.declared.ObjKey.{ObjKey}
use Rattle.dep_nodes.specs.declared.kinds.NodeKind.{NodeKind}
use Rattle.dep_nodes.specs.OnceLists.{IsOnceEach}
use Rattle.dependence.specs.declared.facts.InstKey.{InstKey}
use Rattle.dependence.specs.declared.facts.Fact.{Fact}
use Rattle.dependence.specs.declared.facts.Fact.TheVariants.{Reached, Holds, Stalls}
use Rattle.fact_sets.specs.declared.numbered.NumberedFact.{NumberedFact}
use Rattle.fact_sets.specs.declared.numbered.Holder.TheVariants.{Node}
use Rattle.fact_sets.specs.declared.numbered.NumberedFact.TheVariants.{Reached as IsReached, Holds as IsHeld, Stalls as MayStall}
use Rattle.fact_sets.specs.FactLists.{FactLists, HasFact, Says, IsInstance, IsObject, reached, held, stalls, pair_of, object_pair}
use Rattle.fact_rules.specs.Adds.{From}
use Rattle.fact_rules.specs.Additions.{SaysHeld}
use Rattle.fact_rules.specs.CallRules.{HandsOn}

module _ {C : Type 0} (lists : FactLists C) where
  -- the number of an instance that runs, and of one that may never end
  reached_number : (n : NumberedFact) (key : InstKey C) → Says lists.instances lists.objects n (Reached key) → (i : ℕ) × ((n ≡ IsReached i) × IsInstance lists.instances i key)
  reached_number _ _ (reached i key is) = (i, (refl, is))

  stalls_number : (n : NumberedFact) (key : InstKey C) → Says lists.instances lists.objects n (Stalls key) → (i : ℕ) × ((n ≡ MayStall i) × IsInstance lists.instances i key)
  stalls_number _ _ (stalls i key is) = (i, (refl, is))

  pub runs_told : (i : ℕ) (key : InstKey C) (b : Bool) → IsOnceEach lists.instances → IsInstance lists.instances i key → IsTrue b ↔ Contains lists.facts (IsReached i) → IsTrue b ↔ HasFact lists (Reached key)
  runs_told i key b once is told = (λ yes. record { numbered = IsReached i; there = told.0 yes; says = reached i key is }, back)
    where
      back : HasFact lists (Reached key) → IsTrue b
      back has =
          let (k, (same, at)) = reached_number has.numbered key has.says in
          let e : k ≡ i = once k i (pair_of key) at is in
          told.1 (subst (λ m. Contains lists.facts m) (same ∙ ap IsReached e) has.there)

  pub stalls_told : (i : ℕ) (key : InstKey C) (b : Bool) → IsOnceEach lists.instances → IsInstance lists.instances i key → IsTrue b ↔ Contains lists.facts (MayStall i) → IsTrue b ↔ HasFact lists (Stalls key)
  stalls_told i key b once is told = (λ yes. record { numbered = MayStall i; there = told.0 yes; says = stalls i key is }, back)
    where
      back : HasFact lists (Stalls key) → IsTrue b
      back has =
          let (k, (same, at)) = stalls_number has.numbered key has.says in
          let e : k ≡ i = once k i (pair_of key) at is in
          told.1 (subst (λ m. Contains lists.facts m) (same ∙ ap MayStall e) has.there)

  pub runs_nowhere : (key : InstKey C) → ((i : ℕ) → IsInstance lists.instances i key → ⊥) → HasFact lists (Reached key) → ⊥
  runs_nowhere key none has = let (k, (same, at)) = reached_number has.numbered key has.says in none k at

  pub stalls_nowhere : (key : InstKey C) → ((i : ℕ) → IsInstance lists.instances i key → ⊥) → HasFact lists (Stalls key) → ⊥
  stalls_nowhere key none has = let (k, (same, at)) = stalls_number has.numbered key has.says in none k at

  -- the numbers of what a node holds
  pub record HeldNumber (key : InstKey C) (spot : NodeKind) (o : ℕ) : Type 0 where
    pub i : ℕ
    pub is : IsInstance lists.instances i key
    pub there : Contains lists.facts (IsHeld (Node i spot) o)

  held_number : (n : NumberedFact) (key : InstKey C) (spot : NodeKind) (object : ObjKey C) → Contains lists.facts n → Says lists.instances lists.objects n (Holds key spot object)
      → (o : ℕ) × (HeldNumber key spot o × IsObject lists.objects o object)
  held_number _ _ _ _ there (held i o spot key object is at) = (o, (record { i = i; is = is; there = there }, at))

  -- what a list of all these numbers says of a node
  pub hands_on : (objects : List ℕ) (j i : InstKey C) (from to : NodeKind) → ((o : ℕ) → Contains objects o ↔ ((k : ℕ) × IsInstance lists.instances k j × Contains lists.facts (IsHeld (Node k from) o)))
      → (f : Fact C) → From objects (SaysHeld lists.objects i to) f ↔ HandsOn (HasFact lists) j from i to f
  hands_on objects j i from to each f = (there, back)
    where
      there : From objects (SaysHeld lists.objects i to) f → HandsOn (HasFact lists) j from i to f
      there (o, among, (key, at, is)) =
          let (k, is_k, has) = (each o).0 among in
          (key, record { numbered = IsHeld (Node k from) o; there = has; says = held k o from j key is_k at }, is)

      back : HandsOn (HasFact lists) j from i to f → From objects (SaysHeld lists.objects i to) f
      back (key, has, is) =
          let (o, (number, at)) = held_number has.numbered j from key has.there has.says in
          (o, (each o).1 (number.i, number.is, number.there), (key, at, is))

  -- the key of a number, of which there is one
  abbrev the_key : ℕ → C → ObjKey C
  the_key n c = record { site = n; context = c }

  same_named : (objects : List (ℕ × C)) (o : ℕ) (a b : ObjKey C) → IsObject objects o a → IsObject objects o b → a ≡ b
  same_named objects o a b one other = ap (λ (p : ℕ × C). the_key p.0 p.1) (same_Some (object_pair a) (object_pair b) (sym one ∙ other))

  pub says_held : (objects : List (ℕ × C)) (i : InstKey C) (spot : NodeKind) (o : ℕ) (key : ObjKey C) → IsObject objects o key → (f : Fact C) → (f ≡ Holds i spot key) ↔ SaysHeld objects i spot o f
  says_held objects i spot o key at f = (λ e. (key, at, e), λ there. there.2 ∙ ap (λ (k : ObjKey C). Holds i spot k) (same_named objects o there.0 key there.1 at))

  -- the numbers under the one number of an instance
  pub held_told : (objects : List ℕ) (i : ℕ) (key : InstKey C) (spot : NodeKind) → IsOnceEach lists.instances → IsInstance lists.instances i key
      → ((o : ℕ) → Contains objects o ↔ Contains lists.facts (IsHeld (Node i spot) o)) → (o : ℕ) → Contains objects o ↔ ((k : ℕ) × IsInstance lists.instances k key × Contains lists.facts (IsHeld (Node k spot) o))
  held_told objects i key spot once is each o = (λ c. (i, is, (each o).0 c), back)
    where
      back : (k : ℕ) × IsInstance lists.instances k key × Contains lists.facts (IsHeld (Node k spot) o) → Contains objects o
      back (k, at, there) = (each o).1 (subst (λ j. Contains lists.facts (IsHeld (Node j spot) o)) (once k i (pair_of key) at is) there)

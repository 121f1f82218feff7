-- What follows from calls, fact by fact.
use Rattle.std.proofs.Common.{◌≡◌, ◌↔◌, ◌⊎◌, inl, inr, ℕ, ◌<◌, List, Contains, Some, length, refl, ap, sym, ◌∙◌, subst}
use Rattle.std.proofs.lemmas.Option.{same_Some, slice_get-get_or}
use Rattle.jo_ids.specs.declared.ObjKey.{ObjKey}
use Rattle.dep_nodes.specs.declared.kinds.NodeKind.{NodeKind}
use Rattle.dep_nodes.specs.declared.kinds.NodeKind.TheVariants.{RetVal, Throw, Value, Thrown}
use Rattle.dep_nodes.proofs.OnceLemmas.{contains_at}
use Rattle.dependence.specs.declared.facts.InstKey.{InstKey}
use Rattle.dependence.specs.declared.facts.Fact.{Fact}
use Rattle.dependence.specs.declared.facts.Fact.TheVariants.{Reached, Holds, CellHolds, Target, Fork, Throws, Stalls}
use Rattle.fact_sets.specs.FactLists.{FactLists, HasFact, IsFactAt}
use Rattle.fact_sets.proofs.SayLemmas.{same_fact}
use Rattle.fact_rules.specs.Adds.{Adds, FromBelow}
use Rattle.fact_sets.specs.Seen.{TellsApart, instance_seen, object_seen, fact_seen, Known, Listed}
use Rattle.fact_rules.specs.CallRules.{ByCall, is_called, comes_back, comes_out, waits, HandsOn, TargetGives, CallGives}
use Rattle.fact_rules.proofs.SeenLemmas.{was_kept, kept_known, seen_adds}

-- what the fact at a place gives
abbrev pub CallGivesAt : {C : Type 0} → FactLists C → ℕ → Fact C → Type 0
CallGivesAt {C} lists place f = (fact : Fact C) × IsFactAt lists place fact × CallGives (HasFact lists) fact f

pub at_same : {C : Type 0} (lists : FactLists C) (place : ℕ) (f g : Fact C) → IsFactAt lists place f → IsFactAt lists place g → f ≡ g
at_same lists place f g one other =
    same_fact lists.instances lists.objects one.numbered other.numbered f g one.says other.says (same_Some one.numbered other.numbered (sym one.at ∙ other.at))

pub gives_at : {C : Type 0} (lists : FactLists C) (place : ℕ) (fact : Fact C) → IsFactAt lists place fact → (f : Fact C) → CallGives (HasFact lists) fact f ↔ CallGivesAt lists place f
gives_at lists place fact at f =
    (λ gives. (fact, at, gives), λ there. subst (λ q. CallGives (HasFact lists) q f) (at_same lists place there.0 fact there.1 at) there.2)

pub place_of : {C : Type 0} (lists : FactLists C) (fact : Fact C) → HasFact lists fact → (place : ℕ) × (place < length lists.facts) × IsFactAt lists place fact
place_of lists fact has =
    let (k, below, is) = has.there in
    (k, below, record { numbered = has.numbered; at = slice_get-get_or lists.facts k has.numbered below ∙ ap Some is; says = has.says })

pub has_at : {C : Type 0} (lists : FactLists C) (place : ℕ) (fact : Fact C) → IsFactAt lists place fact → HasFact lists fact
has_at lists place fact at = record { numbered = at.numbered; there = contains_at lists.facts place at.numbered at.at; says = at.says }

module _ {C : Type 0} (facts : Fact C → Type 0) where
  hands_back : (i j : InstKey C) (pc : ℕ) (f : Fact C) → facts (Reached i) → facts (Target i pc j) → HandsOn facts j Value i (RetVal pc) f → ByCall facts f
  hands_back i j pc f runs takes (o, has, is) = subst (ByCall facts) (sym is) (comes_back i j pc o runs takes has)

  hands_out : (i j : InstKey C) (pc : ℕ) (f : Fact C) → facts (Reached i) → facts (Target i pc j) → HandsOn facts j Thrown i (Throw pc) f → ByCall facts f
  hands_out i j pc f runs takes (o, has, is) = subst (ByCall facts) (sym is) (comes_out i j pc o runs takes has)

  target_gives : (i j : InstKey C) (pc : ℕ) (f : Fact C) → facts (Reached i) → facts (Target i pc j) → TargetGives facts i pc j f → ByCall facts f
  target_gives i j pc f runs takes (inl (inl is)) = subst (ByCall facts) (sym is) (is_called i j pc runs (inl takes))
  target_gives i j pc f runs takes (inl (inr (stalls, is))) = subst (ByCall facts) (sym is) (waits i j pc runs takes stalls)
  target_gives i j pc f runs takes (inr (inl back)) = hands_back i j pc f runs takes back
  target_gives i j pc f runs takes (inr (inr out)) = hands_out i j pc f runs takes out

  call_gives : (fact f : Fact C) → facts fact → CallGives facts fact f → ByCall facts f
  call_gives (Target i pc j) f has (runs, gives) = target_gives i j pc f runs has gives
  call_gives (Fork i pc j) f has (runs, is) = subst (ByCall facts) (sym is) (is_called i j pc runs (inr has))
  call_gives (Reached i) f has none = absurd none
  call_gives (Holds i spot o) f has none = absurd none
  call_gives (CellHolds cell o) f has none = absurd none
  call_gives (Throws i) f has none = absurd none
  call_gives (Stalls i) f has none = absurd none

  -- some fact gives it
  call_given : (f : Fact C) → ByCall facts f → (fact : Fact C) × facts fact × CallGives facts fact f
  call_given _ (is_called i j pc runs (inl takes)) = (Target i pc j, takes, (runs, inl (inl refl)))
  call_given _ (is_called i j pc runs (inr takes)) = (Fork i pc j, takes, (runs, refl))
  call_given _ (comes_back i j pc o runs takes has) = (Target i pc j, takes, (runs, inr (inl (o, has, refl))))
  call_given _ (comes_out i j pc o runs takes has) = (Target i pc j, takes, (runs, inr (inr (o, has, refl))))
  call_given _ (waits i j pc runs takes stalls) = (Target i pc j, takes, (runs, inl (inr (stalls, refl))))

pub by_places : {C : Type 0} (lists : FactLists C) (f : Fact C) → FromBelow (length lists.facts) (CallGivesAt lists) f ↔ ByCall (HasFact lists) f
by_places lists f = (there, back)
  where
    there : FromBelow (length lists.facts) (CallGivesAt lists) f → ByCall (HasFact lists) f
    there (place, below, (fact, at, gives)) = call_gives (HasFact lists) fact f (has_at lists place fact at) gives

    back : ByCall (HasFact lists) f → FromBelow (length lists.facts) (CallGivesAt lists) f
    back by =
        let (fact, has, gives) = call_given (HasFact lists) f by in
        let (place, below, at) = place_of lists fact has in
        (place, below, (fact, at, gives))

-- ---- over lists of sites

module _ {C : Type 0} (list : C → List ℕ) (tells : TellsApart list) (lists : FactLists C) where
  called_seen : (i j : InstKey C) (pc : ℕ) → HasFact lists (Target i pc j) ⊎ HasFact lists (Fork i pc j)
      → Known list lists (Target (instance_seen list i) pc (instance_seen list j)) ⊎ Known list lists (Fork (instance_seen list i) pc (instance_seen list j))
  called_seen i j pc (inl has) = inl (kept_known list tells lists (Target i pc j) has)
  called_seen i j pc (inr has) = inr (kept_known list tells lists (Fork i pc j) has)

  pub by_call_seen : (f : Fact C) → ByCall (HasFact lists) f → ByCall (Known list lists) (fact_seen list f)
  by_call_seen _ (is_called i j pc runs takes) =
      is_called (instance_seen list i) (instance_seen list j) pc (kept_known list tells lists (Reached i) runs) (called_seen i j pc takes)
  by_call_seen _ (comes_back i j pc o runs takes has) =
      comes_back (instance_seen list i) (instance_seen list j) pc (object_seen list o) (kept_known list tells lists (Reached i) runs)
      (kept_known list tells lists (Target i pc j) takes) (kept_known list tells lists (Holds j Value o) has)
  by_call_seen _ (comes_out i j pc o runs takes has) =
      comes_out (instance_seen list i) (instance_seen list j) pc (object_seen list o) (kept_known list tells lists (Reached i) runs)
      (kept_known list tells lists (Target i pc j) takes) (kept_known list tells lists (Holds j Thrown o) has)
  by_call_seen _ (waits i j pc runs takes stalls) =
      waits (instance_seen list i) (instance_seen list j) pc (kept_known list tells lists (Reached i) runs)
      (kept_known list tells lists (Target i pc j) takes) (kept_known list tells lists (Stalls j) stalls)

  -- what a fact that is seen so names
  target_kept : (i j : InstKey (List ℕ)) (pc : ℕ) (fact : Fact C) → HasFact lists fact → fact_seen list fact ≡ Target i pc j
      → (a : InstKey C) × ((b : InstKey C) × (HasFact lists (Target a pc b) × ((instance_seen list a ≡ i) × (instance_seen list b ≡ j))))
  target_kept i j pc (Target a p b) has e = let ep : p ≡ pc = cc in (a, (b, (subst (λ q. HasFact lists (Target a q b)) ep has, (cc, cc))))
  target_kept i j pc (Fork a p b) has e = absurd (cc)
  target_kept i j pc (Reached a) has e = absurd (cc)
  target_kept i j pc (Holds a spot o) has e = absurd (cc)
  target_kept i j pc (CellHolds cell o) has e = absurd (cc)
  target_kept i j pc (Throws a) has e = absurd (cc)
  target_kept i j pc (Stalls a) has e = absurd (cc)

  fork_kept : (i j : InstKey (List ℕ)) (pc : ℕ) (fact : Fact C) → HasFact lists fact → fact_seen list fact ≡ Fork i pc j
      → (a : InstKey C) × ((b : InstKey C) × (HasFact lists (Fork a pc b) × ((instance_seen list a ≡ i) × (instance_seen list b ≡ j))))
  fork_kept i j pc (Fork a p b) has e = let ep : p ≡ pc = cc in (a, (b, (subst (λ q. HasFact lists (Fork a q b)) ep has, (cc, cc))))
  fork_kept i j pc (Target a p b) has e = absurd (cc)
  fork_kept i j pc (Reached a) has e = absurd (cc)
  fork_kept i j pc (Holds a spot o) has e = absurd (cc)
  fork_kept i j pc (CellHolds cell o) has e = absurd (cc)
  fork_kept i j pc (Throws a) has e = absurd (cc)
  fork_kept i j pc (Stalls a) has e = absurd (cc)

  -- an object that a node holds
  held_kept : (b : InstKey C) (j : InstKey (List ℕ)) (spot : NodeKind) (o : ObjKey (List ℕ)) → instance_seen list b ≡ j → (fact : Fact C) → HasFact lists fact → fact_seen list fact ≡ Holds j spot o
      → (x : ObjKey C) × (HasFact lists (Holds b spot x) × (object_seen list x ≡ o))
  held_kept b j spot o is (Holds a k x) has e =
      let seen : Known list lists (fact_seen list (Holds b spot x)) = record { fact = Holds a k x; has = has; seen = cc } in
      (x, (was_kept list tells lists (Holds b spot x) seen, cc))
  held_kept b j spot o is (Target a p c) has e = absurd (cc)
  held_kept b j spot o is (Fork a p c) has e = absurd (cc)
  held_kept b j spot o is (Reached a) has e = absurd (cc)
  held_kept b j spot o is (CellHolds cell x) has e = absurd (cc)
  held_kept b j spot o is (Throws a) has e = absurd (cc)
  held_kept b j spot o is (Stalls a) has e = absurd (cc)

  runs_kept : (a : InstKey C) (i : InstKey (List ℕ)) → instance_seen list a ≡ i → Known list lists (Reached i) → HasFact lists (Reached a)
  runs_kept a i is known = was_kept list tells lists (Reached a) (subst (λ k. Known list lists (Reached k)) (sym is) known)

  stalls_kept : (a : InstKey C) (i : InstKey (List ℕ)) → instance_seen list a ≡ i → Known list lists (Stalls i) → HasFact lists (Stalls a)
  stalls_kept a i is known = was_kept list tells lists (Stalls a) (subst (λ k. Known list lists (Stalls k)) (sym is) known)

  pub by_call_kept : (g : Fact (List ℕ)) → ByCall (Known list lists) g → (f : Fact C) × (ByCall (HasFact lists) f × (fact_seen list f ≡ g))
  by_call_kept _ (is_called i j pc runs (inl takes)) =
      let (a, (b, (has, (is_a, is_b)))) = target_kept i j pc takes.fact takes.has takes.seen in
      (Reached b, (is_called a b pc (runs_kept a i is_a runs) (inl has), ap Reached is_b))
  by_call_kept _ (is_called i j pc runs (inr takes)) =
      let (a, (b, (has, (is_a, is_b)))) = fork_kept i j pc takes.fact takes.has takes.seen in
      (Reached b, (is_called a b pc (runs_kept a i is_a runs) (inr has), ap Reached is_b))
  by_call_kept _ (comes_back i j pc o runs takes gives) =
      let (a, (b, (has, (is_a, is_b)))) = target_kept i j pc takes.fact takes.has takes.seen in
      let (x, (held, is_x)) = held_kept b j Value o is_b gives.fact gives.has gives.seen in
      (Holds a (RetVal pc) x, (comes_back a b pc x (runs_kept a i is_a runs) has held, cc))
  by_call_kept _ (comes_out i j pc o runs takes gives) =
      let (a, (b, (has, (is_a, is_b)))) = target_kept i j pc takes.fact takes.has takes.seen in
      let (x, (held, is_x)) = held_kept b j Thrown o is_b gives.fact gives.has gives.seen in
      (Holds a (Throw pc) x, (comes_out a b pc x (runs_kept a i is_a runs) has held, cc))
  by_call_kept _ (waits i j pc runs takes stalls) =
      let (a, (b, (has, (is_a, is_b)))) = target_kept i j pc takes.fact takes.has takes.seen in
      (Stalls a, (waits a b pc (runs_kept a i is_a runs) has (stalls_kept b j is_b stalls), ap Stalls is_a))

  -- the calls of all facts
  pub all_calls : (old new : List (Fact C)) → Adds (Contains old) (Contains new) (ByCall (HasFact lists)) → Adds (Listed list old) (Listed list new) (ByCall (Known list lists))
  all_calls old new adds = seen_adds list tells old new (ByCall (HasFact lists)) (ByCall (Known list lists)) adds by_call_seen by_call_kept

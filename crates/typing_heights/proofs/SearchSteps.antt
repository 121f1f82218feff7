-- One step of a search.
use Rattle.std.proofs.Common.{◌≡◌, ◌⊎◌, ℕ, zero, suc, ◌+◌, ◌-◌, ◌<◌, ◌≤◌, Bool, true, false, ltb, List, [], ◌∷◌, ◌++◌, length, get_or, Option, Some, None, refl, sym, ◌∙◌, ap, subst, inl, inr, arith, length-append}
use Rattle.std.specs.Prelude.{is_some}
use Rattle.std.specs.List.Sorted.{IsStrictlyIncreasing}
use Rattle.std.proofs.lemmas.Bool.{ltb-true, ltb-false}
use Rattle.std.proofs.lemmas.Grind.{get_or_default_zero}
use Rattle.std.proofs.lemmas.List.{get_or_append_left, get_or-append-add}
use Rattle.std.proofs.lemmas.List.Elements.{Contains-get_or}
use Rattle.jo_prog.specs.declared.program.Program.{Program}
use Rattle.jo_prog.specs.TypingPaths.{Typable, Step, arrives_at, height_of, ends_at, TakesStep, IsPlainAlone, GoesOn, TypingPath}
use Rattle.typing_heights.specs.Searches.{height_at, height_behind, HasSome, Visits}
use Rattle.typing_heights.proofs.PathOrder.{IsStrictlyBefore, by_length, by_less, IsNotAfter, strictly_not_after, strictly_prolonged, same_prolonged}
use Rattle.typing_heights.proofs.PathSteps.{onward}
use Rattle.typing_heights.proofs.SearchState.{HasParent, IsQueued, Searches}
use Rattle.typing_heights.proofs.SearchPaths.{height_stepped, Stands, known, next, far, not_after_length, way_first, stands}

or_none : (o : Option ℕ) → (o ≡ None) ⊎ HasSome o
or_none None = inl refl
or_none (Some h) = inr (h, refl)

none_is_not : (o : Option ℕ) (h : ℕ) → o ≡ None → o ≡ Some h → ⊥
none_is_not o h a b = absurd (cc)

-- each number is below all later ones
rising : (xs : List ℕ) → IsStrictlyIncreasing xs → (i n : ℕ) → i + suc n < length xs → get_or xs i 0 < get_or xs (i + suc n) 0
rising xs rises i zero below = let e : i + 1 ≡ i + suc 0 = omega arith in subst (λ (k : ℕ). get_or xs i 0 < get_or xs k 0) e (rises i (omega arith))
rising xs rises i (suc n) below =
    let before = rising xs rises i n (omega arith) in
    let step = rises (i + suc n) (omega arith) in
    let e : i + suc n + 1 ≡ i + suc (suc n) = omega arith in
    subst (λ (k : ℕ). get_or xs i 0 < get_or xs k 0) e (omega arith)

pub rising_from : (xs : List ℕ) → IsStrictlyIncreasing xs → (i j : ℕ) → i < j → j < length xs → get_or xs i 0 < get_or xs j 0
rising_from xs rises i j less below =
    let e : i + suc (j - suc i) ≡ j = omega arith in
    subst (λ (k : ℕ). get_or xs i 0 < get_or xs k 0) e (rising xs rises i (j - suc i) (subst (λ (k : ℕ). k < length xs) (sym e) below))

-- what a visit does, at the end of the way to its pc
abbrev VisitsEnd : Program → Typable → List Step → List (Option ℕ) → List (Option ℕ) → List ℕ → Type 0
VisitsEnd program t way old new found = Visits program t (arrives_at way) (height_of program t way) old new found

-- the way to a pc that is found
record FoundWay (t : Typable) (program : Program) (way : List Step) (queue found : List ℕ) (new : List (Option ℕ)) (k : ℕ) (path : List Step) : Type 0 where
  place : ℕ
  inside : place < length found
  is_place : k ≡ length queue + place
  step : Step
  same_pc : step.pc ≡ get_or found place 0
  takes : TakesStep t.code (arrives_at way) step.row step.pc
  plain_first : TakesStep t.code (arrives_at way) None step.pc → step.row ≡ None
  has_height : height_at new (get_or found place 0) ≡ Some (height_behind program t (arrives_at way) (height_of program t way) step.row)
  is_way : path ≡ step ∷ way

data WayOf (t : Typable) (program : Program) (old_way : ℕ → List Step) (way : List Step) (queue found : List ℕ) (new : List (Option ℕ)) (k : ℕ) (path : List Step) : Type 0 where
  was : k < length queue → path ≡ old_way k → WayOf t program old_way way queue found new k path
  is_found : FoundWay t program way queue found new k path → WayOf t program old_way way queue found new k path
  outside : length queue + length found ≤ k → WayOf t program old_way way queue found new k path

found_way : (program : Program) (t : Typable) (way : List Step) (queue found : List ℕ) (old new : List (Option ℕ)) → VisitsEnd program t way old new found
    → (k i : ℕ) → k ≡ length queue + i → i < length found → (path : List Step) × FoundWay t program way queue found new k path
found_way program t way queue found old new visits k i e below =
    let fresh = visits.is_new (get_or found i 0) (Contains-get_or found i 0 below) in
    let gets = visits.gets (get_or found i 0) fresh.1.0 fresh.0 fresh.1.1 in
    let step : Step = record { pc = get_or found i 0; row = gets.row } in (
      step ∷ way,
      record {
        place = i;
        inside = below;
        is_place = e;
        step = step;
        same_pc = refl;
        takes = gets.takes;
        plain_first = gets.plain_first;
        has_height = fresh.1.1 ∙ ap (λ h. Some h) gets.same_height;
        is_way = refl;
      },
    )

way_of : (program : Program) (t : Typable) (old_way : ℕ → List Step) (way : List Step) (queue found : List ℕ) (old new : List (Option ℕ)) → VisitsEnd program t way old new found
    → (k : ℕ) → (path : List Step) × WayOf t program old_way way queue found new k path
way_of program t old_way way queue found old new visits k = by_old (ltb k (length queue)) refl
  where
    by_new : length queue ≤ k → (b : Bool) → ltb (k - length queue) (length found) ≡ b → (path : List Step) × WayOf t program old_way way queue found new k path
    by_new from true e =
        let is : k ≡ length queue + (k - length queue) = omega arith in
        let w = found_way program t way queue found old new visits k (k - length queue) is (ltb-true (k - length queue) (length found) e) in
        (w.0, is_found w.1)
    by_new from false e = ([], outside (let h = ltb-false (k - length queue) (length found) e in omega arith))

    by_old : (b : Bool) → ltb k (length queue) ≡ b → (path : List Step) × WayOf t program old_way way queue found new k path
    by_old true e = (old_way k, was (ltb-true k (length queue) e) refl)
    by_old false e = by_new (ltb-false k (length queue) e) (ltb (k - length queue) (length found)) refl

-- what is known once the pc at the end of this way is done
record Done (program : Program) (t : Typable) (old new : List (Option ℕ)) (queue found : List ℕ) (done : ℕ) : Type 0 where
  was_so : Searches program t old queue done
  inside : done < length queue
  live : ends_at program t (arrives_at (was_so.way done)) (height_of program t (was_so.way done)) ≡ false
  visits : VisitsEnd program t (was_so.way done) old new found

abbrev ways : (program : Program) (t : Typable) (old new : List (Option ℕ)) (queue found : List ℕ) (done : ℕ) (d : Done program t old new queue found done)
    → (k : ℕ) → (path : List Step) × WayOf t program d.was_so.way (d.was_so.way done) queue found new k path
ways program t old new queue found done d k = way_of program t d.was_so.way (d.was_so.way done) queue found old new d.visits k

abbrev Found : (program : Program) (t : Typable) (old new : List (Option ℕ)) (queue found : List ℕ) (done : ℕ) (d : Done program t old new queue found done) → ℕ → List Step → Type 0
Found program t old new queue found done d k path = FoundWay t program (d.was_so.way done) queue found new k path

-- the way goes on from the pc that is done
goes_on : (program : Program) (t : Typable) (old new : List (Option ℕ)) (queue found : List ℕ) (done : ℕ) (d : Done program t old new queue found done)
    → GoesOn program t (TypingPath program t) (d.was_so.way done)
goes_on program t old new queue found done d = record {
  steady = d.live;
  first = d.was_so.way done;
  is_first = way_first program t old queue done d.was_so done (arrives_at (d.was_so.way done)) d.inside (d.was_so.arrives done d.inside);
  same_height = refl;
}

found_path : (program : Program) (t : Typable) (old new : List (Option ℕ)) (queue found : List ℕ) (done : ℕ) (d : Done program t old new queue found done)
    → (k : ℕ) (path : List Step) → Found program t old new queue found done d k path → TypingPath program t path
found_path program t old new queue found done d k path w =
    subst (λ (p : List Step). TypingPath program t p) (sym w.is_way)
    (onward program t w.step (d.was_so.way done) (record { is_path = d.was_so.is_path done d.inside; goes_on = goes_on program t old new queue found done d; takes = w.takes }))

-- the pc at a place of the new queue
old_place : (queue found : List ℕ) (k : ℕ) → k < length queue → get_or (queue ++ found) k 0 ≡ get_or queue k 0
old_place queue found k below = get_or_append_left queue found 0 k below

new_place : (queue found : List ℕ) (k i : ℕ) → k ≡ length queue + i → get_or (queue ++ found) k 0 ≡ get_or found i 0
new_place queue found k i e = ap (λ n. get_or (queue ++ found) n 0) e ∙ get_or-append-add queue found i 0

past : (queue found : List ℕ) (k : ℕ) → k < length (queue ++ found) → length queue + length found ≤ k → ⊥
past queue found k below from = let e = length-append queue found in omega arith

found_arrives : (program : Program) (t : Typable) (old new : List (Option ℕ)) (queue found : List ℕ) (done : ℕ) (d : Done program t old new queue found done)
    → (k : ℕ) (path : List Step) → Found program t old new queue found done d k path → arrives_at path ≡ get_or (queue ++ found) k 0
found_arrives program t old new queue found done d k path w =
    ap arrives_at w.is_way ∙ w.same_pc ∙ sym (new_place queue found k w.place w.is_place)

found_height : (program : Program) (t : Typable) (old new : List (Option ℕ)) (queue found : List ℕ) (done : ℕ) (d : Done program t old new queue found done)
    → (k : ℕ) (path : List Step) → Found program t old new queue found done d k path → height_at new (get_or (queue ++ found) k 0) ≡ Some (height_of program t path)
found_height program t old new queue found done d k path w =
    ap (height_at new) (new_place queue found k w.place w.is_place) ∙ w.has_height
    ∙ ap (λ h. Some h) (sym (height_stepped program t (d.was_so.way done) w.step w.takes))
    ∙ ap (λ p. Some (height_of program t p)) (sym w.is_way)

queued_in : (program : Program) (t : Typable) (old new : List (Option ℕ)) (queue found : List ℕ) (done : ℕ) (d : Done program t old new queue found done)
    → (pc h : ℕ) → height_at new pc ≡ Some h → IsQueued (queue ++ found) pc
queued_in program t old new queue found done d pc h is = by_old (or_none (height_at old pc))
  where
    by_old : (height_at old pc ≡ None) ⊎ HasSome (height_at old pc) → IsQueued (queue ++ found) pc
    by_old (inl none) =
        let at = d.visits.has_new pc h none is in
        record {
          place = length queue + at.0;
          inside = (let e = length-append queue found in let b = at.1 in omega arith);
          stands = get_or-append-add queue found at.0 0 ∙ sym (get_or_default_zero found at.0 pc at.1) ∙ at.2;
        }
    by_old (inr some) =
        let q = d.was_so.is_queued pc some.0 some.1 in
        record { place = q.place; inside = (let e = length-append queue found in let b = q.inside in omega arith); stands = old_place queue found q.place q.inside ∙ q.stands }

-- a way of the queue is before each one that is found
before_found : (program : Program) (t : Typable) (old : List (Option ℕ)) (queue : List ℕ) (done : ℕ) (s : Searches program t old queue done) (step : Step)
    → done < length queue → (j : ℕ) → j < length queue → IsStrictlyBefore (s.way j) (step ∷ s.way done)
before_found program t old queue done s step inside j below = by_parent (s.parents j below)
  where
    by_parent : (s.way j ≡ []) ⊎ HasParent s.way done j → IsStrictlyBefore (s.way j) (step ∷ s.way done)
    by_parent (inl none) = by_length (let e = ap length none in omega arith)
    by_parent (inr p) =
        subst (λ (w : List Step). IsStrictlyBefore w (step ∷ s.way done)) (sym p.is_way)
        (strictly_prolonged p.step step (s.way p.parent) (s.way done) (s.in_order p.parent done p.is_done inside))

-- a way that isn't done is as long
as_long : (program : Program) (t : Typable) (old : List (Option ℕ)) (queue : List ℕ) (done : ℕ) (s : Searches program t old queue done) (k : ℕ)
    → done ≤ k → k < length queue → length (s.way done) ≤ length (s.way k)
as_long program t old queue done s k from below = by_test (ltb done k) refl
  where
    by_test : (b : Bool) → ltb done k ≡ b → length (s.way done) ≤ length (s.way k)
    by_test true e = not_after_length (s.way done) (s.way k) (inl (s.in_order done k (ltb-true done k e) below))
    by_test false e = let same : done ≡ k = (let h = ltb-false done k e in omega arith) in subst (λ (n : ℕ). length (s.way done) ≤ length (s.way n)) same (omega arith)

rows_in_order : (a b : Option ℕ) → (b ≡ None → a ≡ None) → IsPlainAlone (is_some a) (is_some b) ⊎ (is_some a ≡ is_some b)
rows_in_order None None f = inr refl
rows_in_order None (Some k) f = inl (refl, refl)
rows_in_order (Some j) None f = absurd (let e = f refl in cc)
rows_in_order (Some j) (Some k) f = inr refl

-- no path to a pc that is found is before the way to it
found_least : (program : Program) (t : Typable) (old new : List (Option ℕ)) (queue found : List ℕ) (done : ℕ) (d : Done program t old new queue found done)
    → (k : ℕ) (path : List Step) → Found program t old new queue found done d k path → (r : List Step) → TypingPath program t r → arrives_at r ≡ get_or (queue ++ found) k 0 → IsNotAfter path r
found_least program t old new queue found done d k path w r is to =
    subst (λ (p : List Step). IsNotAfter p r) (sym w.is_way) (by_stand (stands program t old queue done d.was_so r is))
  where
    to_pc : arrives_at r ≡ w.step.pc
    to_pc = to ∙ new_place queue found k w.place w.is_place ∙ sym w.same_pc

    next_same : (step : Step) (p : List Step) → r ≡ step ∷ p → IsNotAfter (d.was_so.way done) p → TakesStep t.code (arrives_at (d.was_so.way done)) step.row step.pc
        → IsNotAfter (w.step ∷ d.was_so.way done) (step ∷ p)
    next_same step p e (inl h) takes = inl (strictly_prolonged w.step step (d.was_so.way done) p h)
    next_same step p e (inr h) takes =
        let pcs : step.pc ≡ w.step.pc = ap arrives_at (sym e) ∙ to_pc in
        let plain : step.row ≡ None → w.step.row ≡ None = λ none. w.plain_first (subst (λ (row : Option ℕ). TakesStep t.code (arrives_at (d.was_so.way done)) row w.step.pc) none
        (subst (λ (pc : ℕ). TakesStep t.code (arrives_at (d.was_so.way done)) step.row pc) pcs takes)) in
        inr (same_prolonged w.step step (d.was_so.way done) p (sym pcs) (rows_in_order w.step.row step.row plain) h)

    next_at : (n : ℕ) → done ≤ n → n < length queue → (step : Step) (p : List Step) → r ≡ step ∷ p → IsNotAfter (d.was_so.way n) p → TakesStep t.code (get_or queue n 0) step.row step.pc
        → (b : Bool) → ltb done n ≡ b → IsNotAfter (w.step ∷ d.was_so.way done) (step ∷ p)
    next_at n from below step p e h takes true less =
        inl (strictly_prolonged w.step step (d.was_so.way done) p (strictly_not_after (d.was_so.way done) (d.was_so.way n) p (d.was_so.in_order done n (ltb-true done n less) below) h))
    next_at n from below step p e h takes false less =
        let same : n ≡ done = (let l = ltb-false done n less in omega arith) in
        next_same step p e (subst (λ (m : ℕ). IsNotAfter (d.was_so.way m) p) same h)
        (subst (λ (pc : ℕ). TakesStep t.code pc step.row step.pc) (ap (λ m. get_or queue m 0) same ∙ sym (d.was_so.arrives done d.inside)) takes)

    by_stand : Stands t queue done d.was_so.way r → IsNotAfter (w.step ∷ d.was_so.way done) r
    by_stand (known n below e) =
        let fresh = d.visits.is_new (get_or found w.place 0) (Contains-get_or found w.place 0 w.inside) in
        let same : get_or found w.place 0 ≡ get_or queue n 0 = sym w.same_pc ∙ sym to_pc ∙ e in
        absurd (none_is_not (height_at old (get_or queue n 0)) (height_of program t (d.was_so.way n)) (ap (height_at old) (sym same) ∙ fresh.0) (d.was_so.has_height n below))
    by_stand (next n from below step p e h takes) = subst (λ (q : List Step). IsNotAfter (w.step ∷ d.was_so.way done) q) (sym e) (next_at n from below step p e h takes (ltb done n) refl)
    by_stand (far n from below longer) = inl (by_length (let l = as_long program t old queue done d.was_so n from below in omega arith))

-- the new way at a place: an old one, or one that is found
old_or_found : (program : Program) (t : Typable) (old new : List (Option ℕ)) (queue found : List ℕ) (done : ℕ) (d : Done program t old new queue found done)
    → (Q : List Step → Type 0) (k : ℕ) → k < length (queue ++ found) → (k < length queue → Q (d.was_so.way k))
    → ((path : List Step) → Found program t old new queue found done d k path → Q path) → Q (ways program t old new queue found done d k).0
old_or_found program t old new queue found done d Q k below at_old at_found = by_way (ways program t old new queue found done d k).0 (ways program t old new queue found done d k).1
  where
    by_way : (path : List Step) → WayOf t program d.was_so.way (d.was_so.way done) queue found new k path → Q path
    by_way path (was b e) = subst Q (sym e) (at_old b)
    by_way path (is_found w) = at_found path w
    by_way path (outside from) = absurd (past queue found k below from)

-- at an old place it is the old one
old_way : (program : Program) (t : Typable) (old new : List (Option ℕ)) (queue found : List ℕ) (done : ℕ) (d : Done program t old new queue found done)
    → (k : ℕ) → k < length queue → (ways program t old new queue found done d k).0 ≡ d.was_so.way k
old_way program t old new queue found done d k below = by_way (ways program t old new queue found done d k).0 (ways program t old new queue found done d k).1
  where
    by_way : (path : List Step) → WayOf t program d.was_so.way (d.was_so.way done) queue found new k path → path ≡ d.was_so.way k
    by_way path (was b e) = e
    by_way path (is_found w) = absurd (let e = w.is_place in omega arith)
    by_way path (outside from) = absurd (omega arith)

found_parent : (program : Program) (t : Typable) (old new : List (Option ℕ)) (queue found : List ℕ) (done : ℕ) (d : Done program t old new queue found done)
    → (k : ℕ) → k < length (queue ++ found)
    → ((ways program t old new queue found done d k).0 ≡ []) ⊎ HasParent (λ n. (ways program t old new queue found done d n).0) (suc done) k
found_parent program t old new queue found done d k below = by_way (ways program t old new queue found done d k).1
  where
    from_old : (d.was_so.way k ≡ []) ⊎ HasParent d.was_so.way done k → (ways program t old new queue found done d k).0 ≡ d.was_so.way k
        → ((ways program t old new queue found done d k).0 ≡ []) ⊎ HasParent (λ n. (ways program t old new queue found done d n).0) (suc done) k
    from_old (inl none) e = inl (e ∙ none)
    from_old (inr p) e = inr (record {
      parent = p.parent;
      is_done = (let h = p.is_done in omega arith);
      step = p.step;
      is_way = e ∙ p.is_way ∙ ap (λ w. p.step ∷ w) (sym (old_way program t old new queue found done d p.parent (let h = p.is_done in let i = d.inside in omega arith)));
    })

    by_way : WayOf t program d.was_so.way (d.was_so.way done) queue found new k (ways program t old new queue found done d k).0
        → ((ways program t old new queue found done d k).0 ≡ []) ⊎ HasParent (λ n. (ways program t old new queue found done d n).0) (suc done) k
    by_way (was b e) = from_old (d.was_so.parents k b) e
    by_way (is_found w) = inr (record {
      parent = done;
      is_done = omega arith;
      step = w.step;
      is_way = w.is_way ∙ ap (λ v. w.step ∷ v) (sym (old_way program t old new queue found done d done d.inside));
    })
    by_way (outside from) = absurd (past queue found k below from)

found_in_order : (program : Program) (t : Typable) (old new : List (Option ℕ)) (queue found : List ℕ) (done : ℕ) (d : Done program t old new queue found done)
    → (j k : ℕ) → j < k → k < length (queue ++ found)
    → IsStrictlyBefore (ways program t old new queue found done d j).0 (ways program t old new queue found done d k).0
found_in_order program t old new queue found done d j k less below = old_or_found program t old new queue found done d (λ q. IsStrictlyBefore (ways program t old new queue found done d j).0 q) k below
    (λ b. rw (old_way program t old new queue found done d j (omega arith)) (d.was_so.in_order j k less b))
    (λ path w. subst (λ q. IsStrictlyBefore (ways program t old new queue found done d j).0 q) (sym w.is_way)
    (old_or_found program t old new queue found done d (λ q. IsStrictlyBefore q (w.step ∷ d.was_so.way done)) j (omega arith)
    (λ b. before_found program t old queue done d.was_so w.step d.inside j b)
    (λ q v. subst (λ p. IsStrictlyBefore p (w.step ∷ d.was_so.way done)) (sym v.is_way)
    (by_less refl (inr (refl, rw (v.same_pc, w.same_pc) (rising_from found d.visits.rises v.place w.place (let e = v.is_place in let f = w.is_place in omega arith) w.inside)))))))

found_closed : (program : Program) (t : Typable) (old new : List (Option ℕ)) (queue found : List ℕ) (done : ℕ) (d : Done program t old new queue found done)
    → (j : ℕ) → j < suc done → j < length (queue ++ found) → ends_at program t (get_or (queue ++ found) j 0) (height_of program t (ways program t old new queue found done d j).0) ≡ false
    → (row : Option ℕ) (to : ℕ) → TakesStep t.code (get_or (queue ++ found) j 0) row to → IsQueued (queue ++ found) to
found_closed program t old new queue found done d j less below live row to takes = by_test (ltb j done) refl
  where
    inside : j < length queue
    inside = let i = d.inside in omega arith

    at_old : get_or (queue ++ found) j 0 ≡ get_or queue j 0
    at_old = old_place queue found j inside

    more : IsQueued queue to → IsQueued (queue ++ found) to
    more q = record { place = q.place; inside = (let e = length-append queue found in let b = q.inside in omega arith); stands = old_place queue found q.place q.inside ∙ q.stands }

    by_test : (b : Bool) → ltb j done ≡ b → IsQueued (queue ++ found) to
    by_test true e =
        more (d.was_so.closed j (ltb-true j done e) inside
        (ap (λ pc. ends_at program t pc (height_of program t (d.was_so.way j))) (sym at_old)
        ∙ ap (λ w. ends_at program t (get_or (queue ++ found) j 0) (height_of program t w)) (sym (old_way program t old new queue found done d j inside)) ∙ live)
        row to (subst (λ (pc : ℕ). TakesStep t.code pc row to) at_old takes))
    by_test false e =
        let same : j ≡ done = (let h = ltb-false j done e in omega arith) in
        let pcs : get_or (queue ++ found) j 0 ≡ arrives_at (d.was_so.way done) = at_old ∙ ap (λ n. get_or queue n 0) same ∙ sym (d.was_so.arrives done d.inside) in
        let got = d.visits.all row to (subst (λ (pc : ℕ). TakesStep t.code pc row to) pcs takes) in
        queued_in program t old new queue found done d to got.0 got.1

visited_from : (program : Program) (t : Typable) (old new : List (Option ℕ)) (queue found : List ℕ) (done : ℕ) → Done program t old new queue found done
    → Searches program t new (queue ++ found) (suc done)
visited_from program t old new queue found done d = record {
  way = λ k. (ways program t old new queue found done d k).0;
  is_path = λ k below. old_or_found program t old new queue found done d (TypingPath program t) k below (d.was_so.is_path k) (found_path program t old new queue found done d k);
  arrives = λ k below. old_or_found program t old new queue found done d (λ p. arrives_at p ≡ get_or (queue ++ found) k 0) k below
      (λ b. d.was_so.arrives k b ∙ sym (old_place queue found k b)) (found_arrives program t old new queue found done d k);
  has_height = λ k below. old_or_found program t old new queue found done d (λ p. height_at new (get_or (queue ++ found) k 0) ≡ Some (height_of program t p)) k below
      (λ b. ap (height_at new) (old_place queue found k b) ∙ d.visits.kept (get_or queue k 0) (height_of program t (d.was_so.way k)) (d.was_so.has_height k b))
      (found_height program t old new queue found done d k);
  is_queued = queued_in program t old new queue found done d;
  begins = (let e = length-append queue found in let b = d.was_so.begins in omega arith);
  first_way = old_way program t old new queue found done d 0 d.was_so.begins ∙ d.was_so.first_way;
  parents = found_parent program t old new queue found done d;
  in_order = found_in_order program t old new queue found done d;
  least = λ k below r is to. old_or_found program t old new queue found done d (λ p. IsNotAfter p r) k below
      (λ b. d.was_so.least k b r is (to ∙ old_place queue found k b)) (λ path w. found_least program t old new queue found done d k path w r is to);
  closed = found_closed program t old new queue found done d;
}

-- the next pc of the queue is visited
pub visited : (program : Program) (t : Typable) (old new : List (Option ℕ)) (queue found : List ℕ) (done pc height : ℕ) → Searches program t old queue done → done < length queue
    → get_or queue done 0 ≡ pc → height_at old pc ≡ Some height → ends_at program t pc height ≡ false → Visits program t pc height old new found
    → Searches program t new (queue ++ found) (suc done)
visited program t old new queue found done pc height s inside at has live visits =
    let pcs : pc ≡ arrives_at (s.way done) = sym at ∙ sym (s.arrives done inside) in
    let heights : height ≡ height_of program t (s.way done) = some_same height (height_of program t (s.way done)) (sym has ∙ ap (height_at old) (sym at) ∙ s.has_height done inside) in
    visited_from program t old new queue found done (record {
      was_so = s;
      inside = inside;
      live = ap (λ p. ends_at program t p (height_of program t (s.way done))) (sym pcs) ∙ ap (λ h. ends_at program t pc h) (sym heights) ∙ live;
      visits = subst (λ (p : ℕ). Visits program t p (height_of program t (s.way done)) old new found) pcs (subst (λ (h : ℕ). Visits program t pc h old new found) heights visits);
    })
  where
    some_same : (a b : ℕ) → Some a ≡ Some b → a ≡ b
    some_same a b e = ap (λ (o : Option ℕ). elim o [ Some x ↦ x | None ↦ a ]) e

-- the code ends there
pub rested : (program : Program) (t : Typable) (heights : List (Option ℕ)) (queue : List ℕ) (done pc height : ℕ) → Searches program t heights queue done → done < length queue
    → get_or queue done 0 ≡ pc → height_at heights pc ≡ Some height → ends_at program t pc height ≡ true → Searches program t heights queue (suc done)
rested program t heights queue done pc height s inside at has ends = record {
  way = s.way;
  is_path = s.is_path;
  arrives = s.arrives;
  has_height = s.has_height;
  is_queued = s.is_queued;
  begins = s.begins;
  first_way = s.first_way;
  in_order = s.in_order;
  least = s.least;
  parents = λ k below. later (s.parents k below);
  closed = closed_on;
}
  where
    later : {k : ℕ} → (s.way k ≡ []) ⊎ HasParent s.way done k → (s.way k ≡ []) ⊎ HasParent s.way (suc done) k
    later (inl none) = inl none
    later (inr p) = inr (record { parent = p.parent; is_done = (let h = p.is_done in omega arith); step = p.step; is_way = p.is_way })

    closed_on : (j : ℕ) → j < suc done → j < length queue → ends_at program t (get_or queue j 0) (height_of program t (s.way j)) ≡ false
        → (row : Option ℕ) (to : ℕ) → TakesStep t.code (get_or queue j 0) row to → IsQueued queue to
    closed_on j less below live row to takes = by_test (ltb j done) refl
      where
        by_test : (b : Bool) → ltb j done ≡ b → IsQueued queue to
        by_test true e = s.closed j (ltb-true j done e) below live row to takes
        by_test false e =
            let same : j ≡ done = (let h = ltb-false j done e in omega arith) in
            let some = sym (s.has_height j below) ∙ ap (λ n. height_at heights (get_or queue n 0)) same ∙ ap (height_at heights) at ∙ has in
            absurd (never (ends_at program t (get_or queue j 0) (height_of program t (s.way j))) live
            (ap (λ n. ends_at program t (get_or queue n 0) (height_of program t (s.way j))) same ∙ ap (λ p. ends_at program t p (height_of program t (s.way j))) at
            ∙ ap (λ (o : Option ℕ). ends_at program t pc (elim o [ Some x ↦ x | None ↦ height ])) some ∙ ends))
          where
            never : (b : Bool) → b ≡ false → b ≡ true → ⊥
            never b f g = absurd (cc)

-- A search goes on while pcs of its queue aren't done.
use Rattle.std.proofs.Common.{◌≡◌, ℕ, zero, suc, ◌+◌, ◌<◌, ◌≤◌, ◌≢◌, Bool, true, false, ltb, List, [], ◌∷◌, ◌++◌, length, get_or, set, replicate, Option, Some, None, refl, sym, ◌∙◌, ap, subst, inl, inr, arith, append-nil}
use Rattle.std.proofs.lemmas.Bool.{ltb-true, ltb-false}
use Rattle.std.proofs.lemmas.List.{length-replicate, get_or-set_same, get_or-set_other, get_or-replicate, get_or_past}
use Rattle.jo_prog.specs.declared.program.Program.{Program}
use Rattle.jo_prog.specs.TypingPaths.{Typable}
use Rattle.typing_heights.specs.Searches.{height_at, VisitsOrRests, VisitsAt, Advances, AreHeights}
use Rattle.typing_heights.proofs.SearchState.{Searches}
use Rattle.typing_heights.proofs.SearchSteps.{visited, rested}
use Rattle.typing_heights.proofs.SearchEnds.{started, reached, height_is_first, first_has_height}

pub advanced : (program : Program) (t : Typable) (old new : List (Option ℕ)) (queue found : List ℕ) (done pc : ℕ) → Searches program t old queue done → done < length queue
    → pc ≡ get_or queue done 0 → Advances program t pc old new found → Searches program t new (queue ++ found) (suc done)
advanced program t old new queue found done pc s inside at advances =
    let has = ap (height_at old) at ∙ s.has_height done inside in
    by_kind _ has (subst (λ (o : Option ℕ). VisitsAt program t pc o old new found) has advances)
  where
    by_kind : (height : ℕ) → height_at old pc ≡ Some height → VisitsOrRests program t pc height old new found → Searches program t new (queue ++ found) (suc done)
    by_kind height has (inl v) = visited program t old new queue found done pc height s inside (sym at) has v.0 v.1
    by_kind height has (inr r) =
        subst (λ (l : List ℕ). Searches program t new (queue ++ l) (suc done)) (sym r.1.none)
        (subst (λ (q : List ℕ). Searches program t new q (suc done)) (sym (append-nil queue))
        (subst (λ (h : List (Option ℕ)). Searches program t h queue (suc done)) (sym r.1.same) (rested program t old queue done pc height s inside (sym at) has r.0)))

pub begun : (program : Program) (t : Typable) (n : ℕ) (heights : List (Option ℕ)) → heights ≡ set (replicate (n + 1) None) 0 (Some 0) → Searches program t heights (0 ∷ []) 0
begun program t n heights is = subst (λ (h : List (Option ℕ)). Searches program t h (0 ∷ []) 0) (sym is) (started program t table here alone)
  where
    table : List (Option ℕ)
    table = set (replicate (n + 1) None) 0 (Some 0)

    here : height_at (set (replicate (n + 1) None) 0 (Some 0)) 0 ≡ Some 0
    here = get_or-set_same (replicate (n + 1) None) 0 (Some 0) None (let l = length-replicate {A = Option ℕ} (n + 1) None in omega arith)

    none_by : (k : ℕ) (b : Bool) → ltb k (n + 1) ≡ b → height_at (replicate (n + 1) None) k ≡ None
    none_by k true e = get_or-replicate (n + 1) k None None (ltb-true k (n + 1) e)
    none_by k false e = get_or_past (replicate (n + 1) None) k None (let l = length-replicate {A = Option ℕ} (n + 1) None in let p = ltb-false k (n + 1) e in omega arith)

    alone : (pc h : ℕ) → height_at (set (replicate (n + 1) None) 0 (Some 0)) pc ≡ Some h → pc ≡ 0
    alone zero h e = refl
    alone (suc k) h e =
        let other : suc k ≢ 0 = (λ f. absurd (omega arith)) in
        let none = none_by (suc k) (ltb (suc k) (n + 1)) refl in
        absurd (never (height_at (replicate (n + 1) None) (suc k)) h none (sym (get_or-set_other (replicate (n + 1) None) 0 (suc k) (Some 0) None other) ∙ e))
      where
        never : (o : Option ℕ) (x : ℕ) → o ≡ None → o ≡ Some x → ⊥
        never o x f g = absurd (cc)

pub are_heights : (program : Program) (t : Typable) (heights : List (Option ℕ)) (queue : List ℕ) (done : ℕ) → Searches program t heights queue done → length queue ≤ done
    → AreHeights program t heights
are_heights program t heights queue done s all = record {
  is_first = height_is_first program t heights queue done s;
  has_first = first_has_height program t heights queue done s all;
  reached = λ path is.
      let q = reached program t heights queue done s all path is in
      (_, ap (height_at heights) (sym q.stands) ∙ s.has_height q.place q.inside);
}

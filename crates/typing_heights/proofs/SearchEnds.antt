-- How a search begins, and what it has found at its end.
use Rattle.std.proofs.Common.{◌≡◌, ℕ, zero, suc, ◌<◌, ◌≤◌, List, [], ◌∷◌, length, get_or, Option, Some, None, refl, sym, ◌∙◌, ap, inl, inr, arith}
use Rattle.jo_prog.specs.declared.program.Program.{Program}
use Rattle.jo_prog.specs.TypingPaths.{Typable, Step, arrives_at, height_of, IsFirst, TypingPath}
use Rattle.typing_heights.specs.Searches.{height_at}
use Rattle.typing_heights.proofs.PathSteps.{begins}
use Rattle.typing_heights.proofs.PathOrder.{by_length, IsNotAfter}
use Rattle.typing_heights.proofs.SearchState.{IsQueued, Searches}
use Rattle.typing_heights.proofs.SearchPaths.{Stands, known, next, far, way_first, first_height, stands}

-- no other path is before the empty one
empty_first : (r : List Step) → IsNotAfter [] r
empty_first [] = inr (record { pcs = refl; rows = inr refl })
empty_first (s ∷ r) = inl (by_length (omega arith))

pub started : (program : Program) (t : Typable) (heights : List (Option ℕ)) → height_at heights 0 ≡ Some 0 → ((pc h : ℕ) → height_at heights pc ≡ Some h → pc ≡ 0)
    → Searches program t heights (0 ∷ []) 0
started program t heights zeroth alone = record {
  way = λ k. [];
  is_path = λ k below. begins program t;
  arrives = λ k below. at_zero k below;
  has_height = λ k below. ap (height_at heights) (sym (at_zero k below)) ∙ zeroth;
  is_queued = λ pc h is. record { place = 0; inside = omega arith; stands = sym (alone pc h is) };
  begins = omega arith;
  first_way = refl;
  parents = λ k below. inl refl;
  in_order = λ j k less below. absurd (no_two j k less below);
  least = λ k below r is to. empty_first r;
  closed = λ j less. absurd (omega arith);
}
  where
    no_two : (j k : ℕ) → j < k → k < length {A = ℕ} (0 ∷ []) → ⊥
    no_two j k less below = omega arith

    at_zero : (k : ℕ) → k < length {A = ℕ} (0 ∷ []) → 0 ≡ get_or {A = ℕ} (0 ∷ []) k 0
    at_zero zero below = refl
    at_zero (suc k) below = absurd (omega arith)

-- each path arrives at a pc of the queue
pub reached : (program : Program) (t : Typable) (heights : List (Option ℕ)) (queue : List ℕ) (done : ℕ) (s : Searches program t heights queue done) → length queue ≤ done
    → (r : List Step) → TypingPath program t r → IsQueued queue (arrives_at r)
reached program t heights queue done s all r is = by_stand (stands program t heights queue done s r is)
  where
    by_stand : Stands t queue done s.way r → IsQueued queue (arrives_at r)
    by_stand (known k below e) = record { place = k; inside = below; stands = sym e }
    by_stand (next k from below step p e h takes) = absurd (omega arith)
    by_stand (far k from below longer) = absurd (omega arith)

-- the height at a pc is that of the first path that arrives there
pub height_is_first : (program : Program) (t : Typable) (heights : List (Option ℕ)) (queue : List ℕ) (done : ℕ) (s : Searches program t heights queue done)
    → (pc h : ℕ) → height_at heights pc ≡ Some h → (path : List Step) × (IsFirst (TypingPath program t) pc path) × (height_of program t path ≡ h)
height_is_first program t heights queue done s pc h is =
    let q = s.is_queued pc h is in (
      s.way q.place,
      way_first program t heights queue done s q.place pc q.inside (sym q.stands),
      some_same (height_of program t (s.way q.place)) h (sym (s.has_height q.place q.inside) ∙ ap (height_at heights) q.stands ∙ is),
    )
  where
    some_same : (a b : ℕ) → Some a ≡ Some b → a ≡ b
    some_same a b e = ap (λ (o : Option ℕ). elim o [ Some x ↦ x | None ↦ a ]) e

pub first_has_height : (program : Program) (t : Typable) (heights : List (Option ℕ)) (queue : List ℕ) (done : ℕ) (s : Searches program t heights queue done) → length queue ≤ done
    → (pc : ℕ) (path : List Step) → IsFirst (TypingPath program t) pc path → height_at heights pc ≡ Some (height_of program t path)
first_has_height program t heights queue done s all pc path is =
    let q = reached program t heights queue done s all path is.is_path in
    let at : pc ≡ get_or queue q.place 0 = sym is.arrives ∙ sym q.stands in
    ap (height_at heights) at ∙ s.has_height q.place q.inside
    ∙ ap (λ h. Some h) (first_height program t heights queue done s q.place pc path q.inside at is)

-- An instruction that is no call and no return keeps a typed state typed.
use Rattle.std.proofs.Common.{◌≡◌, ◌∙◌, ℕ, Bool, true, false, List, [], ◌∷◌, ◌++◌, map, length, drop, pos, Option, Some, None, refl, sym, ap, subst}
use Rattle.std.specs.Prelude.{slice_get, slice_set, Contains}
use Rattle.jo_prog.specs.declared.program.Program.{Program}
use Rattle.jo_prog.specs.declared.program.TypeRef.{TypeRef}
use Rattle.jo_prog.specs.Sites.{class_raised}
use Rattle.jo_prog.specs.Typing.{Kind, Ref}
use Rattle.jo_prog.specs.Shapes.{Origin, Effect, kind_from, written, after, takes_type}
use Rattle.jo_prog.specs.InsnTyping.{throwable}
use Rattle.jo_prog.specs.TypingPaths.{shape_of, effect_at, successors_at, IsTypedMethod}
use Rattle.jo_prog.specs.Values.{Value, ref, Info, object, array}
use Rattle.jo_prog.specs.Machine.{Frame, Thread, HeapObject, State}
use Rattle.machine.specs.Instructions.{Instruction}
use Rattle.machine.specs.Execution as does
use Rattle.machine.specs.Execution.{Outcome, cell_read, exec}
use Rattle.machine.specs.Invocation.{type_of}
use Rattle.machine.specs.Heaps.{new_object, new_address, with_new, with_content}
use Rattle.machine.specs.Steps.{ways, fits, read_from, with_frames, fetched, with_written, applied, apply_outcome, executed}
use Rattle.jo_prog.specs.Machine.{info_at}
use Rattle.step_laws.specs.TypedStates.{an_object, PlaceHasKind, set, IsOnStack, Pairwise, no_more, one_more, HasShape, IsReady, AreWaiting, StandsAt, IsTypedState}
use Rattle.step_laws.specs.Premises.{HasSoundHierarchy}
use Rattle.step_laws.specs.Growth.{CanBeMade}
use Rattle.step_laws.specs.Effects.{HasEffect, IsMade, Follows, by_push, by_write, by_put, by_jump, by_raise, by_throw, by_new, by_return}
use Rattle.step_laws.proofs.TypeLemmas.{never, same_some}
use Rattle.step_laws.proofs.ExecLemmas.{instructions_go}
use Rattle.step_laws.proofs.KeptLemmas.{pairwise_map, place_kept, stack_kept, all_waiting_kept, written_kept}
use Rattle.step_laws.proofs.NewLemmas.{new_kept}
use Rattle.step_laws.proofs.FetchLemmas.{frame_gives}
use Rattle.kept_laws.specs.Paths.{prolonged_by}
use Rattle.typing_heights.specs.FirstPaths.{HasFirstPaths}
use Rattle.kept_laws.specs.Kept.{HasTypedStep}
use Rattle.kept_laws.specs.Going.{goes_elsewhere, is_return, LeadsOn, HasRaisedClasses}
use Rattle.kept_laws.proofs.PathLemmas.{prolonged}
use Rattle.kept_laws.proofs.ThreadLemmas.{frames_set}
use Rattle.kept_laws.proofs.OutcomeLemmas.{goes_away, lands, no_return}
use Rattle.kept_laws.proofs.GrowthLemmas.{pushed_there, pairwise_append, pairwise_set, IsGrown, not_grown, written_grown, new_grown}

-- the frame at another pc, with other values
abbrev moved : Frame → ℕ → List (Option (Value ℕ)) → List (Value ℕ) → Frame
moved f to locals stack = record { method = f.method; pc = to; locals = locals; stack = stack }

-- what is made is of the type, and can be made
made_fits : (program : Program) (type : TypeRef) (info : Info) → IsMade program type info → takes_type program (type_of info) type ≡ true
made_fits program type (object c) made = made.1
made_fits program type (array elements count) made = made.0

can_be_made : (program : Program) (type : TypeRef) (info : Info) → IsMade program type info → CanBeMade program info
can_be_made program type (object c) made = made.0
can_be_made program type (array elements count) made = made.1

-- an object keeps the info with which it is made
new_info : (program : Program) (info : Info) → (new_object program info).info ≡ info
new_info program (object c) = refl
new_info program (array type count) = refl

module _ (program : Program) (sound : HasSoundHierarchy program) (raised : HasRaisedClasses program) (s : State) (state : IsTypedState program s)
    (t : ℕ) (thread : Thread) (at : slice_get s.threads t ≡ Some thread) (f : Frame) (below : List Frame) (typed : IsTypedMethod program f.method)
    (firsts : HasFirstPaths program f.method) (ready : IsReady program s.heap f) (waiting : AreWaiting program s.heap f.method below) where
  abbrev effect : Effect
  effect = effect_at program ready.has_shape.typable f.pc

  -- ---- the frame after an instruction

  shape_after : (to : ℕ) → Contains (successors_at ready.has_shape.typable.code f.pc) (pos to) → (locals : List (Option (Value ℕ))) (stack : List (Value ℕ))
      → HasShape program (moved f to locals stack) (after program effect ready.shape)
  shape_after to leads locals stack =
      let shown = ready.has_shape in
      record {
        typable = shown.typable;
        is_typable = shown.is_typable;
        path = prolonged_by None to shown.path;
        is_path = prolonged program f.method typed firsts shown.typable shown.is_typable shown.path shown.is_path None to
            (subst (λ (pc : ℕ). Contains (successors_at shown.typable.code pc) (pos to)) (sym shown.arrives) leads);
        arrives = refl;
        shape_is = ap (λ (pc : ℕ). after program (effect_at program shown.typable pc) (shape_of program shown.typable shown.path)) shown.arrives
            ∙ ap (after program (effect_at program shown.typable f.pc)) shown.shape_is;
      }

  ready_after : (heap : List HeapObject) (to : ℕ) → Contains (successors_at ready.has_shape.typable.code f.pc) (pos to) → (locals : List (Option (Value ℕ))) (stack : List (Value ℕ))
      → Pairwise (PlaceHasKind program heap) (written program ready.shape effect.writes) locals
      → Pairwise (IsOnStack program heap) (map (kind_from program ready.shape) effect.pushes ++ drop (length effect.pops) ready.shape.stack) stack
      → IsReady program heap (moved f to locals stack)
  ready_after heap to leads locals stack of_locals of_stack = record { shape = after program effect ready.shape; has_shape = shape_after to leads locals stack; locals = of_locals; stack = of_stack }

  module _ (new : State) (kept : IsTypedState program new) (grown : IsGrown s new) where
    pub there : slice_get new.threads t ≡ Some thread
    there = ap (λ (threads : List Thread). slice_get threads t) grown.threads ∙ at

    pub waiting_there : AreWaiting program new.heap f.method below
    waiting_there = all_waiting_kept program s.heap new.heap grown.grows f.method below waiting

    pub same_locals : Pairwise (PlaceHasKind program new.heap) ready.shape.locals f.locals
    same_locals = pairwise_map (PlaceHasKind program s.heap) (PlaceHasKind program new.heap) (place_kept program s.heap new.heap grown.grows) ready.shape.locals f.locals ready.locals

    pub rest_there : (kinds : List Kind) (rest : List (Value ℕ)) → Pairwise (IsOnStack program s.heap) kinds rest → Pairwise (IsOnStack program new.heap) kinds rest
    rest_there kinds rest h = pairwise_map (IsOnStack program s.heap) (IsOnStack program new.heap) (stack_kept program s.heap new.heap grown.grows) kinds rest h

    -- the frame goes on with values on its stack
    goes_on : (to : ℕ) → Contains (successors_at ready.has_shape.typable.code f.pc) (pos to) → (rest vs : List (Value ℕ)) → effect.writes ≡ None
        → Pairwise (IsOnStack program s.heap) (drop (length effect.pops) ready.shape.stack) rest → Pairwise (IsOnStack program new.heap) (map (kind_from program ready.shape) effect.pushes) vs
        → IsTypedState program (with_frames new t (moved f to f.locals (vs ++ rest) ∷ below) None)
    goes_on to leads rest vs none under over = frames_set program new kept t thread there (moved f to f.locals (vs ++ rest) ∷ below) None (
      ready_after new.heap to leads f.locals (vs ++ rest)
          (subst (λ (o : Option (ℕ × Origin)). Pairwise (PlaceHasKind program new.heap) (written program ready.shape o) f.locals) (sym none) same_locals)
          (pairwise_append (IsOnStack program new.heap) (map (kind_from program ready.shape) effect.pushes) vs (drop (length effect.pops) ready.shape.stack) rest over
          (rest_there (drop (length effect.pops) ready.shape.stack) rest under)),
      waiting_there,
    )
        (λ a none. absurd (cc))

    -- an exception is on its way
    pub is_left : (a : ℕ) → StandsAt program new.heap a throwable → IsTypedState program (with_frames new t (f ∷ below) (Some a))
    is_left a thrown = frames_set program new kept t thread there (f ∷ below) (Some a)
        (record { shape = ready.shape; has_shape = ready.has_shape; locals = same_locals }, waiting_there)
        (λ b same. subst (λ (x : ℕ). StandsAt program new.heap x throwable) (same_some same) thrown)

  pushes_none : effect.pushes ≡ [] → (heap : List HeapObject) → Pairwise (IsOnStack program heap) (map (kind_from program ready.shape) effect.pushes) []
  pushes_none none heap = subst (λ (origins : List Origin). Pairwise (IsOnStack program heap) (map (kind_from program ready.shape) origins) []) (sym none) no_more

  module _ (i : Instruction) (next : ℕ) (leads : LeadsOn ready.has_shape.typable.code f.pc next i) (no_result : is_return i ≡ false) (rest : List (Value ℕ))
      (under : Pairwise (IsOnStack program s.heap) (drop (length effect.pops) ready.shape.stack) rest) where
    -- what doesn't go away goes on behind the instruction
    behind : (does_it : does.Effect ℕ) → goes_away does_it ≡ false → (goes_elsewhere i ≡ true → goes_away does_it ≡ true) → Contains (successors_at ready.has_shape.typable.code f.pc) (pos next)
    behind does_it stays away = by_test (goes_elsewhere i) refl
      where
        by_test : (b : Bool) → goes_elsewhere i ≡ b → Contains (successors_at ready.has_shape.typable.code f.pc) (pos next)
        by_test true e = never (sym stays ∙ away e)
        by_test false e = leads.behind e

    by_outcome : (outcome : Outcome ℕ) → (goes_elsewhere i ≡ true → goes_away outcome.effect ≡ true) → Follows program s i effect ready.shape outcome
        → HasTypedStep program (applied program (with_written s outcome.written) t f below next rest outcome.effect)
    by_outcome outcome away (by_push vs none held) =
        record { next = _; is_next = refl; typed = goes_on s state (not_grown s) next (behind (does.pushes vs) refl away) rest vs none under held }
    by_outcome outcome away (by_write cell v none no_push takes) = record {
      next = _;
      is_next = refl;
      typed = goes_on (with_content s cell v) (written_kept program s state cell v takes) (written_grown program s cell v takes) next (behind (does.pushes []) refl away) rest [] none under
          (pushes_none no_push (with_content s cell v).heap);
    }
    by_outcome outcome away (by_put k origin v writes no_push holds) = record {
      next = _;
      is_next = refl;
      typed = frames_set program s state t thread at (moved f next (slice_set f.locals k (Some v)) rest ∷ below) None (
        ready_after s.heap next (behind (does.puts k v) refl away) (slice_set f.locals k (Some v)) rest
            (subst (λ (o : Option (ℕ × Origin)). Pairwise (PlaceHasKind program s.heap) (written program ready.shape o) (slice_set f.locals k (Some v))) (sym writes)
            (pairwise_set (PlaceHasKind program s.heap) ready.shape.locals f.locals k (kind_from program ready.shape origin) (Some v) holds ready.locals))
            (pairwise_append (IsOnStack program s.heap) (map (kind_from program ready.shape) effect.pushes) [] (drop (length effect.pops) ready.shape.stack) rest (pushes_none no_push s.heap) under),
        waiting,
      )
          (λ a none. absurd (cc));
    }
    by_outcome outcome away (by_jump target none no_push jumps) =
        record { next = _; is_next = refl; typed = goes_on s state (not_grown s) target (leads.jumps target jumps) rest [] none under (pushes_none no_push s.heap) }
    by_outcome outcome away (by_raise cause) =
        let c = class_raised cause in
        let is = raised cause in
        let new = new_object program (object c) in
        record {
          next = _;
          is_next = refl;
          typed = is_left (with_new s new) (new_kept program s state (object c) (is.class, is.is_there, is.made)) (new_grown s new) (new_address s)
              (record { found = new; is_there = pushed_there s.heap new; fits = is.is_throwable });
        }
    by_outcome outcome away (by_throw a thrown) = record { next = _; is_next = refl; typed = is_left s state (not_grown s) a thrown }
    by_outcome outcome away (by_new info type none pushes dims made) =
        let new = new_object program info in
        let grown = new_grown s new in
        let takes : takes_type program (type_of new.info) type ≡ true = subst (λ (x : Info). takes_type program (type_of x) type ≡ true) (sym (new_info program info)) (made_fits program type info made) in
        record {
          next = _;
          is_next = refl;
          typed = goes_on (with_new s new) (new_kept program s state info (can_be_made program type info made)) grown next (behind (does.allocates info) refl away) rest (ref (new_address s) ∷ []) none under
              (subst (λ (origins : List Origin). Pairwise (IsOnStack program (with_new s new).heap) (map (kind_from program ready.shape) origins) (ref (new_address s) ∷ [])) (sym pushes)
              (one_more (Ref type) (ref (new_address s)) [] [] (set (Ref type) (ref (new_address s)) (an_object type (new_address s) new (pushed_there s.heap new) takes dims)) no_more));
        }
    by_outcome outcome away (by_return result no_push is) = absurd (no_return program s.heap i result no_result is)

  pub executed_typed : (i : Instruction) (next : ℕ) → HasEffect program i effect → LeadsOn ready.has_shape.typable.code f.pc next i → is_return i ≡ false
      → HasTypedStep program (executed program s t f below next i (fetched i f))
  executed_typed i next has leads no_result =
      let given = frame_gives program s.heap f typed ready i has in
      let goes = instructions_go program sound s state.objects state i effect has ready.shape given.values given.given in
      subst (λ (o : Option (List (Value ℕ) × List (Value ℕ))). HasTypedStep program (executed program s t f below next i o)) (sym given.is_fetched)
      (subst (λ (o : Option (Outcome ℕ)). HasTypedStep program (apply_outcome program s t f below next given.rest o)) (sym goes.is_given)
      (by_outcome i next leads no_result given.rest given.below goes.gives
      (λ e. lands (ways program s) (fits program) i (read_from s (cell_read (info_at s) i given.values)) given.values goes.gives goes.is_given e) goes.follows))

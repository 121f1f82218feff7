-- What comes of a call keeps a typed state typed.
use Rattle.std.proofs.Common.{◌≡◌, ◌⊎◌, ◌∙◌, ℕ, suc, zero, true, false, List, [], ◌∷◌, ◌++◌, map, length, take, drop, replicate, Option, Some, None, refl, sym, ap, subst, inl, inr}
use Rattle.std.specs.Prelude.{ℤ, slice_get, slice_index, option_map, option_and_then}
use Rattle.std.proofs.lemmas.List.{length-set}
use Rattle.jo_text.specs.declared.descriptors.FieldDesc.{FieldDesc}
use Rattle.jo_prog.specs.declared.program.Program.{Program}
use Rattle.jo_prog.specs.declared.program.Code.{Code}
use Rattle.jo_prog.specs.declared.program.Method.{Method}
use Rattle.jo_prog.specs.declared.program.TypeRef.{TypeRef}
use Rattle.jo_prog.specs.declared.program.TypeRef.TheVariants.{Class as OfClass}
use Rattle.jo_prog.specs.declared.runs.SourceInput.{SourceInput}
use Rattle.jo_prog.specs.MethodTypes.{method_desc_in}
use Rattle.jo_prog.specs.PreludeClasses.{thread_number}
use Rattle.jo_prog.specs.Program.{method_at, code_at}
use Rattle.jo_prog.specs.Sites.{class_raised}
use Rattle.jo_prog.specs.Typing.{Int, Unset}
use Rattle.jo_prog.specs.Shapes.{Effect, kind_from}
use Rattle.jo_prog.specs.InsnTyping.{result_origins, receiver_kinds, param_kinds, shape_at_start}
use Rattle.jo_prog.specs.TypingPaths.{effect_at, IsTypedMethod}
use Rattle.jo_prog.specs.Values.{Value, int, ref, object}
use Rattle.jo_prog.specs.Machine.{Frame, Thread, HeapObject, State, input_at}
use Rattle.machine.specs.Instructions as code
use Rattle.machine.specs.Instructions.{instruction_at, method_desc, result_of}
use Rattle.machine.specs.Invocation.{Invoked, enters, begins}
use Rattle.machine.specs.Heaps.{new_object, new_address, with_new, on_object, marked_started, with_started, is_marked, was_started}
use Rattle.machine.specs.Steps.{with_frames, frame_of, new_frame, entered, thread_begun, with_thread, with_cursor, invoked_step}
use Rattle.step_laws.specs.TypedStates.{PlaceHasKind, unset, set, an_int, IsOnStack, Pairwise, no_more, one_more, IsReady, IsWaiting, AreWaiting, StandsAt, IsStartedAt, IsTypedThread, IsTypedObject, of_class, of_array, IsTypedState}
use Rattle.step_laws.specs.Premises.{HasSoundHierarchy}
use Rattle.step_laws.proofs.TypeLemmas.{never, same_some}
use Rattle.step_laws.proofs.KeptLemmas.{pairwise_map, place_kept, set_there, changed_grows, object_changed}
use Rattle.step_laws.proofs.NewLemmas.{new_kept, push_read}
use Rattle.kept_laws.specs.Going.{HasRaisedClasses}
use Rattle.kept_laws.specs.Kept.{HasTypedStep}
use Rattle.kept_laws.specs.Paths.{AreAllTyped}
use Rattle.kept_laws.specs.Premises.{AreInts}
use Rattle.kept_laws.specs.Calls.{TakesValues, IsInvoked, by_enter, by_begin, by_join, by_ask, by_show, by_release, by_fail, int_type}
use Rattle.kept_laws.proofs.ThreadLemmas.{frames_set, before}
use Rattle.kept_laws.proofs.GrowthLemmas.{pushed_there, pairwise_append, IsGrown, not_grown, new_grown}
use Rattle.kept_laws.proofs.KeepLemmas.{waiting_there, same_locals, rest_there, is_left}
use Rattle.kept_laws.proofs.KeepLemmas
use Rattle.kept_laws.proofs.ReturnLemmas.{goes_behind}
use Rattle.kept_laws.proofs.CallLemmas.{on, call, effect_is, count_is, result_is}

-- ---- a frame that begins

pairwise_take : {A B : Type 0} (P : A → B → Type 0) (n : ℕ) (xs : List A) (ys : List B) → Pairwise P xs ys → Pairwise P (take n xs) (take n ys)
pairwise_take P zero xs ys h = no_more
pairwise_take P (suc n) xs ys no_more = no_more
pairwise_take P (suc n) xs ys (one_more x y xs' ys' h later) = one_more x y (take n xs') (take n ys') h (pairwise_take P n xs' ys' later)

pairwise_replicate : {A B : Type 0} (P : A → B → Type 0) (n : ℕ) (x : A) (y : B) → P x y → Pairwise P (replicate n x) (replicate n y)
pairwise_replicate P zero x y h = no_more
pairwise_replicate P (suc n) x y h = one_more x y (replicate n x) (replicate n y) h (pairwise_replicate P n x y h)

module _ (program : Program) (heap : List HeapObject) (m : ℕ) (values : List (Value ℕ)) (takes : TakesValues program heap m values) where
  begins_ready : IsReady program heap (frame_of m values takes.code)
  begins_ready =
      let count = takes.code.max_locals in
      record {
        shape = shape_at_start program takes.method takes.code;
        has_shape = record {
          typable = record { number = m; method = takes.method; code = takes.code };
          is_typable = (refl, takes.is_method, takes.has_code);
          path = [];
          is_path = refl;
          arrives = refl;
          shape_is = refl;
        };
        locals = pairwise_take (PlaceHasKind program heap) count
            (receiver_kinds takes.method ++ param_kinds program (method_desc_in takes.method.desc) ++ replicate count Unset) (map (λ v. Some v) values ++ replicate count None)
            (pairwise_append (PlaceHasKind program heap) (receiver_kinds takes.method ++ param_kinds program (method_desc_in takes.method.desc)) (map (λ v. Some v) values)
            (replicate count Unset) (replicate count None) takes.kinds (pairwise_replicate (PlaceHasKind program heap) count Unset None (unset None)));
        stack = no_more;
      }

  frame_is : new_frame program m values ≡ Some (frame_of m values takes.code)
  frame_is =
      let there : code_at program m ≡ Some takes.code = ap (λ (o : Option Method). option_and_then (λ (method : Method). method.code) o) takes.is_method ∙ takes.has_code in
      ap (λ (o : Option Code). option_map (frame_of m values) o) there

-- ---- a thread object that is started

module _ (program : Program) (s : State) (state : IsTypedState program s) (a : ℕ) (stands : StandsAt program s.heap a (OfClass thread_number)) where
  marked_typed : (o : HeapObject) → IsTypedObject program s.heap o → IsTypedObject program s.heap (marked_started o)
  marked_typed o (of_class _ c class info found made names contents) = of_class (marked_started o) c class info found made names contents
  marked_typed o (of_array _ type count info long fits elements) = of_array (marked_started o) type count info long fits elements

  started_typed : IsTypedState program (with_started s a)
  started_typed =
      let o = stands.found in
      subst (λ (x : Option HeapObject). IsTypedState program (on_object s a x marked_started)) (sym stands.is_there)
      (object_changed program s state a o (marked_started o) stands.is_there refl (λ h. refl) (marked_typed o (state.objects a o stands.is_there)))

  started_grown : IsGrown s (with_started s a)
  started_grown =
      let o = stands.found in
      subst (λ (x : Option HeapObject). IsGrown s (on_object s a x marked_started)) (sym stands.is_there)
      (record { threads = refl; grows = changed_grows s.heap a o (marked_started o) stands.is_there refl (λ h. refl) })

  started_there : IsStartedAt program (with_started s a).heap a
  started_there =
      let o = stands.found in
      subst (λ (x : Option HeapObject). IsStartedAt program (on_object s a x marked_started).heap a) (sym stands.is_there)
      (record { found = marked_started o; is_there = set_there s.heap a o (marked_started o) stands.is_there; is_thread = stands.fits; marked = refl })

  -- no thread has that object yet
  none_has : was_started s a ≡ false → (u : ℕ) (other : Thread) → slice_get s.threads u ≡ Some other → other.object ≡ Some a → ⊥
  none_has fresh u other at is =
      let h = (state.threads u other at).started a is in
      let e : was_started s a ≡ true = ap is_marked h.is_there ∙ h.marked in
      never (sym fresh ∙ e)

-- ---- a thread more

module _ (program : Program) (s : State) (state : IsTypedState program s) (a : ℕ) (frame : Frame) (ready : IsReady program s.heap frame) (started : IsStartedAt program s.heap a)
    (fresh : (u : ℕ) (other : Thread) → slice_get s.threads u ≡ Some other → other.object ≡ Some a → ⊥) where
  abbrev new : Thread
  new = record { frames = frame ∷ []; pending = None; object = Some a }

  new_typed : IsTypedThread program s.heap new
  new_typed = record { frames = (ready, tt); thrown = λ b none. absurd (cc); started = λ b is. subst (IsStartedAt program s.heap) (same_some is) started }

  kept_threads : (u : ℕ) (other : Thread) → slice_get (s.threads ++ new ∷ []) u ≡ Some other → IsTypedThread program s.heap other
  kept_threads u other at = elim (push_read s.threads new u other at) [
    | inl same ↦ subst (IsTypedThread program s.heap) same new_typed
    | inr old ↦ state.threads u other old
  ]

  kept_alone : (u : ℕ) (other : Thread) → slice_get (s.threads ++ new ∷ []) u ≡ Some other → other.object ≡ None → u ≡ 0
  kept_alone u other at none = elim (push_read s.threads new u other at) [
    | inl same ↦ let e : Some a ≡ None = ap (λ (x : Thread). x.object) same ∙ none in absurd (cc)
    | inr old ↦ state.first_alone u other old none
  ]

  place_of : (u : ℕ) (other : Thread) → slice_get (s.threads ++ new ∷ []) u ≡ Some other → (slice_get s.threads u ≡ Some other) ⊎ ((u ≡ length s.threads) × (new ≡ other))
  place_of u other at = from s.threads u at
    where
      from : (xs : List Thread) (k : ℕ) → slice_get (xs ++ new ∷ []) k ≡ Some other → (slice_get xs k ≡ Some other) ⊎ ((k ≡ length xs) × (new ≡ other))
      from [] zero e = inr (refl, same_some e)
      from [] (suc k) e = absurd (cc)
      from (x ∷ xs) zero e = inl e
      from (x ∷ xs) (suc k) e = elim (from xs k e) [ inl old ↦ inl old | inr both ↦ inr (ap suc both.0, both.1) ]

  kept_each : (u w : ℕ) (one other : Thread) (b : ℕ) → slice_get (s.threads ++ new ∷ []) u ≡ Some one → slice_get (s.threads ++ new ∷ []) w ≡ Some other
      → one.object ≡ Some b → other.object ≡ Some b → u ≡ w
  kept_each u w one other b first second is_one is_other = by_places (place_of u one first) (place_of w other second)
    where
      own : (x : Thread) → new ≡ x → x.object ≡ Some b → a ≡ b
      own x same is = same_some (ap (λ (y : Thread). y.object) same ∙ is)

      by_places : (slice_get s.threads u ≡ Some one) ⊎ ((u ≡ length s.threads) × (new ≡ one)) → (slice_get s.threads w ≡ Some other) ⊎ ((w ≡ length s.threads) × (new ≡ other)) → u ≡ w
      by_places (inl h) (inl k) = state.one_each u w one other b h k is_one is_other
      by_places (inl h) (inr k) = absurd (fresh u one h (is_one ∙ ap (λ (n : ℕ). Some n) (sym (own other k.1 is_other))))
      by_places (inr h) (inl k) = absurd (fresh w other k (is_other ∙ ap (λ (n : ℕ). Some n) (sym (own one h.1 is_one))))
      by_places (inr h) (inr k) = h.0 ∙ sym k.0

  thread_added : IsTypedState program (with_thread s a frame)
  thread_added = record {
    objects = state.objects;
    texts = state.texts;
    count = state.count;
    statics = state.statics;
    cursors = state.cursors;
    threads = kept_threads;
    first_alone = kept_alone;
    one_each = kept_each;
  }

-- ---- the cases of a call

cursor_set : (program : Program) (s : State) (source : ℕ) → IsTypedState program s → IsTypedState program (with_cursor s source)
cursor_set program s source state = record {
  objects = state.objects;
  texts = state.texts;
  count = state.count;
  statics = state.statics;
  cursors = length-set s.cursors source _ ∙ state.cursors;
  threads = state.threads;
  first_alone = state.first_alone;
  one_each = state.one_each;
}

module _ (program : Program) (sound : HasSoundHierarchy program) (raised : HasRaisedClasses program) (all : AreAllTyped program) (inputs : List SourceInput) (ints : AreInts inputs)
    (s : State) (state : IsTypedState program s) (t : ℕ) (thread : Thread) (at : slice_get s.threads t ≡ Some thread) (f : Frame) (below : List Frame)
    (ready : IsReady program s.heap f) (waiting : AreWaiting program s.heap f.method below)
    (op : ℕ) (owner : TypeRef) (named count next : ℕ) (at_call : instruction_at program f.method f.pc ≡ Some (code.calls op owner named count, next))
    (rest : List (Value ℕ)) (under : Pairwise (IsOnStack program s.heap) (drop count ready.shape.stack) rest) where
  abbrev pub typed : IsTypedMethod program f.method
  typed = all.typed f.method

  abbrev pub type : Option FieldDesc
  type = (call program sound.no_cycle f ready.shape ready.has_shape typed op owner named count next at_call).type.result

  popped_count : (effect : Effect) → effect_at program ready.has_shape.typable f.pc ≡ effect → length effect.pops ≡ count
  popped_count effect is = sym (ap (λ (e : Effect). length e.pops) is) ∙ count_is program sound.no_cycle f ready.shape ready.has_shape typed op owner named count next at_call

  module _ (new : State) (kept : IsTypedState program new) (grown : IsGrown s new) where
    -- the frame goes on behind the call, with these values on its stack
    call_done : (vs : List (Value ℕ)) → Pairwise (IsOnStack program new.heap) (map (kind_from program ready.shape) (result_origins program type)) vs
        → IsTypedState program (with_frames new t (record { method = f.method; pc = next; locals = f.locals; stack = vs ++ rest } ∷ below) None)
    call_done vs over =
        let shown = ready.has_shape in
        let firsts = all.firsts f.method in
        let is = effect_is program sound.no_cycle f ready.shape shown typed op owner named count next at_call in
        let stands = on program sound.no_cycle f ready.shape shown typed op owner named count next at_call in
        let same : length _ ≡ count = popped_count _ is in
        let rest_kept = rest_there program sound raised s state t thread at f below typed firsts ready waiting new kept grown (drop count ready.shape.stack) rest under in
        frames_set program new kept t thread (KeepLemmas.there program sound raised s state t thread at f below typed firsts ready waiting new kept grown) _ None (
          goes_behind program f ready.shape shown typed firsts _ _ is new.heap next (stands.leads.behind refl) (vs ++ rest)
              (same_locals program sound raised s state t thread at f below typed firsts ready waiting new kept grown)
              (pairwise_append (IsOnStack program new.heap) (map (kind_from program ready.shape) (result_origins program type)) vs _ rest over
              (subst (λ (n : ℕ). Pairwise (IsOnStack program new.heap) (drop n ready.shape.stack) rest) (sym same) rest_kept)),
          waiting_there program sound raised s state t thread at f below typed firsts ready waiting new kept grown,
        )
        (λ a none. absurd (cc))

  no_result : (heap : List HeapObject) → type ≡ None → Pairwise (IsOnStack program heap) (map (kind_from program ready.shape) (result_origins program type)) []
  no_result heap is = subst (λ (o : Option FieldDesc). Pairwise (IsOnStack program heap) (map (kind_from program ready.shape) (result_origins program o)) []) (sym is) no_more

  an_int_more : (heap : List HeapObject) (z : ℤ) → IsOnStack program heap Int (int z) → type ≡ Some int_type
      → Pairwise (IsOnStack program heap) (map (kind_from program ready.shape) (result_origins program type)) (int z ∷ [])
  an_int_more heap z h is = subst (λ (o : Option FieldDesc). Pairwise (IsOnStack program heap) (map (kind_from program ready.shape) (result_origins program o)) (int z ∷ [])) (sym is)
      (one_more Int (int z) [] [] h no_more)

  waits : (m : ℕ) → result_of (method_desc (method_at program m)) ≡ type → IsWaiting program s.heap m (record { method = f.method; pc = f.pc; locals = f.locals; stack = rest })
  waits m is =
      let shown = ready.has_shape in
      record {
        shape = ready.shape;
        has_shape = record { typable = shown.typable; is_typable = shown.is_typable; path = shown.path; is_path = shown.is_path; arrives = shown.arrives; shape_is = shown.shape_is };
        locals = ready.locals;
        op = op;
        owner = owner;
        named = named;
        count = count;
        next = next;
        at_call = at_call;
        stack = under;
        same_result = is ∙ sym (result_is program sound.no_cycle f ready.shape shown typed op owner named count next at_call);
      }

  entered_typed : (m : ℕ) (values : List (Value ℕ)) → TakesValues program s.heap m values → result_of (method_desc (method_at program m)) ≡ type
      → HasTypedStep program (invoked_step program inputs s t f below next rest (Some (enters m values)))
  entered_typed m values takes is =
      subst (λ (o : Option Frame). HasTypedStep program (entered s t (record { method = f.method; pc = f.pc; locals = f.locals; stack = rest }) below o)) (sym (frame_is program s.heap m values takes))
      (record {
        next = _;
        is_next = refl;
        typed = frames_set program s state t thread at (frame_of m values takes.code ∷ record { method = f.method; pc = f.pc; locals = f.locals; stack = rest } ∷ below) None
            (begins_ready program s.heap m values takes, (waits m is, waiting)) (λ a none. absurd (cc));
      })

  begun_typed : (a m : ℕ) → StandsAt program s.heap a (OfClass thread_number) → was_started s a ≡ false → TakesValues program s.heap m (ref a ∷ []) → type ≡ None
      → HasTypedStep program (invoked_step program inputs s t f below next rest (Some (begins a m)))
  begun_typed a m stands fresh takes none =
      subst (λ (o : Option Frame). HasTypedStep program (thread_begun s t (record { method = f.method; pc = next; locals = f.locals; stack = rest } ∷ below) a o)) (sym (frame_is program s.heap m (ref a ∷ []) takes))
      (record { next = _; is_next = refl; typed = thread_added program there there_typed a (frame_of m (ref a ∷ []) takes.code) there_ready (started_there program s state a stands) there_fresh })
    where
      begun : State
      begun = with_started s a

      begun_kept : IsTypedState program begun
      begun_kept = started_typed program s state a stands

      grown : IsGrown s begun
      grown = started_grown program s state a stands

      there : State
      there = with_frames begun t (record { method = f.method; pc = next; locals = f.locals; stack = rest } ∷ below) None

      there_typed : IsTypedState program there
      there_typed = call_done begun begun_kept grown [] (no_result begun.heap none)

      takes_there : TakesValues program begun.heap m (ref a ∷ [])
      takes_there = record {
        method = takes.method;
        code = takes.code;
        is_method = takes.is_method;
        has_code = takes.has_code;
        kinds = pairwise_map (PlaceHasKind program s.heap) (PlaceHasKind program begun.heap) (place_kept program s.heap begun.heap grown.grows) _ _ takes.kinds;
      }

      there_ready : IsReady program there.heap (frame_of m (ref a ∷ []) takes.code)
      there_ready = begins_ready program begun.heap m (ref a ∷ []) takes_there

      there_fresh : (u : ℕ) (other : Thread) → slice_get there.threads u ≡ Some other → other.object ≡ Some a → ⊥
      there_fresh u other is has =
          let same : slice_get begun.threads t ≡ Some thread = ap (λ (threads : List Thread). slice_get threads t) grown.threads ∙ at in
          let old = before begun t thread same (record { method = f.method; pc = next; locals = f.locals; stack = rest } ∷ below) None u other is in
          none_has program s state a stands fresh u old.0 (sym (ap (λ (threads : List Thread). slice_get threads u) grown.threads) ∙ old.1) (old.2 ∙ has)

  -- each case
  pub invoked_typed : (outcome : Invoked ℕ) → IsInvoked program s type outcome → HasTypedStep program (invoked_step program inputs s t f below next rest (Some outcome))
  invoked_typed outcome (by_enter m values takes is) = entered_typed m values takes is
  invoked_typed outcome (by_begin a m stands fresh takes none) = begun_typed a m stands fresh takes none
  invoked_typed outcome (by_join a none) = record { next = _; is_next = refl; typed = call_done s state (not_grown s) [] (no_result s.heap none) }
  invoked_typed outcome (by_ask source is) =
      let new = with_cursor s source in
      let same : IsGrown s new = record { threads = refl; grows = (not_grown s).grows } in
      record {
        next = _;
        is_next = refl;
        typed = call_done new (cursor_set program s source state) same (int (input_at inputs source (slice_index s.cursors source)) ∷ [])
            (an_int_more s.heap _ (set Int _ (an_int _ (ints source (slice_index s.cursors source)))) is);
      }
  invoked_typed outcome (by_show sink z none) = record { next = _; is_next = refl; typed = call_done s state (not_grown s) [] (no_result s.heap none) }
  invoked_typed outcome (by_release m z fits is) =
      record { next = _; is_next = refl; typed = call_done s state (not_grown s) (int z ∷ []) (an_int_more s.heap z (set Int (int z) (an_int z fits)) is) }
  invoked_typed outcome (by_fail cause) =
      let is = raised cause in
      let new = new_object program (object (class_raised cause)) in
      record {
        next = _;
        is_next = refl;
        typed = is_left program sound raised s state t thread at f below typed (all.firsts f.method) ready waiting (with_new s new)
            (new_kept program s state (object (class_raised cause)) (is.class, is.is_there, is.made)) (new_grown s new) (new_address s)
            (record { found = new; is_there = pushed_there s.heap new; fits = is.is_throwable });
      }

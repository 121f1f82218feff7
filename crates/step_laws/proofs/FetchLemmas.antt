-- At a frame that is ready an instruction has the values that its effect asks.
use Rattle.std.proofs.Common.{◌≡◌, ◌∙◌, ℕ, suc, zero, ◌+◌, ◌<◌, ◌≤◌, true, false, not, ◌||◌, List, [], ◌∷◌, ◌++◌, length, take, drop, replicate, Option, Some, None, refl, sym, ap, subst, inl, inr, arith, length-append}
use Rattle.std.specs.Prelude.{nat_lt, nat_le, slice_get, slice_index_or}
use Rattle.std.proofs.lemmas.Bool.{false_from_ne_true, and_parts, or_parts, or_cases, not-false, not_from_true, cond-true, le-leb, lt-ltb, ltb-true, ltb-false}
use Rattle.std.proofs.lemmas.List.{length-set, length-take, length-replicate}
use Rattle.std.proofs.lemmas.Option.{get_or_from_slice_get}
use Rattle.jo_prog.specs.declared.program.Program.{Program}
use Rattle.jo_prog.specs.declared.program.Row.{Row}
use Rattle.jo_prog.specs.declared.typed.TypeCode.TheVariants.{Underflow, WrongKind, LocalRange}
use Rattle.jo_prog.specs.MethodTypes.{method_desc_in}
use Rattle.jo_prog.specs.Typing.{Kind, Unset, Shape}
use Rattle.jo_prog.specs.Shapes.{Need, unset_passes, passes, Origin, Effect, kind_from, written, all_pass}
use Rattle.jo_prog.specs.InsnTyping.{receiver_kinds, param_kinds, locals_at_start}
use Rattle.jo_prog.specs.TypingPaths.{Typable, Step, arrives_at, shape_of, stepped, row_taken, height_of, effect_at, underflows, out_of_range, is_local, is_written_local, local_passes, wrong_kind, IsTypedMethod}
use Rattle.jo_prog.specs.Values.{Value}
use Rattle.jo_prog.specs.Machine.{Frame, HeapObject, State, popped, fetched_local}
use Rattle.machine.specs.Instructions.{Instruction}
use Rattle.machine.specs.Execution as does
use Rattle.machine.specs.Execution.{Outcome, exec, cell_read}
use Rattle.machine.specs.Steps.{fetched, applied, apply_outcome, with_written, executed}
use Rattle.step_laws.specs.TypedStates.{PlaceHasKind, unset, set, IsOnStack, Pairwise, no_more, one_more, IsReady, IsTypedState}
use Rattle.step_laws.specs.Premises.{HasSoundHierarchy}
use Rattle.step_laws.specs.Effects.{HasEffect, ArePopped, IsTaken, AreGiven, array_created, array_measured, cast, checked, created, element_loaded, element_stored, field_got, field_put, int_loaded, int_pushed, int_stepped, int_stored, jumped, nothing_done, nothing_returned, null_pushed, null_tested, one_doubled, one_doubled_under_one, one_doubled_under_two, one_dropped, one_narrowed, one_negated, one_tested, reference_loaded, reference_put, reference_stored, reference_taken, references_compared, static_got, static_put, switched, text_pushed, thrown, two_compared, two_computed, two_doubled, two_doubled_under_one, two_doubled_under_two, two_dropped, two_swapped, value_returned}
use Rattle.step_laws.specs.Fetches.{IsGivenValues, HasStep}
use Rattle.step_laws.proofs.TypeLemmas.{never}
use Rattle.step_laws.proofs.ExecLemmas.{instructions_go}

-- ---- how an instruction gets its values

data Fetches (i : Instruction) (e : Effect) : Type 0 where
  by_stack : ((f : Frame) → fetched i f ≡ popped (length e.pops) f.stack) → e.reads ≡ None → Fetches i e
  by_local : (k : ℕ) (need : Need) → ((f : Frame) → fetched i f ≡ fetched_local (slice_get f.locals k) f.stack) → e.reads ≡ Some (k, need)
      → e.pops ≡ [] → unset_passes need ≡ false → Fetches i e

fetches : (program : Program) (i : Instruction) (e : Effect) → HasEffect program i e → Fetches i e
fetches program i e nothing_done = by_stack (λ f. refl) refl
fetches program i e null_pushed = by_stack (λ f. refl) refl
fetches program i e (int_pushed z f) = by_stack (λ f. refl) refl
fetches program i e (text_pushed text a is) = by_stack (λ f. refl) refl
fetches program i e (int_loaded k) = by_local k _ (λ f. refl) refl refl refl
fetches program i e (reference_loaded k) = by_local k _ (λ f. refl) refl refl refl
fetches program i e (int_stored k) = by_stack (λ f. refl) refl
fetches program i e (reference_stored k) = by_stack (λ f. refl) refl
fetches program i e (int_stepped k by) = by_local k _ (λ f. refl) refl refl refl
fetches program i e (element_loaded letters are) = by_stack (λ f. refl) refl
fetches program i e reference_taken = by_stack (λ f. refl) refl
fetches program i e (element_stored letters are) = by_stack (λ f. refl) refl
fetches program i e reference_put = by_stack (λ f. refl) refl
fetches program i e one_dropped = by_stack (λ f. refl) refl
fetches program i e two_dropped = by_stack (λ f. refl) refl
fetches program i e one_doubled = by_stack (λ f. refl) refl
fetches program i e one_doubled_under_one = by_stack (λ f. refl) refl
fetches program i e one_doubled_under_two = by_stack (λ f. refl) refl
fetches program i e two_doubled = by_stack (λ f. refl) refl
fetches program i e two_doubled_under_one = by_stack (λ f. refl) refl
fetches program i e two_doubled_under_two = by_stack (λ f. refl) refl
fetches program i e two_swapped = by_stack (λ f. refl) refl
fetches program i e (two_computed op) = by_stack (λ f. refl) refl
fetches program i e one_negated = by_stack (λ f. refl) refl
fetches program i e (one_narrowed op) = by_stack (λ f. refl) refl
fetches program i e (one_tested op target) = by_stack (λ f. refl) refl
fetches program i e (two_compared op target) = by_stack (λ f. refl) refl
fetches program i e (references_compared op target) = by_stack (λ f. refl) refl
fetches program i e (null_tested op target) = by_stack (λ f. refl) refl
fetches program i e (jumped target) = by_stack (λ f. refl) refl
fetches program i e (switched cases other) = by_stack (λ f. refl) refl
fetches program i e (value_returned type) = by_stack (λ f. refl) refl
fetches program i e nothing_returned = by_stack (λ f. refl) refl
fetches program i e (static_got g type is) = by_stack (λ f. refl) refl
fetches program i e (static_put g type is) = by_stack (λ f. refl) refl
fetches program i e (field_got g type owner has holds) = by_stack (λ f. refl) refl
fetches program i e (field_put g type owner has holds) = by_stack (λ f. refl) refl
fetches program i e (created c class found made) = by_stack (λ f. refl) refl
fetches program i e (array_created type same) = by_stack (λ f. refl) refl
fetches program i e array_measured = by_stack (λ f. refl) refl
fetches program i e thrown = by_stack (λ f. refl) refl
fetches program i e (cast type dims) = by_stack (λ f. refl) refl
fetches program i e (checked type) = by_stack (λ f. refl) refl

-- ---- values on the stack

pub popped_is : (n : ℕ) (xs : List (Value ℕ)) → n ≤ length xs → popped n xs ≡ Some (take n xs, drop n xs)
popped_is n xs h = cond-true (nat_le n (length xs)) (Some (take n xs, drop n xs)) None (le-leb n (length xs) h)

pub pairwise_length : {A B : Type 0} (P : A → B → Type 0) (xs : List A) (ys : List B) → Pairwise P xs ys → length xs ≡ length ys
pairwise_length P xs ys no_more = refl
pairwise_length P xs ys (one_more x y more others h rest) = ap suc (pairwise_length P more others rest)

pub pairwise_drop : {A B : Type 0} (P : A → B → Type 0) (n : ℕ) (xs : List A) (ys : List B) → Pairwise P xs ys → Pairwise P (drop n xs) (drop n ys)
pairwise_drop P zero xs ys h = h
pairwise_drop P (suc n) xs ys no_more = no_more
pairwise_drop P (suc n) xs ys (one_more x y more others h rest) = pairwise_drop P n more others rest

-- the items at a place
pub record ArePair {A B : Type 0} (P : A → B → Type 0) (xs : List A) (ys : List B) (k : ℕ) : Type 0 where
  pub one : A
  pub other : B
  pub is_one : slice_get xs k ≡ Some one
  pub is_other : slice_get ys k ≡ Some other
  pub related : P one other

pairwise_at : {A B : Type 0} (P : A → B → Type 0) (xs : List A) (ys : List B) (k : ℕ) → Pairwise P xs ys → k < length xs → ArePair P xs ys k
pairwise_at P xs ys k no_more inside = absurd (omega arith)
pairwise_at P xs ys zero (one_more x y more others h rest) inside = record { one = x; other = y; is_one = refl; is_other = refl; related = h }
pairwise_at P xs ys (suc k) (one_more x y more others h rest) inside =
    let there = pairwise_at P more others k rest (omega arith) in
    record { one = there.one; other = there.other; is_one = there.is_one; is_other = there.is_other; related = there.related }

pub popped_given : (program : Program) (heap : List HeapObject) (needs : List Need) (kinds : List Kind) (vs : List (Value ℕ)) → all_pass program needs kinds ≡ true
    → length needs ≤ length kinds → Pairwise (IsOnStack program heap) kinds vs → ArePopped program heap needs kinds (take (length needs) vs)
popped_given program heap [] kinds vs pass enough h = tt
popped_given program heap (need ∷ needs) kinds vs pass enough no_more = absurd (omega arith)
popped_given program heap (need ∷ needs) kinds vs pass enough (one_more kind v more others h rest) =
    let both = and_parts (passes program need kind) (all_pass program needs more) pass in
    (both.0, h, popped_given program heap needs more others both.1 (omega arith) rest)

-- ---- the locals of a shape are those of the code

start_locals : (program : Program) (t : Typable) → length (locals_at_start program t.method t.code.max_locals) ≡ t.code.max_locals
start_locals program t =
    let front : List Kind = receiver_kinds t.method ++ param_kinds program (method_desc_in t.method.desc) in
    let whole : length (front ++ replicate t.code.max_locals Unset) ≡ length front + t.code.max_locals = length-append front (replicate t.code.max_locals Unset) ∙ ap (λ (n : ℕ). length front + n) (length-replicate t.code.max_locals Unset) in
    let cut = length-take t.code.max_locals (front ++ replicate t.code.max_locals Unset) in
    omega (arith, whole, cut)

written_length : (program : Program) (s : Shape) (o : Option (ℕ × Origin)) → length (written program s o) ≡ length s.locals
written_length program s None = refl
written_length program s (Some (k, origin)) = length-set s.locals k (kind_from program s origin)

taken_length : (o : Option Row) (s : Shape) → length (row_taken o s).locals ≡ length s.locals
taken_length None s = refl
taken_length (Some row) s = refl

stepped_length : (program : Program) (t : Typable) (pc : ℕ) (row : Option ℕ) (s : Shape) → length (stepped program t pc row s).locals ≡ length s.locals
stepped_length program t pc None s = written_length program s (effect_at program t pc).writes
stepped_length program t pc (Some row) s = taken_length (slice_get t.code.rows row) s

locals_length : (program : Program) (t : Typable) (path : List Step) → length (shape_of program t path).locals ≡ t.code.max_locals
locals_length program t [] = start_locals program t
locals_length program t (step ∷ path) = stepped_length program t (arrives_at path) step.row (shape_of program t path) ∙ locals_length program t path

-- ---- no fault at a frame

module _ (program : Program) (heap : List HeapObject) (f : Frame) (typed : IsTypedMethod program f.method) (ready : IsReady program heap f) where
  pub pops_there : length (effect_at program ready.has_shape.typable f.pc).pops ≤ length ready.shape.stack
  pops_there =
      let shown = ready.has_shape in
      let none : underflows program shown.typable (arrives_at shown.path) (height_of program shown.typable shown.path) ≡ false =
      false_from_ne_true _ (λ meets. typed f.pc Underflow (record { typable = shown.typable; is_typable = shown.is_typable; path = shown.path; is_path = shown.is_path; arrives = shown.arrives; meets = meets })) in
      let enough : length (effect_at program shown.typable (arrives_at shown.path)).pops ≤ length (shape_of program shown.typable shown.path).stack = ltb-false _ _ none in
      subst (λ (pc : ℕ). length (effect_at program shown.typable pc).pops ≤ length ready.shape.stack) shown.arrives
      (subst (λ (s : Shape). length (effect_at program shown.typable (arrives_at shown.path)).pops ≤ length s.stack) shown.shape_is enough)

  pub right_kinds : wrong_kind program ready.has_shape.typable f.pc ready.shape ≡ false
  right_kinds =
      let shown = ready.has_shape in
      let none : wrong_kind program shown.typable (arrives_at shown.path) (shape_of program shown.typable shown.path) ≡ false =
      false_from_ne_true _ (λ meets. typed f.pc WrongKind (record { typable = shown.typable; is_typable = shown.is_typable; path = shown.path; is_path = shown.is_path; arrives = shown.arrives; meets = meets })) in
      subst (λ (pc : ℕ). wrong_kind program shown.typable pc ready.shape ≡ false) shown.arrives
      (subst (λ (s : Shape). wrong_kind program shown.typable (arrives_at shown.path) s ≡ false) shown.shape_is none)

  locals_there : out_of_range program ready.has_shape.typable f.pc ≡ false
  locals_there =
      let shown = ready.has_shape in
      let none : out_of_range program shown.typable (arrives_at shown.path) ≡ false =
      false_from_ne_true _ (λ meets. typed f.pc LocalRange (record { typable = shown.typable; is_typable = shown.is_typable; path = shown.path; is_path = shown.is_path; arrives = shown.arrives; meets = meets })) in
      subst (λ (pc : ℕ). out_of_range program shown.typable pc ≡ false) shown.arrives none

  count_is : length ready.shape.locals ≡ ready.has_shape.typable.code.max_locals
  count_is = ap (λ (s : Shape). length s.locals) (sym ready.has_shape.shape_is) ∙ locals_length program ready.has_shape.typable ready.has_shape.path

  pub all_right : all_pass program (effect_at program ready.has_shape.typable f.pc).pops ready.shape.stack ≡ true
  all_right =
      let e = effect_at program ready.has_shape.typable f.pc in
      let first = or_parts (e.wrong || not (all_pass program e.pops ready.shape.stack) || not (local_passes program ready.shape e.reads)) _ right_kinds in
      let second = or_parts (e.wrong || not (all_pass program e.pops ready.shape.stack)) (not (local_passes program ready.shape e.reads)) first.0 in
      not-false (all_pass program e.pops ready.shape.stack) (or_parts e.wrong (not (all_pass program e.pops ready.shape.stack)) second.0).1

  local_right : local_passes program ready.shape (effect_at program ready.has_shape.typable f.pc).reads ≡ true
  local_right =
      let e = effect_at program ready.has_shape.typable f.pc in
      let first = or_parts (e.wrong || not (all_pass program e.pops ready.shape.stack) || not (local_passes program ready.shape e.reads)) _ right_kinds in
      let second = or_parts (e.wrong || not (all_pass program e.pops ready.shape.stack)) (not (local_passes program ready.shape e.reads)) first.0 in
      not-false (local_passes program ready.shape e.reads) second.1

  -- ---- what it is given

  content_set : (need : Need) (kind : Kind) (content : Option (Value ℕ)) → unset_passes need ≡ false → passes program need kind ≡ true → PlaceHasKind program heap kind content
      → (v : Value ℕ) × (content ≡ Some v) × IsOnStack program heap kind v
  content_set need kind content none pass (unset _) = never (sym none ∙ pass)
  content_set need kind content none pass (set _ v h) = (v, refl, set kind v h)

  taken_given : (k : ℕ) (need : Need) → unset_passes need ≡ false → (effect_at program ready.has_shape.typable f.pc).reads ≡ Some (k, need)
      → (v : Value ℕ) × (slice_get f.locals k ≡ Some (Some v)) × IsTaken program heap need (slice_index_or ready.shape.locals k Unset) (v ∷ [])
  taken_given k need none reads =
      let e = effect_at program ready.has_shape.typable f.pc in
      let range : is_local ready.has_shape.typable.code (Some (k, need)) ≡ true =
      subst (λ (o : Option (ℕ × Need)). is_local ready.has_shape.typable.code o ≡ true) reads
      (not-false (is_local ready.has_shape.typable.code e.reads) (or_parts (not (is_local ready.has_shape.typable.code e.reads)) (not (is_written_local ready.has_shape.typable.code e.writes)) locals_there).0) in
      let inside : k < length ready.shape.locals = omega (arith, count_is, ltb-true k ready.has_shape.typable.code.max_locals range) in
      let there = pairwise_at (PlaceHasKind program heap) ready.shape.locals f.locals k ready.locals inside in
      let kind_is : slice_index_or ready.shape.locals k Unset ≡ there.one = get_or_from_slice_get ready.shape.locals k there.one Unset there.is_one in
      let right : local_passes program ready.shape (Some (k, need)) ≡ true = subst (λ (o : Option (ℕ × Need)). local_passes program ready.shape o ≡ true) reads local_right in
      let pass : passes program need (slice_index_or ready.shape.locals k Unset) ≡ true =
      elim (or_cases (not (nat_lt k (length ready.shape.locals))) (passes program need (slice_index_or ready.shape.locals k Unset)) right) [
        | inl outside ↦ never (sym (not_from_true (nat_lt k (length ready.shape.locals)) (lt-ltb k (length ready.shape.locals) inside)) ∙ outside)
        | inr h ↦ h
      ] in
      let pass1 : passes program need there.one ≡ true = subst (λ (kind : Kind). passes program need kind ≡ true) kind_is pass in
      let found = content_set need there.one there.other none pass1 there.related in
      (found.0, there.is_other ∙ ap (λ (o : Option (Value ℕ)). Some o) found.1, (pass, subst (λ (kind : Kind). IsOnStack program heap kind found.0) (sym kind_is) found.2))

  pub frame_gives : (i : Instruction) → HasEffect program i (effect_at program ready.has_shape.typable f.pc)
      → IsGivenValues program heap i (effect_at program ready.has_shape.typable f.pc) ready.shape f
  frame_gives i has = by_fetch (fetches program i (effect_at program ready.has_shape.typable f.pc) has)
    where
      by_fetch : Fetches i (effect_at program ready.has_shape.typable f.pc) → IsGivenValues program heap i (effect_at program ready.has_shape.typable f.pc) ready.shape f
      by_fetch (by_stack is none) =
          let e = effect_at program ready.has_shape.typable f.pc in
          let enough : length e.pops ≤ length f.stack = omega (arith, pops_there, pairwise_length (IsOnStack program heap) ready.shape.stack f.stack ready.stack) in
          record {
            values = take (length e.pops) f.stack;
            rest = drop (length e.pops) f.stack;
            is_fetched = is f ∙ popped_is (length e.pops) f.stack enough;
            given = subst (λ (o : Option (ℕ × Need)). AreGiven program heap o e.pops ready.shape (take (length e.pops) f.stack)) (sym none)
                (popped_given program heap e.pops ready.shape.stack f.stack all_right pops_there ready.stack);
            below = pairwise_drop (IsOnStack program heap) (length e.pops) ready.shape.stack f.stack ready.stack;
          }
      by_fetch (by_local k need is reads no_pops none) =
          let e = effect_at program ready.has_shape.typable f.pc in
          let found = taken_given k need none reads in
          record {
            values = found.0 ∷ [];
            rest = f.stack;
            is_fetched = is f ∙ ap (λ (o : Option (Option (Value ℕ))). fetched_local o f.stack) found.1;
            given = subst (λ (o : Option (ℕ × Need)). AreGiven program heap o e.pops ready.shape (found.0 ∷ [])) (sym reads) found.2;
            below = subst (λ (needs : List Need). Pairwise (IsOnStack program heap) (drop (length needs) ready.shape.stack) f.stack) (sym no_pops) ready.stack;
          }

-- ---- the machine goes on

applied_somehow : (program : Program) (s : State) (t : ℕ) (f : Frame) (below : List Frame) (next : ℕ) (stack : List (Value ℕ)) (effect : does.Effect ℕ) → HasStep (applied program s t f below next stack effect)
applied_somehow program s t f below next stack (does.pushes values) = record { next = _; is_next = refl }
applied_somehow program s t f below next stack (does.puts k v) = record { next = _; is_next = refl }
applied_somehow program s t f below next stack (does.jumps target) = record { next = _; is_next = refl }
applied_somehow program s t f below next stack (does.raises cause) = record { next = _; is_next = refl }
applied_somehow program s t f below next stack (does.throws_at a) = record { next = _; is_next = refl }
applied_somehow program s t f below next stack (does.allocates info) = record { next = _; is_next = refl }
applied_somehow program s t f below next stack (does.returns result) = record { next = _; is_next = refl }

pub frames_step : (program : Program) → HasSoundHierarchy program → (s : State) → IsTypedState program s → (f : Frame) → IsTypedMethod program f.method → (ready : IsReady program s.heap f)
    → (i : Instruction) → HasEffect program i (effect_at program ready.has_shape.typable f.pc) → (t : ℕ) (below : List Frame) (next : ℕ)
    → HasStep (executed program s t f below next i (fetched i f))
frames_step program sound s state f typed ready i has t below next =
    let given = frame_gives program s.heap f typed ready i has in
    let goes = instructions_go program sound s state.objects state i (effect_at program ready.has_shape.typable f.pc) has ready.shape given.values given.given in
    subst (λ (o : Option (List (Value ℕ) × List (Value ℕ))). HasStep (executed program s t f below next i o)) (sym given.is_fetched)
    (subst (λ (o : Option (Outcome ℕ)). HasStep (apply_outcome program s t f below next given.rest o)) (sym goes.is_given)
    (applied_somehow program (with_written s goes.gives.written) t f below next given.rest goes.gives.effect))

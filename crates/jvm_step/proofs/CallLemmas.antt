-- The values of a call, and the frame that it finds on top.
use Rattle.std.proofs.Common.{◌≡◌, ◌∙◌, sym, ap, refl, subst, ℕ, ◌+◌, ◌-◌, ◌<◌, ◌≤◌, Bool, true, false, nat_le, List, [], ◌∷◌, ◌++◌, length, map, take, drop, reverse, Option, Some, None, option_map, slice_get, slice_set, arith}
use Rattle.std.specs.Prelude.{slice_index}
use Rattle.std.proofs.lemmas.List.{reverse-append, map-append, take_all, length-map, length-reverse}
use Rattle.std.proofs.lemmas.Option.{none-some, same_Some}
use Rattle.jo_prog.specs.declared.program.Program.{Program}
use Rattle.jo_prog.specs.declared.labels.Labels.{Labels}
use Rattle.jo_prog.specs.Values.{Value as OfValue}
use Rattle.jo_prog.specs.declared.runs.Event.{Event}
use Rattle.jo_prog.specs.Program.{method_at}
use Rattle.jo_prog.specs.Machine.{Frame, Thread, HeapObject, State, Stepped, info_at, popped}
use Rattle.machine.specs.Heaps.{marked_started, on_object, was_started}
use Rattle.machine.specs.Invocation.{Invoked, callee, invoked}
use Rattle.machine.specs.Steps.{class_of_method, with_frames, with_threads, with_thread, with_cursor, thread_begun, silently}
use Rattle.jvm_values.specs.declared.values.Value.{Value}
use Rattle.jvm_values.specs.Values.{value_of, popped_values}
use Rattle.jvm_values.specs.Heaps.{changed, changed_if}
use Rattle.jvm_calls.specs.declared.invocation.Call.{Call}
use Rattle.jvm_calls.specs.declared.invocation.Invoked.{Invoked as OfInvoked}
use Rattle.jvm_calls.specs.Invokes.{invoked_of, callee_of}
use Rattle.jvm_frames.proofs.StackLemmas.{values_taken}
use Rattle.jvm_step.specs.States.{HasTop, frames_at, framed}
use Rattle.jvm_step.specs.Fetches.{called_by}
use Rattle.jvm_step.proofs.StateLemmas.{top_before, framed_before}

abbrev IsCallOf : Program → ℕ → Call → Type 0
IsCallOf program m call = call.current ≡ class_of_method (method_at program m)

-- ---- values

-- the first of some values was pushed first
pub in_order : (values : List Value) → map value_of values ≡ reverse (popped_values values)
in_order [] = refl
in_order (v ∷ values) =
    let first = value_of v in
    ap (λ (vs : List (OfValue ℕ)). first ∷ vs) (in_order values)
    ∙ sym (reverse-append (popped_values values) (first ∷ []))
    ∙ ap reverse (sym (map-append value_of (reverse values) (v ∷ [])))
    ∙ ap (λ (vs : List Value). reverse (map value_of vs)) (sym (reverse-append (v ∷ []) values))

pub taken_anyway : (xs : List Value) (count : ℕ) → popped_values (drop (length xs - count) xs) ≡ take count (popped_values xs)
taken_anyway xs count = by_test (nat_le count (length xs)) refl
  where
    by_test : (b : Bool) → nat_le count (length xs) ≡ b → popped_values (drop (length xs - count) xs) ≡ take count (popped_values xs)
    by_test true is =
        let within : count ≤ length xs = grind arith in
        values_taken xs (length xs - count) count (omega arith)
    by_test false is =
        let past : length xs < count = grind arith in
        let all : length xs - count ≡ 0 = omega arith in
        let long : length (popped_values xs) ≡ length xs = length-map (reverse xs) value_of ∙ length-reverse xs in
        ap (λ (k : ℕ). popped_values (drop k xs)) all ∙ sym (take_all count (popped_values xs) (omega arith))

-- the values that are popped are those on top, in order
pub popped_in_order : (values : List Value) (count : ℕ) (stack below : List (OfValue ℕ)) → Some (popped_values values, below) ≡ popped count stack → map value_of values ≡ reverse (take count stack)
popped_in_order values count stack below is = by_test (nat_le count (length stack)) refl
  where
    by_test : (b : Bool) → nat_le count (length stack) ≡ b → map value_of values ≡ reverse (take count stack)
    by_test true test =
        let both : Some (popped_values values, below) ≡ Some (take count stack, drop count stack) = is ∙ rw test refl in
        in_order values ∙ ap (λ (found : List (OfValue ℕ) × List (OfValue ℕ)). reverse found.0) (same_Some _ _ both)
    by_test false test =
        let lacks : Some (popped_values values, below) ≡ None = is ∙ rw test refl in
        absurd (none-some _ (sym lacks))

-- ---- the frame on top

pub first_apart : (frames : List Frame) (f : Frame) → slice_get frames 0 ≡ Some f → frames ≡ f ∷ drop 1 frames
first_apart [] f at = absurd (none-some f at)
first_apart (g ∷ below) f at = ap (λ (h : Frame). h ∷ below) (same_Some g f at)

pub none_apart : (frames : List Frame) → slice_get frames 0 ≡ None → frames ≡ []
none_apart [] none = refl
none_apart (g ∷ below) none = absurd (none-some g (sym none))

module _ (threads : List Thread) (t : ℕ) (found : Option Frame) (is : found ≡ slice_get (frames_at (slice_get threads t)) 0) where
  -- what is found is the top frame
  pub found_top : (f : Frame) (below : List Frame) → HasTop threads t f below → found ≡ Some f
  found_top f below top = is ∙ ap (λ (frames : List Frame). slice_get frames 0) top

  pub has_top : (f : Frame) → found ≡ Some f → HasTop threads t f (drop 1 (frames_at (slice_get threads t)))
  has_top f one = first_apart (frames_at (slice_get threads t)) f (sym is ∙ one)

-- ---- what a call comes to

module _ (program : Program) (labels : Labels) (s : State) (m count : ℕ) (call : Call) (stack below : List (OfValue ℕ)) where
  -- with the values that were popped
  pub called_with : (values : List Value) (result : Option OfInvoked) → IsCallOf program m call → Some (popped_values values, below) ≡ popped count stack
      → option_map (invoked_of (map value_of values)) result ≡ invoked (callee_of program labels call) (info_at s) (was_started s) (map value_of values)
      → option_map (invoked_of (reverse (take count stack))) result ≡ called_by program labels s m call (popped count stack)
  called_with values result from is by =
      let comes : List (OfValue ℕ) → Option (Invoked ℕ) = λ vs. invoked (callee_of program labels call) (info_at s) (was_started s) vs in
      ap (λ (vs : List (OfValue ℕ)). option_map (invoked_of vs) result) (sym (popped_in_order values count stack below is))
      ∙ by
      ∙ ap comes (in_order values)
      ∙ ap (λ (c : ℕ). invoked (callee program labels c call.op call.owner.now call.method) (info_at s) (was_started s) (reverse (popped_values values))) from
      ∙ ap (called_by program labels s m call) is

-- ---- states behind a call

abbrev pub going : State → Option Event → Option Stepped
going s event = Some (record { state = s; event = event })

module _ (s : State) (t : ℕ) (frames : List Frame) where
  -- the thread has other frames
  pub framed_step : (pending : Option ℕ) (event : Option Event) (threads : List Thread) → threads ≡ framed s.threads t frames pending
      → going (with_frames s t frames pending) event ≡ going (with_threads s threads) event
  framed_step pending event threads is = ap (λ (ts : List Thread). going (with_threads s ts) event) (sym is)

  -- and a source has given one int more
  pub asked_step : (source : ℕ) (cursors : List ℕ) (threads : List Thread) → cursors ≡ slice_set s.cursors source (slice_index s.cursors source + 1) → threads ≡ framed s.threads t frames None
      → silently (with_frames (with_cursor s source) t frames None) ≡ silently (record { heap = s.heap; statics = s.statics; cursors = cursors; threads = threads })
  asked_step source cursors threads given is =
      let to : List ℕ → List Thread → Option Stepped = λ cs ts. silently (record { heap = s.heap; statics = s.statics; cursors = cs; threads = ts }) in
      ap (λ (ts : List Thread). to (slice_set s.cursors source (slice_index s.cursors source + 1)) ts) (sym is) ∙ ap (λ (cs : List ℕ). to cs threads) (sym given)

  -- and a thread began
  pub begun_step : (a : ℕ) (frame f : Frame) (below : List Frame) (heap : List HeapObject) (threads : List Thread) → HasTop s.threads t f below
      → heap ≡ changed s.heap a marked_started → threads ≡ framed (with_thread s a frame).threads t frames None
      → thread_begun s t frames a (Some frame) ≡ silently (record { heap = heap; statics = s.statics; cursors = s.cursors; threads = threads })
  begun_step a frame f below heap threads top marked is =
      let more : Thread = record { frames = frame ∷ []; pending = None; object = Some a } in
      let to : List HeapObject → List Thread → Option Stepped = λ h ts. silently (record { heap = h; statics = s.statics; cursors = s.cursors; threads = ts }) in
      by_object (slice_get s.heap a)
      ∙ ap (λ (ts : List Thread). to (changed s.heap a marked_started) ts) (sym (framed_before s.threads more t f below frames None top) ∙ sym is)
      ∙ ap (λ (h : List HeapObject). to h threads) (sym marked)
    where
      by_object : (o : Option HeapObject) → silently (with_thread (with_frames (on_object s a o marked_started) t frames None) a frame)
          ≡ silently (record { heap = changed_if s.heap a o marked_started; statics = s.statics; cursors = s.cursors; threads = framed s.threads t frames None ++ record { frames = frame ∷ []; pending = None; object = Some a } ∷ [] })
      by_object None = refl
      by_object (Some o) = refl

-- the state behind three writes: the new thread, the one that goes on, and the object that is marked
pub begun_after : (s : State) (t : ℕ) (frames : List Frame) (a : ℕ) (frame f : Frame) (below : List Frame) (added : State) (heap : List HeapObject) (threads : List Thread) → HasTop s.threads t f below
    → added ≡ with_thread s a frame → heap ≡ changed added.heap a marked_started → (HasTop added.threads t f below → threads ≡ framed added.threads t frames None)
    → thread_begun s t frames a (Some frame) ≡ silently (record { heap = heap; statics = added.statics; cursors = added.cursors; threads = threads })
begun_after s t frames a frame f below added heap threads top is marked goes =
    let more : Thread = record { frames = frame ∷ []; pending = None; object = Some a } in
    let there : HasTop added.threads t f below = subst (λ (x : State). HasTop x.threads t f below) (sym is) (top_before s.threads more t f below top) in
    begun_step s t frames a frame f below heap threads top
    (marked ∙ ap (λ (x : State). changed x.heap a marked_started) is)
    (goes there ∙ ap (λ (x : State). framed x.threads t frames None) is)
    ∙ ap (λ (x : State). silently (record { heap = heap; statics = x.statics; cursors = x.cursors; threads = threads })) (sym is)

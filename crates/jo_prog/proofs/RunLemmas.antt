-- Runs, a number of the schedule at a time.
use Rattle.std.proofs.Common.{Bool, true, false, ◌≡◌, ◌^◌, ℕ, ◌+◌, ◌<◌, ◌≤◌, List, [], ◌∷◌, ◌++◌, length, drop, get_or, Option, Some, None, All, refl, sym, ap, ◌∙◌, arith, append_assoc, inl, inr}
use Rattle.std.specs.Prelude.{slice_index}
use Rattle.std.proofs.lemmas.Bool.{cases_lt}
use Rattle.std.proofs.lemmas.List.{at_drop_more, get_or_past, append-nil, drop_all}
use Rattle.std.specs.Option.{option_to_list}
use Rattle.std.proofs.lemmas.List.Elements.{All-weaker, All-set}
use Rattle.jo_prog.specs.declared.operations.Operation.{Operation}
use Rattle.jo_prog.specs.declared.operations.Operation.TheVariants.{Constant, Load, Store, Add, Subtract, InvokeStatic, Return, Other}
use Rattle.jo_prog.specs.declared.labels.Label.{Label}
use Rattle.jo_prog.specs.declared.labels.Label.TheVariants.{Source, Sink, Release}
use Rattle.jo_prog.specs.declared.labels.Labels.{Labels}
use Rattle.jo_prog.specs.declared.program.Program.{Program}
use Rattle.jo_prog.specs.declared.runs.SourceInput.{SourceInput}
use Rattle.jo_prog.specs.declared.runs.Event.{Event}
use Rattle.jo_prog.specs.declared.runs.Trace.{Trace}
use Rattle.jo_prog.specs.Labels.{label_of}
use Rattle.jo_prog.specs.Program.{operation_at, callee_at}
use Rattle.jo_prog.specs.Values.{Value, int, null, ref}
use Rattle.jo_prog.specs.Machine.{Frame, Thread, State, Stepped, info_at, fetched, execute, silent, called, after_call, call_native, step_operation, step_thread}
use Rattle.jo_prog.specs.Runs.{unmoved, advanced_by, advanced, enabled, with_event, run_from, all_ended}
use Rattle.jo_prog.specs.Running.{behind, frames_of, with_thread}

-- ---- a step raises a cursor by one at most

-- no source has given more than so many ints
abbrev GaveAtMost : ℕ → List ℕ → Type 0
GaveAtMost most cursors = All (λ (c : ℕ). c ≤ most) cursors

one_more : (most : ℕ) (cursors : List ℕ) → GaveAtMost most cursors → GaveAtMost (most + 1) cursors
one_more most cursors h = All-weaker (λ (c : ℕ). c ≤ most) (λ (c : ℕ). c ≤ most + 1) (λ c low. omega arith) cursors h

given_at : (most : ℕ) (cursors : List ℕ) (m : ℕ) → GaveAtMost most cursors → slice_index cursors m ≤ most
given_at most cursors m h =
    elim (cases_lt m (length cursors)) [
      | inl inside ↦ h m 0 inside
      | inr outside ↦ let past = get_or_past cursors m 0 outside in omega arith
    ]

module _ (inputs : List SourceInput) (s : State) (t : ℕ) (f : Frame) (below : List Frame) (next most : ℕ) (h : GaveAtMost most s.cursors) where
  abbrev after : Option Stepped → Type 0
  after o = GaveAtMost (most + 1) (unmoved s o).state.cursors

  after_silent : (o : Option (List Frame)) → after (silent s t o)
  after_silent None = one_more most s.cursors h
  after_silent (Some frames) = one_more most s.cursors h

  after_called : (m : ℕ) (label : Option Label) (stack : List (Value ℕ)) → after (after_call s t f below next (called inputs s.cursors m label stack))
  after_called m None stack = one_more most s.cursors h
  after_called m (Some (Source level)) stack =
      All-set (λ (c : ℕ). c ≤ most + 1) s.cursors m (slice_index s.cursors m + 1) (omega (arith, given_at most s.cursors m h)) (one_more most s.cursors h)
  after_called m (Some (Sink level)) [] = one_more most s.cursors h
  after_called m (Some (Sink level)) (int z ∷ stack) = one_more most s.cursors h
  after_called m (Some (Sink level)) (null ∷ stack) = one_more most s.cursors h
  after_called m (Some (Sink level)) (ref a ∷ stack) = one_more most s.cursors h
  after_called m (Some (Release from to)) [] = one_more most s.cursors h
  after_called m (Some (Release from to)) (int z ∷ stack) = one_more most s.cursors h
  after_called m (Some (Release from to)) (null ∷ stack) = one_more most s.cursors h
  after_called m (Some (Release from to)) (ref a ∷ stack) = one_more most s.cursors h

  after_native : (labels : Labels) (callee : Option ℕ) → after (call_native labels inputs s t f below next callee)
  after_native labels None = one_more most s.cursors h
  after_native labels (Some m) = after_called m (label_of labels m) f.stack

module _ (program : Program) (labels : Labels) (inputs : List SourceInput) (s : State) (most : ℕ) (h : GaveAtMost most s.cursors) where
  after_executed : (t : ℕ) (f : Frame) (below : List Frame) (next : ℕ) (operation : Operation) → GaveAtMost (most + 1) (unmoved s (silent s t (execute (info_at s) f below next operation (fetched operation f)))).state.cursors
  after_executed t f below next operation = after_silent inputs s t f below next most h (execute (info_at s) f below next operation (fetched operation f))

  after_operation : (t : ℕ) (f : Frame) (below : List Frame) (found : Option (Operation × ℕ)) → GaveAtMost (most + 1) (unmoved s (step_operation program labels inputs s t f below found)).state.cursors
  after_operation t f below None = one_more most s.cursors h
  after_operation t f below (Some (InvokeStatic k, next)) = after_native inputs s t f below next most h labels (callee_at program f.method f.pc)
  after_operation t f below (Some (Constant z, next)) = after_silent inputs s t f below next most h _
  after_operation t f below (Some (Load k, next)) = after_silent inputs s t f below next most h _
  after_operation t f below (Some (Store k, next)) = after_silent inputs s t f below next most h _
  after_operation t f below (Some (Add, next)) = after_executed t f below next Add
  after_operation t f below (Some (Subtract, next)) = after_executed t f below next Subtract
  after_operation t f below (Some (Return, next)) = after_executed t f below next Return
  after_operation t f below (Some (Other, next)) = after_executed t f below next Other

  after_frames : (t : ℕ) (frames : List Frame) (pending object : Option ℕ) → GaveAtMost (most + 1) (unmoved s (step_thread program labels inputs s t (Some (record { frames = frames; pending = pending; object = object })))).state.cursors
  after_frames t [] None object = one_more most s.cursors h
  after_frames t [] (Some a) object = one_more most s.cursors h
  after_frames t (f ∷ below) (Some a) object = one_more most s.cursors h
  after_frames t (f ∷ below) None object = after_operation t f below (operation_at program f.method f.pc)

  after_thread : (t : ℕ) (thread : Option Thread) → GaveAtMost (most + 1) (unmoved s (step_thread program labels inputs s t thread)).state.cursors
  after_thread t None = one_more most s.cursors h
  after_thread t (Some thread) = after_frames t thread.frames thread.pending thread.object

  after_pick : (number : ℕ) (ts : List ℕ) → GaveAtMost (most + 1) (advanced_by program labels inputs s number ts).state.cursors
  after_pick number [] = one_more most s.cursors h
  after_pick number (t ∷ ts) = after_thread _ _

  pub after_advance : (number : ℕ) → GaveAtMost (most + 1) (advanced program labels inputs s number).state.cursors
  after_advance number = after_pick number (enabled s)

-- ---- a run, after so many numbers

-- the cursors have room
pub room : (most : ℕ) (cursors : List ℕ) → most + 1 < 2 ^ 64 → GaveAtMost most cursors → All (λ (c : ℕ). c + 1 < 2 ^ 64) cursors
room most cursors low h = All-weaker (λ (c : ℕ). c ≤ most) (λ (c : ℕ). c + 1 < 2 ^ 64) (λ c below. omega arith) cursors h

run_from-cons : (program : Program) (labels : Labels) (inputs : List SourceInput) (s : State) (number : ℕ) (schedule : List ℕ) (stepped : Stepped) → advanced program labels inputs s number ≡ stepped → run_from program labels inputs s (number ∷ schedule) ≡ with_event stepped.event (run_from program labels inputs stepped.state schedule)
unfolding run_from
run_from-cons program labels inputs s number schedule stepped e =
    ap (λ (x : Stepped). with_event x.event (run_from program labels inputs x.state schedule)) e

run_from-nil : (program : Program) (labels : Labels) (inputs : List SourceInput) (s : State) → run_from program labels inputs s [] ≡ record { events = []; ended = all_ended s.threads }
unfolding run_from
run_from-nil program labels inputs s = refl

behind-shown : (events : List Event) (shown : Option Event) (trace : Trace) → behind events (with_event shown trace) ≡ behind (events ++ option_to_list shown) trace
behind-shown events (Some event) trace =
    ap (λ es. let t : Trace = record { events = es; ended = trace.ended } in t) (sym (append_assoc events (event ∷ []) trace.events))
behind-shown events None trace = ap (λ es. behind es trace) (sym (append-nil events))

-- one number more of the schedule
pub run_more : (program : Program) (labels : Labels) (inputs : List SourceInput) (s : State) (i : ℕ) (schedule : List ℕ) (events more : List Event) (stepped : Stepped) (whole : Trace)
    → whole ≡ behind events (run_from program labels inputs s (drop i schedule)) → i < length schedule
    → ((number : ℕ) → advanced program labels inputs s number ≡ stepped) → more ≡ events ++ option_to_list stepped.event
    → whole ≡ behind more (run_from program labels inputs stepped.state (drop (i + 1) schedule))
run_more program labels inputs s i schedule events more stepped whole so_far inside e shown =
    let rest = run_from program labels inputs stepped.state (drop (i + 1) schedule) in
    so_far
    ∙ ap (λ (t : Trace). behind events t)
    (at_drop_more (run_from program labels inputs s) schedule i 0 inside
    ∙ run_from-cons program labels inputs s (get_or schedule i 0) (drop (i + 1) schedule) stepped (e (get_or schedule i 0)))
    ∙ behind-shown events stepped.event rest
    ∙ ap (λ es. behind es rest) (sym shown)

all_ended-one : (ended : Bool) (f : Frame) → all_ended (record { frames = frames_of ended f; pending = None; object = None } ∷ []) ≡ ended
all_ended-one true f = refl
all_ended-one false f = refl

-- the whole schedule
pub run_all : (program : Program) (labels : Labels) (inputs : List SourceInput) (cursors : List ℕ) (ended : Bool) (f : Frame) (i : ℕ) (schedule : List ℕ) (events : List Event) (whole : Trace)
    → whole ≡ behind events (run_from program labels inputs (with_thread program labels cursors (frames_of ended f)) (drop i schedule)) → length schedule ≤ i
    → record { events = events; ended = ended } ≡ whole
run_all program labels inputs cursors ended f i schedule events whole so_far end =
    let s = with_thread program labels cursors (frames_of ended f) in
    let last = ap (λ (numbers : List ℕ). run_from program labels inputs s numbers) (drop_all i schedule end) ∙ run_from-nil program labels inputs s in
    sym (so_far ∙ ap (λ (t : Trace). behind events t) last
    ∙ ap (λ es. let t : Trace = record { events = es; ended = all_ended s.threads } in t) (append-nil events)
    ∙ ap (λ b. let t : Trace = record { events = events; ended = b } in t) (all_ended-one ended f))

-- States by their parts, and steps by where a thread stands.
use Rattle.std.proofs.Common.{◌≡◌, ◌∙◌, sym, ap, refl, ℕ, zero, suc, List, [], ◌∷◌, ◌++◌, Option, Some, None, slice_get, slice_set}
use Rattle.jo_prog.specs.declared.program.Program.{Program}
use Rattle.jo_prog.specs.declared.labels.Labels.{Labels}
use Rattle.jo_prog.specs.declared.runs.SourceInput.{SourceInput}
use Rattle.jo_prog.specs.declared.runs.Event.{Event}
use Rattle.jo_prog.specs.Values.{Value}
use Rattle.jo_prog.specs.Machine.{Frame, Thread, HeapObject, State, Stepped}
use Rattle.machine.specs.Instructions.{instruction_at}
use Rattle.machine.specs.Steps.{object_of, resumed, unwound, step_at, step_frames, step_thread}
use Rattle.jvm_frames.specs.Frames.{on_top, with_result}
use Rattle.jvm_step.specs.States.{frames_at, HasTop, framed}
use Rattle.jvm_step.specs.Moves.{IsPcBehind}
use Rattle.jvm_step.specs.Standings.{pending_at}

abbrev pub made_of : List HeapObject → List (Value ℕ) → List ℕ → List Thread → State
made_of heap statics cursors threads = record { heap = heap; statics = statics; cursors = cursors; threads = threads }

abbrev pub stepped_to : State → Option Event → Option Stepped
stepped_to s event = Some (record { state = s; event = event })

module _ {h h' : List HeapObject} {v v' : List (Value ℕ)} {c c' : List ℕ} {ts ts' : List Thread} where
  pub same_state : h ≡ h' → v ≡ v' → c ≡ c' → ts ≡ ts' → made_of h v c ts ≡ made_of h' v' c' ts'
  same_state e1 e2 e3 e4 =
      ap (λ x. made_of x v c ts) e1 ∙ ap (λ x. made_of h' x c ts) e2 ∙ ap (λ x. made_of h' v' x ts) e3 ∙ ap (λ x. made_of h' v' c' x) e4

  pub same_step : (event : Option Event) → h ≡ h' → v ≡ v' → c ≡ c' → ts ≡ ts' → stepped_to (made_of h v c ts) event ≡ stepped_to (made_of h' v' c' ts') event
  same_step event e1 e2 e3 e4 = ap (λ (s : State). stepped_to s event) (same_state e1 e2 e3 e4)

-- a caller goes on
pub resumed_is : (program : Program) (pc : ℕ) (result : Option (Value ℕ)) (below : List Frame) → IsPcBehind program below pc → on_top (with_result pc result) below ≡ resumed program result below
resumed_is program pc result [] behind = refl
resumed_is program pc result (caller ∷ below) behind = rw behind refl

-- ---- a thread that is added at the end

module _ {A : Type 0} where
  get_before : (xs : List A) (y : A) (t : ℕ) (x : A) → slice_get xs t ≡ Some x → slice_get (xs ++ y ∷ []) t ≡ Some x
  get_before [] y t x at = absurd (cc)
  get_before (z ∷ xs) y zero x at = at
  get_before (z ∷ xs) y (suc t) x at = get_before xs y t x at

  set_before : (xs : List A) (y : A) (t : ℕ) (x new : A) → slice_get xs t ≡ Some x → slice_set (xs ++ y ∷ []) t new ≡ slice_set xs t new ++ y ∷ []
  set_before [] y t x new at = absurd (cc)
  set_before (z ∷ xs) y zero x new at = refl
  set_before (z ∷ xs) y (suc t) x new at = ap (λ zs. z ∷ zs) (set_before xs y t x new at)

module _ (threads : List Thread) (more : Thread) (t : ℕ) (f : Frame) (below : List Frame) where
  by_thread : {P : Type 0} (thread : Option Thread) → frames_at thread ≡ f ∷ below → ((x : Thread) → thread ≡ Some x → P) → P
  by_thread None top goes = let empty : ◌≡◌ {A = List Frame} [] (f ∷ below) = top in absurd (cc)
  by_thread (Some x) top goes = goes x refl

  pub top_before : HasTop threads t f below → HasTop (threads ++ more ∷ []) t f below
  top_before top = by_thread (slice_get threads t) top (λ x at. ap frames_at (get_before threads more t x at ∙ sym at) ∙ top)

  pub framed_before : (frames : List Frame) (pending : Option ℕ) → HasTop threads t f below → framed (threads ++ more ∷ []) t frames pending ≡ framed threads t frames pending ++ more ∷ []
  framed_before frames pending top = by_thread (slice_get threads t) top (λ x at.
      ap (λ (o : Option Thread). slice_set (threads ++ more ∷ []) t (record { frames = frames; pending = pending; object = object_of o })) (get_before threads more t x at ∙ sym at)
      ∙ set_before threads more t x (record { frames = frames; pending = pending; object = object_of (slice_get threads t) }) at)

-- ---- where a thread stands

module _ (program : Program) (labels : Labels) (inputs : List SourceInput) (s : State) (t : ℕ) where
  pub step_ended : (thread : Option Thread) → frames_at thread ≡ [] → step_thread program labels inputs s t thread ≡ None
  step_ended None none = refl
  step_ended (Some thread) none = ap (step_frames program labels inputs s t thread.pending) none

  pub step_thrown : (thread : Option Thread) (f : Frame) (below : List Frame) (a : ℕ) → frames_at thread ≡ f ∷ below → pending_at thread ≡ Some a → step_thread program labels inputs s t thread ≡ unwound program s t f below a
  step_thrown None f below a top pending = absurd (cc)
  step_thrown (Some thread) f below a top pending =
      ap (step_frames program labels inputs s t thread.pending) top ∙ ap (λ (p : Option ℕ). step_frames program labels inputs s t p (f ∷ below)) pending

  pub step_here : (thread : Option Thread) (f : Frame) (below : List Frame) → frames_at thread ≡ f ∷ below → pending_at thread ≡ None → step_thread program labels inputs s t thread ≡ step_at program labels inputs s t f below (instruction_at program f.method f.pc)
  step_here None f below top pending = absurd (cc)
  step_here (Some thread) f below top pending =
      ap (step_frames program labels inputs s t thread.pending) top ∙ ap (λ (p : Option ℕ). step_frames program labels inputs s t p (f ∷ below)) pending

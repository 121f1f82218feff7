-- What comes of a step, as the program holds it (this project's own).
use Rattle.std.specs.Prelude.{◌≡◌, ℕ, List, [], ◌∷◌, Option, Some, None, Result, Ok, Err}
use Rattle.std.specs.declared.alloc.AllocError.{AllocError}
use Rattle.jo_prog.specs.declared.program.Program.{Program}
use Rattle.jo_prog.specs.declared.runs.Event.{Event}
use Rattle.jo_prog.specs.Machine.{Frame, State, Stepped}
use Rattle.machine.specs.Steps.{next_pc}
use Rattle.step_laws.specs.TypedStates.{IsTypedState}
use Rattle.jvm_step.specs.States.{HasTop}
use Rattle.jvm_step.specs.declared.moves.Moved.{Moved}
use Rattle.jvm_step.specs.declared.moves.Moved.TheVariants.{Stuck, Went}

-- The step that is wanted was made. Where there is none nothing changes, and want of memory leaves all as it was.
abbrev pub Steps : State → State → Option Stepped → Result Moved AllocError → Type 0
Steps old new wanted (Ok Stuck) = (wanted ≡ None) × (new ≡ old)
Steps old new wanted (Ok (Went event)) = wanted ≡ Some (record { state = new; event = event })
Steps old new wanted (Err memory) = new ≡ old

-- the same where a thread has a frame
abbrev pub StepsAt : State → State → ℕ → (Frame → List Frame → Option Stepped) → Result Moved AllocError → Type 0
StepsAt old new t wanted result = (f : Frame) (below : List Frame) → HasTop old.threads t f below → Steps old new (wanted f below) result

-- a frame that a return goes back to goes on at this pc
abbrev pub IsPcBehind : Program → List Frame → ℕ → Type 0
IsPcBehind program [] pc = Unit {0}
IsPcBehind program (caller ∷ below) pc = pc ≡ next_pc program caller

-- what a step shows
abbrev pub event_of : Moved → Option Event
event_of Stuck = None
event_of (Went event) = event

-- in a typed state a thread that may step goes on, and the state stays typed, or memory was wanting
abbrev pub GoesOnTyped : Program → State → Result Moved AllocError → Type 0
GoesOnTyped program new (Ok Stuck) = ⊥
GoesOnTyped program new (Ok (Went event)) = IsTypedState program new
GoesOnTyped program new (Err memory) = Unit {0}

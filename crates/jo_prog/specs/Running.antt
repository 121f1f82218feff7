-- The state of a run whose one thread has one frame, whose values are ints or the entry's array, or has ended.
use Rattle.std.specs.Prelude.{◌≡◌, ℕ, ℤ, Bool, true, false, List, [], ◌∷◌, ◌++◌, map, reverse, Option, Some, None, option_map}
use Rattle.jo_prog.specs.declared.operations.Operation.{Operation}
use Rattle.jo_prog.specs.declared.labels.Label.{Label}
use Rattle.jo_prog.specs.declared.labels.Labels.{Labels}
use Rattle.jo_prog.specs.declared.program.Program.{Program}
use Rattle.jo_prog.specs.declared.runner.RunState.{RunState}
use Rattle.jo_prog.specs.declared.runner.Slot.{Slot}
use Rattle.jo_prog.specs.declared.runner.Slot.TheVariants.{Int, Arguments}
use Rattle.jo_prog.specs.declared.runs.SourceInput.{SourceInput}
use Rattle.jo_prog.specs.declared.runs.Event.{Event}
use Rattle.jo_prog.specs.declared.runs.Trace.{Trace}
use Rattle.jo_prog.specs.Values.{Value, int, ref}
use Rattle.jo_prog.specs.Constants.{arguments_address}
use Rattle.jo_prog.specs.Machine.{Frame, State, Stepped, first_heap, first_statics, info_at, fetched, execute, silent, called, after_call}
use Rattle.jo_prog.specs.Runs.{unmoved}

abbrev pub value_of : Program → Slot → Value ℕ
value_of program (Int value) = int value
value_of program Arguments = ref (arguments_address program)

-- the stack's top stands last in a run's state, and first in a frame
abbrev pub values_of : Program → List Slot → List (Value ℕ)
values_of program slots = map (value_of program) (reverse slots)

abbrev pub locals_of : Program → List (Option Slot) → List (Option (Value ℕ))
locals_of program slots = map (option_map (value_of program)) slots

-- the int that the first slot holds, and the ints that the first two hold
abbrev pub one_int : List Slot → Option ℤ
one_int (Int value ∷ slots) = Some value
one_int _ = None

abbrev pub two_ints : List Slot → Option (ℤ × ℤ)
two_ints (Int second ∷ Int first ∷ slots) = Some (first, second)
two_ints _ = None

abbrev pub frame_of : Program → RunState → Frame
frame_of program r = record { method = r.method; pc = r.pc; locals = locals_of program r.locals.items; stack = values_of program r.stack.items }

abbrev pub frames_of : Bool → Frame → List Frame
frames_of true f = []
frames_of false f = f ∷ []

-- the state with these cursors, and with these frames in its one thread; plain code changes nothing else
abbrev pub with_thread : Program → Labels → List ℕ → List Frame → State
with_thread program labels cursors frames = record {
  heap = first_heap program labels;
  statics = first_statics program;
  cursors = cursors;
  threads = record { frames = frames; pending = None; object = None } ∷ [];
}

abbrev pub state_of : Program → Labels → RunState → State
state_of program labels r = with_thread program labels r.cursors.items (frames_of r.has_ended (frame_of program r))

-- the run is in this state, and this was shown
abbrev pub showing : Program → Labels → RunState → Option Event → Stepped
showing program labels r event = record { state = state_of program labels r; event = event }

abbrev pub quiet : Program → Labels → RunState → Stepped
quiet program labels r = showing program labels r None

-- what an operation that is no call leads to
abbrev pub executed : Program → Labels → RunState → ℕ → Operation → Stepped
executed program labels r next operation =
    let s = state_of program labels r in
    let f = frame_of program r in
    unmoved s (silent s 0 (execute (info_at s) f [] next operation (fetched operation f)))

-- what the call of a method with this label leads to
abbrev pub called_by : Program → Labels → List SourceInput → RunState → ℕ → ℕ → Option Label → Stepped
called_by program labels inputs r next m label =
    let s = state_of program labels r in
    let f = frame_of program r in
    unmoved s (after_call s 0 f [] next (called inputs r.cursors.items m label f.stack))

-- an operation leads from one state of a run to another, and nothing is shown
abbrev pub Executes : RunState → ℕ → Operation → RunState → Type 0
Executes old next operation new = (program : Program) (labels : Labels) → executed program labels old next operation ≡ quiet program labels new

-- the call of a method with this label leads from one state of a run to another, and shows this
abbrev pub Calls : List SourceInput → RunState → ℕ → ℕ → Option Label → RunState → Option Event → Type 0
Calls inputs old next m label new event = (program : Program) (labels : Labels) → called_by program labels inputs old next m label ≡ showing program labels new event

-- a trace with these events before its own
abbrev pub behind : List Event → Trace → Trace
behind events trace = record { events = events ++ trace.events; ended = trace.ended }

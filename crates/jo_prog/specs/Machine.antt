-- The interleaving machine: its states, and one step of one thread (JVM Specification SE 8, 2.5, 2.6 and chapter 6). It is
-- stepped over plain code. A source, a sink and a release are what the policy says (this project's own).
-- A thread without frames has ended. No exception is raised by plain code, so a pending one has no step yet.
use Rattle.std.specs.Prelude.{ℕ, ◌+◌, ℤ, pos, Bool, true, false, ◌==◌, nat_le, if◌then◌else◌, List, [], ◌∷◌, ◌++◌, length, map, take, drop, replicate, Option, Some, None, slice_get, slice_set, slice_index, slice_index_or}
use Rattle.jo_text.specs.declared.descriptors.Base.TheVariants.{Class}
use Rattle.jo_prog.specs.declared.operations.Operation.{Operation}
use Rattle.jo_prog.specs.declared.operations.Operation.TheVariants.{Constant, Load, Store, Add, Subtract, InvokeStatic, Return, Other}
use Rattle.jo_prog.specs.declared.labels.Label.{Label}
use Rattle.jo_prog.specs.declared.labels.Label.TheVariants.{Source, Sink, Release}
use Rattle.jo_prog.specs.declared.labels.Labels.{Labels}
use Rattle.jo_prog.specs.declared.program.Program.{Program}
use Rattle.jo_prog.specs.declared.program.Code.{Code}
use Rattle.jo_prog.specs.declared.runs.SourceInput.{SourceInput}
use Rattle.jo_prog.specs.declared.runs.Event.{Event}
use Rattle.jo_prog.specs.declared.runs.Event.TheVariants.{Out, Release as Released}
use Rattle.jo_prog.specs.Labels.{label_of}
use Rattle.jo_prog.specs.Program.{method_at, code_at, operation_at, callee_at}
use Rattle.jo_prog.specs.PreludeClasses.{string_name, string_class}
use Rattle.jo_prog.specs.Values.{Value, int, ref, Info, object, array, Effect, pushes, stores, returns, Outcome, exec}
use Rattle.jo_prog.specs.Constants.{string_constants, first_value, takes_arguments, arguments_address}

-- a frame; the stack's top comes first, and a local that isn't set has no value
pub record Frame : Type 0 where
  pub method : ℕ
  pub pc : ℕ
  pub locals : List (Option (Value ℕ))
  pub stack : List (Value ℕ)

-- Its frames, the top one first, the address of an exception that is on its way, and that of its thread object, which the
-- first thread hasn't.
pub record Thread : Type 0 where
  pub frames : List Frame
  pub pending : Option ℕ
  pub object : Option ℕ

-- an object with its fields by number, or an array with its elements; whether a thread object was started
pub record HeapObject : Type 0 where
  pub info : Info
  pub fields : List (ℕ × Value ℕ)
  pub elements : List (Value ℕ)
  pub started : Bool

-- The heap by address, the static fields by number, for each method how many ints it has given as a source, and the
-- threads in order of start.
pub record State : Type 0 where
  pub heap : List HeapObject
  pub statics : List (Value ℕ)
  pub cursors : List ℕ
  pub threads : List Thread

-- what a step leads to, and what it shows
pub record Stepped : Type 0 where
  pub state : State
  pub event : Option Event

abbrev pub info_of : Option HeapObject → Info
info_of None = object 0
info_of (Some o) = o.info

abbrev pub info_at : State → ℕ → Info
info_at s address = info_of (slice_get s.heap address)

-- ---- an instruction that is no call: fetch, exec, apply

-- the values on top of the stack, and the stack below them
abbrev pub popped : ℕ → List (Value ℕ) → Option (List (Value ℕ) × List (Value ℕ))
popped n stack = if nat_le n (length stack) then Some (take n stack, drop n stack) else None

abbrev pub fetched_local : Option (Option (Value ℕ)) → List (Value ℕ) → Option (List (Value ℕ) × List (Value ℕ))
fetched_local (Some (Some v)) stack = Some (v ∷ [], stack)
fetched_local _ stack = None

-- the values that an operation pops or loads, and the stack that it leaves
abbrev pub fetched : Operation → Frame → Option (List (Value ℕ) × List (Value ℕ))
fetched (Constant z) f = popped 0 f.stack
fetched (Load k) f = fetched_local (slice_get f.locals k) f.stack
fetched (Store k) f = popped 1 f.stack
fetched Add f = popped 2 f.stack
fetched Subtract f = popped 2 f.stack
fetched (InvokeStatic k) f = None
fetched Return f = popped 0 f.stack
fetched Other f = None

-- The frames after an effect on the top frame; next is the pc behind the instruction, and stack is what was left by the
-- fetch. No call has pushed a frame, so a return ends the thread.
abbrev pub applied : Frame → List Frame → ℕ → List (Value ℕ) → Effect ℕ → List Frame
applied f below next stack (pushes values) = record { method = f.method; pc = next; locals = f.locals; stack = values ++ stack } ∷ below
applied f below next stack (stores k v) = record { method = f.method; pc = next; locals = slice_set f.locals k (Some v); stack = stack } ∷ below
applied f below next stack (returns v) = below

abbrev pub apply_outcome : Frame → List Frame → ℕ → List (Value ℕ) → Option (Outcome ℕ) → Option (List Frame)
apply_outcome f below next stack None = None
apply_outcome f below next stack (Some o) = Some (applied f below next stack o.effect)

abbrev pub execute : (ℕ → Info) → Frame → List Frame → ℕ → Operation → Option (List (Value ℕ) × List (Value ℕ)) → Option (List Frame)
execute info f below next operation None = None
execute info f below next operation (Some found) = apply_outcome f below next found.1 (exec operation info None found.0)

abbrev pub object_of : Option Thread → Option ℕ
object_of None = None
object_of (Some thread) = thread.object

-- the state with other frames in the thread that stepped
abbrev pub with_frames : State → ℕ → List Frame → State
with_frames s t frames = record {
  heap = s.heap;
  statics = s.statics;
  cursors = s.cursors;
  threads = slice_set s.threads t (record { frames = frames; pending = None; object = object_of (slice_get s.threads t) });
}

abbrev pub silent : State → ℕ → Option (List Frame) → Option Stepped
silent s t None = None
silent s t (Some frames) = Some (record { state = with_frames s t frames; event = None })

-- ---- a call of a labelled native

-- the int that a source gives at a place of its list, 0 behind its end
abbrev pub input_at : List SourceInput → ℕ → ℕ → ℤ
input_at [] source place = pos 0
input_at (input ∷ inputs) source place = if input.source == source then slice_index_or input.values place (pos 0) else input_at inputs source place

-- what a native method makes of the stack and the cursors, and what it shows
pub record Called : Type 0 where
  pub stack : List (Value ℕ)
  pub cursors : List ℕ
  pub event : Option Event

abbrev pub called : List SourceInput → List ℕ → ℕ → Option Label → List (Value ℕ) → Option Called
called inputs cursors m (Some (Source level)) stack =
    let place = slice_index cursors m in
    Some (record { stack = int (input_at inputs m place) ∷ stack; cursors = slice_set cursors m (place + 1); event = None })
called inputs cursors m (Some (Sink level)) (int z ∷ stack) = Some (record { stack = stack; cursors = cursors; event = Some (Out m z) })
called inputs cursors m (Some (Release from to)) (int z ∷ stack) = Some (record { stack = int z ∷ stack; cursors = cursors; event = Some (Released m z) })
called inputs cursors m _ _ = None

abbrev pub after_call : State → ℕ → Frame → List Frame → ℕ → Option Called → Option Stepped
after_call s t f below next None = None
after_call s t f below next (Some c) = Some (record {
  state = with_frames (record { heap = s.heap; statics = s.statics; cursors = c.cursors; threads = s.threads }) t
      (record { method = f.method; pc = next; locals = f.locals; stack = c.stack } ∷ below);
  event = c.event;
})

abbrev pub call_native : Labels → List SourceInput → State → ℕ → Frame → List Frame → ℕ → Option ℕ → Option Stepped
call_native labels inputs s t f below next None = None
call_native labels inputs s t f below next (Some m) = after_call s t f below next (called inputs s.cursors m (label_of labels m) f.stack)

-- ---- one step

abbrev pub step_operation : Program → Labels → List SourceInput → State → ℕ → Frame → List Frame → Option (Operation × ℕ) → Option Stepped
step_operation program labels inputs s t f below None = None
step_operation program labels inputs s t f below (Some (InvokeStatic k, next)) = call_native labels inputs s t f below next (callee_at program f.method f.pc)
step_operation program labels inputs s t f below (Some (operation, next)) = silent s t (execute (info_at s) f below next operation (fetched operation f))

abbrev pub step_thread : Program → Labels → List SourceInput → State → ℕ → Option Thread → Option Stepped
step_thread program labels inputs s t None = None
step_thread program labels inputs s t (Some thread) = step_frames thread.pending thread.frames
  where
    step_frames : Option ℕ → List Frame → Option Stepped
    step_frames None (f ∷ below) = step_operation program labels inputs s t f below (operation_at program f.method f.pc)
    step_frames _ _ = None

-- One step of a thread. None where it has no step: an operand lacks, or the pc is outside the code.
abbrev pub step : Program → Labels → List SourceInput → State → ℕ → Option Stepped
step program labels inputs s t = step_thread program labels inputs s t (slice_get s.threads t)

-- ---- the first state

-- a string is an object without content
abbrev pub string_object : HeapObject
string_object = record { info = object string_class; fields = []; elements = []; started = false }

-- an array of strings without elements
abbrev pub no_arguments : HeapObject
no_arguments = record { info = array (record { dims = 0; base = Class string_name }) 0; fields = []; elements = []; started = false }

-- an object for each string constant, and behind them the array where the entry takes one
unfoldable pub first_heap : Program → Labels → List HeapObject
first_heap program labels =
    replicate (length (string_constants program)) string_object ++ (if takes_arguments (method_at program labels.entry) then no_arguments ∷ [] else [])

unfoldable pub first_statics : Program → List (Value ℕ)
first_statics program = map (first_value program) program.fields

-- no local is set but the first where the entry takes an array, whose address this is
abbrev pub first_locals : Bool → ℕ → ℕ → List (Option (Value ℕ))
first_locals false count address = replicate count None
first_locals true count address = slice_set (replicate count None) 0 (Some (ref address))

abbrev pub first_frame : Program → ℕ → Option Code → List Frame
first_frame program m None = []
first_frame program m (Some code) =
    record { method = m; pc = 0; locals = first_locals (takes_arguments (method_at program m)) code.max_locals (arguments_address program); stack = [] } ∷ []

-- one thread, in the entry method
abbrev pub start : Program → Labels → State
start program labels = record {
  heap = first_heap program labels;
  statics = first_statics program;
  cursors = replicate (length program.methods) 0;
  threads = record { frames = first_frame program labels.entry (code_at program labels.entry); pending = None; object = None } ∷ [];
}

-- One step of one thread (JVM Specification SE 8, 2.5, 2.6, 2.10 and 6.5): an instruction, a call, or the unwinding of a frame. A call's
-- pc stays at the call until the callee is gone; where an exception is on its way the pc stays at the instruction that threw. Steps
-- of several threads are this project's own reading: each is whole before the next.
use Rattle.std.specs.Prelude.{ℕ, suc, ◌+◌, ◌==◌, Bool, true, false, if◌then◌else◌, pos, List, [], ◌∷◌, ◌++◌, length, map, take, reverse, replicate, Option, Some, None, slice_get, slice_set, slice_index, option_map, option_and_then}
use Rattle.jo_text.specs.declared.descriptors.Base.{Base}
use Rattle.jo_text.specs.declared.descriptors.Base.TheVariants.{Class as OfName}
use Rattle.jo_text.specs.declared.descriptors.FieldDesc.{FieldDesc}
use Rattle.jo_prog.specs.declared.program.Program.{Program}
use Rattle.jo_prog.specs.declared.program.Code.{Code}
use Rattle.jo_prog.specs.declared.program.Method.{Method}
use Rattle.jo_prog.specs.declared.program.Row.{Row}
use Rattle.jo_prog.specs.declared.program.TypeRef.{TypeRef}
use Rattle.jo_prog.specs.declared.program.TypeRef.TheVariants.{Class as OfClass, Array as OfArray}
use Rattle.jo_prog.specs.declared.labels.Labels.{Labels}
use Rattle.jo_prog.specs.declared.runs.SourceInput.{SourceInput}
use Rattle.jo_prog.specs.declared.runs.Event.{Event}
use Rattle.jo_prog.specs.declared.runs.Event.TheVariants.{Out, Release as Released}
use Rattle.jo_prog.specs.declared.sites.Cause.{Cause}
use Rattle.jo_prog.specs.Program.{method_at, code_at}
use Rattle.jo_prog.specs.Constants.{string_address}
use Rattle.jo_prog.specs.Rows.{row_for}
use Rattle.jo_prog.specs.Sites.{class_raised}
use Rattle.jo_prog.specs.Types.{class_named, type_fits}
use Rattle.jo_prog.specs.Values.{Value, int, null, ref, Info, object, array, Cell}
use Rattle.jo_prog.specs.Machine.{Frame, Thread, HeapObject, State, Stepped, info_at, popped, fetched_local, input_at}
use Rattle.machine.specs.Instructions.{Instruction, calls, instruction_at}
use Rattle.machine.specs.Execution.{Ways, Fits, Effect, pushes, puts, jumps, raises, throws_at, allocates, returns, Outcome, cell_read, exec, pops, local_taken}
use Rattle.machine.specs.Invocation.{Invoked, enters, begins, joins, asks, shows, releases, fails, callee, class_of, invoked, type_of}
use Rattle.machine.specs.Heaps.{content, with_content, new_object, new_address, with_new, with_started, was_started}

-- ---- what the state answers

abbrev pub ways : Program → State → Ways ℕ
ways program s = record { same = ◌==◌; info = info_at s; text = string_address program }

-- the type of an array's elements, where an object may stand there
abbrev pub element_ref : Program → FieldDesc → Option TypeRef
element_ref program type = if type.dims == 0 then of_base type.base else Some (OfArray type)
  where
    of_base : Base → Option TypeRef
    of_base (OfName name) = option_map (λ c. OfClass c) (class_named program name)
    of_base _ = None

abbrev pub fits_ref : Program → Info → Option TypeRef → Bool
fits_ref program info None = false
fits_ref program info (Some type) = type_fits program (type_of info) type

abbrev pub fits : Program → Fits
fits program = record {
  of_type = λ info type. type_fits program (type_of info) type;
  as_element = λ type info. fits_ref program info (element_ref program type);
}

-- ---- frames

abbrev pub at_pc : Frame → ℕ → List (Value ℕ) → Frame
at_pc f pc stack = record { method = f.method; pc = pc; locals = f.locals; stack = stack }

abbrev pub with_local : Frame → ℕ → ℕ → Value ℕ → List (Value ℕ) → Frame
with_local f pc k v stack = record { method = f.method; pc = pc; locals = slice_set f.locals k (Some v); stack = stack }

-- the locals of a method that begins: its values, and behind them those that aren't set
abbrev pub locals_of : ℕ → List (Value ℕ) → List (Option (Value ℕ))
locals_of count values = take count (map (λ v. Some v) values ++ replicate count None)

abbrev pub frame_of : ℕ → List (Value ℕ) → Code → Frame
frame_of m values code = record { method = m; pc = 0; locals = locals_of code.max_locals values; stack = [] }

-- the frame of a method with code that begins with these values
abbrev pub new_frame : Program → ℕ → List (Value ℕ) → Option Frame
new_frame program m values = option_map (frame_of m values) (code_at program m)

-- the pc behind the instruction at which a frame stands
abbrev pub next_pc : Program → Frame → ℕ
next_pc program f = behind (instruction_at program f.method f.pc)
  where
    behind : Option (Instruction × ℕ) → ℕ
    behind None = f.pc
    behind (Some found) = found.1

abbrev pub result_on : Option (Value ℕ) → List (Value ℕ) → List (Value ℕ)
result_on None stack = stack
result_on (Some v) stack = v ∷ stack

-- a caller goes on behind its call with the result
abbrev pub resumed : Program → Option (Value ℕ) → List Frame → List Frame
resumed program result [] = []
resumed program result (caller ∷ below) = at_pc caller (next_pc program caller) (result_on result caller.stack) ∷ below

-- ---- threads

abbrev pub with_threads : State → List Thread → State
with_threads s threads = record { heap = s.heap; statics = s.statics; cursors = s.cursors; threads = threads }

abbrev pub object_of : Option Thread → Option ℕ
object_of None = None
object_of (Some thread) = thread.object

-- other frames in a thread, and the exception that is on its way there
abbrev pub with_frames : State → ℕ → List Frame → Option ℕ → State
with_frames s t frames pending =
    with_threads s (slice_set s.threads t (record { frames = frames; pending = pending; object = object_of (slice_get s.threads t) }))

abbrev pub silently : State → Option Stepped
silently s = Some (record { state = s; event = None })

abbrev pub shown : State → Event → Option Stepped
shown s event = Some (record { state = s; event = Some event })

-- an exception that the machine makes is on its way
abbrev pub raised : Program → State → ℕ → List Frame → Cause → Option Stepped
raised program s t frames cause =
    silently (with_frames (with_new s (new_object program (object (class_raised cause)))) t frames (Some (new_address s)))

-- ---- an instruction: fetch, exec, apply

-- the values that it pops or loads, and the stack that it leaves
abbrev pub fetched : Instruction → Frame → Option (List (Value ℕ) × List (Value ℕ))
fetched instruction f = by_local (local_taken instruction)
  where
    by_local : Option ℕ → Option (List (Value ℕ) × List (Value ℕ))
    by_local None = popped (pops instruction) f.stack
    by_local (Some k) = fetched_local (slice_get f.locals k) f.stack

abbrev pub with_written : State → Option (Cell ℕ × Value ℕ) → State
with_written s None = s
with_written s (Some change) = with_content s change.0 change.1

-- the state after an effect on the top frame; next is the pc behind the instruction, and stack is what the fetch has left
abbrev pub applied : Program → State → ℕ → Frame → List Frame → ℕ → List (Value ℕ) → Effect ℕ → Option Stepped
applied program s t f below next stack (pushes values) = silently (with_frames s t (at_pc f next (values ++ stack) ∷ below) None)
applied program s t f below next stack (puts k v) = silently (with_frames s t (with_local f next k v stack ∷ below) None)
applied program s t f below next stack (jumps target) = silently (with_frames s t (at_pc f target stack ∷ below) None)
applied program s t f below next stack (raises cause) = raised program s t (f ∷ below) cause
applied program s t f below next stack (throws_at a) = silently (with_frames s t (f ∷ below) (Some a))
applied program s t f below next stack (allocates info) =
    silently (with_frames (with_new s (new_object program info)) t (at_pc f next (ref (new_address s) ∷ stack) ∷ below) None)
applied program s t f below next stack (returns result) = silently (with_frames s t (resumed program result below) None)

abbrev pub apply_outcome : Program → State → ℕ → Frame → List Frame → ℕ → List (Value ℕ) → Option (Outcome ℕ) → Option Stepped
apply_outcome program s t f below next stack None = None
apply_outcome program s t f below next stack (Some outcome) =
    applied program (with_written s outcome.written) t f below next stack outcome.effect

abbrev pub read_from : State → Option (Cell ℕ) → Option (Value ℕ)
read_from s None = None
read_from s (Some cell) = content s cell

abbrev pub executed : Program → State → ℕ → Frame → List Frame → ℕ → Instruction → Option (List (Value ℕ) × List (Value ℕ)) → Option Stepped
executed program s t f below next instruction None = None
executed program s t f below next instruction (Some found) =
    apply_outcome program s t f below next found.1
    (exec (ways program s) (fits program) instruction (read_from s (cell_read (info_at s) instruction found.0)) found.0)

-- ---- a call

abbrev pub class_of_method : Option Method → ℕ
class_of_method None = 0
class_of_method (Some method) = method.class

-- what a call comes to with the values on top of the stack, the last parameter first
abbrev pub called : Program → Labels → State → ℕ → ℕ → TypeRef → ℕ → List (Value ℕ) → Option (Invoked ℕ)
called program labels s m op owner resolved values =
    invoked (callee program labels (class_of_method (method_at program m)) op owner resolved) (info_at s) (was_started s) (reverse values)

abbrev pub with_cursor : State → ℕ → State
with_cursor s source =
    record { heap = s.heap; statics = s.statics; cursors = slice_set s.cursors source (slice_index s.cursors source + 1); threads = s.threads }

abbrev pub entered : State → ℕ → Frame → List Frame → Option Frame → Option Stepped
entered s t f below None = None
entered s t f below (Some frame) = silently (with_frames s t (frame ∷ f ∷ below) None)

-- the new thread comes last
abbrev pub with_thread : State → ℕ → Frame → State
with_thread s a frame = with_threads s (s.threads ++ record { frames = frame ∷ []; pending = None; object = Some a } ∷ [])

abbrev pub thread_begun : State → ℕ → List Frame → ℕ → Option Frame → Option Stepped
thread_begun s t frames a None = None
thread_begun s t frames a (Some frame) = silently (with_thread (with_frames (with_started s a) t frames None) a frame)

-- the state after a call; stack is what its values have left
abbrev pub invoked_step : Program → List SourceInput → State → ℕ → Frame → List Frame → ℕ → List (Value ℕ) → Option (Invoked ℕ) → Option Stepped
invoked_step program inputs s t f below next stack None = None
invoked_step program inputs s t f below next stack (Some (enters m values)) = entered s t (at_pc f f.pc stack) below (new_frame program m values)
invoked_step program inputs s t f below next stack (Some (begins a m)) =
    thread_begun s t (at_pc f next stack ∷ below) a (new_frame program m (ref a ∷ []))
invoked_step program inputs s t f below next stack (Some (joins a)) = silently (with_frames s t (at_pc f next stack ∷ below) None)
invoked_step program inputs s t f below next stack (Some (asks source)) =
    silently (with_frames (with_cursor s source) t (at_pc f next (int (input_at inputs source (slice_index s.cursors source)) ∷ stack) ∷ below) None)
invoked_step program inputs s t f below next stack (Some (shows sink z)) = shown (with_frames s t (at_pc f next stack ∷ below) None) (Out sink z)
invoked_step program inputs s t f below next stack (Some (releases m z)) =
    shown (with_frames s t (at_pc f next (int z ∷ stack) ∷ below) None) (Released m z)
invoked_step program inputs s t f below next stack (Some (fails cause)) = raised program s t (f ∷ below) cause

abbrev pub call_step : Program → Labels → List SourceInput → State → ℕ → Frame → List Frame → ℕ → ℕ → TypeRef → ℕ → Option (List (Value ℕ) × List (Value ℕ)) → Option Stepped
call_step program labels inputs s t f below next op owner resolved None = None
call_step program labels inputs s t f below next op owner resolved (Some found) =
    invoked_step program inputs s t f below next found.1 (called program labels s f.method op owner resolved found.0)

-- ---- the unwinding of a frame

-- the row over the pc that catches the exception, or the frame is dropped
abbrev pub caught : State → ℕ → Frame → List Frame → ℕ → Option (ℕ × Row) → Option Stepped
caught s t f below a None = silently (with_frames s t below (Some a))
caught s t f below a (Some found) = silently (with_frames s t (at_pc f (found.1).handler (ref a ∷ []) ∷ below) None)

abbrev pub rows_of : Option Code → List Row
rows_of None = []
rows_of (Some code) = code.rows

abbrev pub unwound : Program → State → ℕ → Frame → List Frame → ℕ → Option Stepped
unwound program s t f below a =
    caught s t f below a (row_for program (rows_of (code_at program f.method)) f.pc (class_of (info_at s a)))

-- ---- one step

abbrev pub step_at : Program → Labels → List SourceInput → State → ℕ → Frame → List Frame → Option (Instruction × ℕ) → Option Stepped
step_at program labels inputs s t f below None = None
step_at program labels inputs s t f below (Some (calls op owner resolved count, next)) =
    call_step program labels inputs s t f below next op owner resolved (popped count f.stack)
step_at program labels inputs s t f below (Some (instruction, next)) =
    executed program s t f below next instruction (fetched instruction f)

abbrev pub step_frames : Program → Labels → List SourceInput → State → ℕ → Option ℕ → List Frame → Option Stepped
step_frames program labels inputs s t pending [] = None
step_frames program labels inputs s t None (f ∷ below) = step_at program labels inputs s t f below (instruction_at program f.method f.pc)
step_frames program labels inputs s t (Some a) (f ∷ below) = unwound program s t f below a

abbrev pub step_thread : Program → Labels → List SourceInput → State → ℕ → Option Thread → Option Stepped
step_thread program labels inputs s t None = None
step_thread program labels inputs s t (Some thread) = step_frames program labels inputs s t thread.pending thread.frames

-- One step of a thread. None where it has none: a thread that has ended, and an operand that lacks, which typed code never comes to.
abbrev pub step : Program → Labels → List SourceInput → State → ℕ → Option Stepped
step program labels inputs s t = step_thread program labels inputs s t (slice_get s.threads t)

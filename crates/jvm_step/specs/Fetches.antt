-- What an instruction or a call does with the values that a frame gives it (JVM Specification SE 8, 6.5).
use Rattle.std.specs.Prelude.{◌≡◌, ℕ, Bool, ◌&&◌, List, [], take, reverse, Option, Some, None, option_map}
use Rattle.jo_prog.specs.declared.program.Program.{Program}
use Rattle.jo_prog.specs.declared.labels.Labels.{Labels}
use Rattle.jo_prog.specs.Program.{method_at, code_at}
use Rattle.jo_prog.specs.Rows.{row_for}
use Rattle.jo_prog.specs.Values.{Value}
use Rattle.jo_prog.specs.Machine.{Frame, Thread, State}
use Rattle.jo_prog.specs.Runs.{is_alive}
use Rattle.machine.specs.Runs.{is_address}
use Rattle.machine.specs.Instructions.{Instruction}
use Rattle.machine.specs.Execution.{Outcome, pushes}
use Rattle.machine.specs.Invocation.{Invoked}
use Rattle.machine.specs.Steps.{fetched, class_of_method, called, rows_of}
use Rattle.jvm_calls.specs.declared.invocation.Call.{Call}
use Rattle.jvm_exec.specs.Forms.{executes}

abbrev pub performed_by : Program → State → Instruction → Option (List (Value ℕ) × List (Value ℕ)) → Option (Outcome ℕ)
performed_by program s instruction None = None
performed_by program s instruction (Some found) = executes program s instruction found.0

abbrev pub performed : Program → State → Frame → Instruction → Option (Outcome ℕ)
performed program s f instruction = performed_by program s instruction (fetched instruction f)

-- what writes a cell pushes nothing, and does nothing else
abbrev pub IsQuiet : Outcome ℕ → Type 0
IsQuiet outcome = is_quiet outcome.written
  where
    is_quiet : {B : Type 0} → Option B → Type 0
    is_quiet None = Unit {0}
    is_quiet (Some change) = outcome.effect ≡ pushes []

-- ---- calls

abbrev pub called_by : Program → Labels → State → ℕ → Call → Option (List (Value ℕ) × List (Value ℕ)) → Option (Invoked ℕ)
called_by program labels s m call None = None
called_by program labels s m call (Some found) = called program labels s m call.op call.owner.now call.method found.0

-- the values of a call in order, of which the last was on top
abbrev pub values_of : ℕ → Frame → List (Value ℕ)
values_of count f = reverse (take count f.stack)

-- a call in the class of the method that runs
abbrev pub IsCallFrom : Program → Frame → Call → Type 0
IsCallFrom program f call = call.current ≡ class_of_method (method_at program f.method)

-- ---- handlers

-- the pc at which a frame goes on with an exception of a class
abbrev pub handler_in : Program → Frame → ℕ → Option ℕ
handler_in program f class = option_map (λ found. found.1.handler) (row_for program (rows_of (code_at program f.method)) f.pc class)

-- ---- joins

-- a thread of that object was started and hasn't ended
abbrev pub runs_of : ℕ → Thread → Bool
runs_of a thread = is_alive thread && is_address thread.object a

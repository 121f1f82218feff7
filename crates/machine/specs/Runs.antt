-- Which threads may step, and runs over a schedule (this project's own).
use Rattle.std.specs.Prelude.{ℕ, suc, ◌%◌, ◌==◌, Bool, true, false, ◌&&◌, not, if◌then◌else◌, List, [], ◌∷◌, length, Option, Some, None, slice_index}
use Rattle.std.specs.List.{list_any}
use Rattle.jo_prog.specs.declared.program.Program.{Program}
use Rattle.jo_prog.specs.declared.program.TypeRef.{TypeRef}
use Rattle.jo_prog.specs.declared.labels.Labels.{Labels}
use Rattle.jo_prog.specs.declared.runs.SourceInput.{SourceInput}
use Rattle.jo_prog.specs.declared.runs.Trace.{Trace}
use Rattle.jo_prog.specs.Runs.{is_alive, all_ended, unmoved, with_event}
use Rattle.jo_prog.specs.Values.{Value}
use Rattle.jo_prog.specs.Machine.{Frame, Thread, State, Stepped, popped, start}
use Rattle.machine.specs.Instructions.{Instruction, calls, instruction_at}
use Rattle.machine.specs.Invocation.{Invoked, joins}
use Rattle.machine.specs.Steps.{called, step}

-- ---- who may step

abbrev pub is_address : Option ℕ → ℕ → Bool
is_address None a = false
is_address (Some b) a = b == a

-- a thread of that object was started and hasn't ended
abbrev pub is_running : List Thread → ℕ → Bool
is_running threads a = list_any (λ (thread : Thread). is_alive thread && is_address thread.object a) threads

abbrev pub waits_for : State → Option (Invoked ℕ) → Bool
waits_for s (Some (joins a)) = is_running s.threads a
waits_for s _ = false

abbrev pub waits_with : Program → Labels → State → Frame → ℕ → TypeRef → ℕ → Option (List (Value ℕ) × List (Value ℕ)) → Bool
waits_with program labels s f op owner resolved None = false
waits_with program labels s f op owner resolved (Some found) = waits_for s (called program labels s f.method op owner resolved found.0)

-- a frame stands at a call that joins a thread that hasn't ended
abbrev pub waits_at : Program → Labels → State → Frame → Option (Instruction × ℕ) → Bool
waits_at program labels s f (Some (calls op owner resolved count, next)) = waits_with program labels s f op owner resolved (popped count f.stack)
waits_at program labels s f _ = false

-- one without frames never steps; one with an exception on its way always may
abbrev pub may_step : Program → Labels → State → Option ℕ → List Frame → Bool
may_step program labels s pending [] = false
may_step program labels s (Some a) (f ∷ below) = true
may_step program labels s None (f ∷ below) = not (waits_at program labels s f (instruction_at program f.method f.pc))

-- the threads that may step, in order of start; the first of these has the number first
abbrev pub enabled_from : Program → Labels → State → ℕ → List Thread → List ℕ
enabled_from program labels s first [] = []
enabled_from program labels s first (thread ∷ threads) =
    if may_step program labels s thread.pending thread.frames then first ∷ enabled_from program labels s (suc first) threads
    else enabled_from program labels s (suc first) threads

abbrev pub enabled : Program → Labels → State → List ℕ
enabled program labels s = enabled_from program labels s 0 s.threads

-- ---- runs

-- A number of the schedule picks, modulo their count, one of the threads that may step; where there is none nothing changes.
abbrev pub advanced_by : Program → Labels → List SourceInput → State → ℕ → List ℕ → Stepped
advanced_by program labels inputs s number [] = record { state = s; event = None }
advanced_by program labels inputs s number (t ∷ ts) =
    unmoved s (step program labels inputs s (slice_index (t ∷ ts) (number % length (t ∷ ts))))

abbrev pub advanced : Program → Labels → List SourceInput → State → ℕ → Stepped
advanced program labels inputs s number = advanced_by program labels inputs s number (enabled program labels s)

-- the run from a state
unfoldable pub run_from : Program → Labels → List SourceInput → State → List ℕ → Trace
run_from program labels inputs s [] = record { events = []; ended = all_ended s.threads }
run_from program labels inputs s (number ∷ schedule) =
    let stepped = advanced program labels inputs s number in
    with_event stepped.event (run_from program labels inputs stepped.state schedule)

-- the run of a program under its policy, with these inputs and this schedule
abbrev pub run : Program → Labels → List SourceInput → List ℕ → Trace
run program labels inputs schedule = run_from program labels inputs (start program labels) schedule

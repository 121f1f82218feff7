-- Runs over a schedule, and what an observer sees of one (this project's own; low-security observational determinism is
-- after Giffhorn and Snelting 2015).
use Rattle.std.specs.Prelude.{ℕ, suc, ◌%◌, Bool, true, false, if◌then◌else◌, List, [], ◌∷◌, length, filter, Option, Some, None, slice_index}
use Rattle.jo_prog.specs.declared.labels.Label.{Label}
use Rattle.jo_prog.specs.declared.labels.Label.TheVariants.{Sink, Release}
use Rattle.jo_prog.specs.declared.labels.Labels.{Labels}
use Rattle.jo_prog.specs.declared.program.Program.{Program}
use Rattle.jo_prog.specs.declared.runs.SourceInput.{SourceInput}
use Rattle.jo_prog.specs.declared.runs.Event.{Event}
use Rattle.jo_prog.specs.declared.runs.Event.TheVariants.{Out, Release as Released}
use Rattle.jo_prog.specs.declared.runs.Trace.{Trace}
use Rattle.jo_prog.specs.Labels.{label_of, reaches}
use Rattle.jo_prog.specs.Machine.{Frame, Thread, State, Stepped, step, start}

-- the thread has a frame
abbrev pub is_alive : Thread → Bool
is_alive thread = has_frame thread.frames
  where
    has_frame : List Frame → Bool
    has_frame [] = false
    has_frame (f ∷ fs) = true

-- the threads that may step, in order of start; the first has the number first. No plain code waits.
abbrev pub enabled_from : ℕ → List Thread → List ℕ
enabled_from first [] = []
enabled_from first (thread ∷ threads) = if is_alive thread then first ∷ enabled_from (suc first) threads else enabled_from (suc first) threads

abbrev pub enabled : State → List ℕ
enabled s = enabled_from 0 s.threads

-- no thread has a frame
abbrev pub all_ended : List Thread → Bool
all_ended [] = true
all_ended (thread ∷ threads) = if is_alive thread then false else all_ended threads

abbrev pub unmoved : State → Option Stepped → Stepped
unmoved s None = record { state = s; event = None }
unmoved s (Some stepped) = stepped

-- A number of the schedule picks, modulo their count, one of the threads that may step; where there is none nothing changes.
abbrev pub advanced_by : Program → Labels → List SourceInput → State → ℕ → List ℕ → Stepped
advanced_by program labels inputs s number [] = record { state = s; event = None }
advanced_by program labels inputs s number (t ∷ ts) = unmoved s (step program labels inputs s (slice_index (t ∷ ts) (number % length (t ∷ ts))))

abbrev pub advanced : Program → Labels → List SourceInput → State → ℕ → Stepped
advanced program labels inputs s number = advanced_by program labels inputs s number (enabled s)

abbrev pub with_event : Option Event → Trace → Trace
with_event None trace = trace
with_event (Some event) trace = record { events = event ∷ trace.events; ended = trace.ended }

-- the run from a state
unfoldable pub run_from : Program → Labels → List SourceInput → State → List ℕ → Trace
run_from program labels inputs s [] = record { events = []; ended = all_ended s.threads }
run_from program labels inputs s (number ∷ schedule) =
    let stepped = advanced program labels inputs s number in
    with_event stepped.event (run_from program labels inputs stepped.state schedule)

-- the run of a program under its policy, with these inputs and this schedule
abbrev pub run : Program → Labels → List SourceInput → List ℕ → Trace
run program labels inputs schedule = run_from program labels inputs (start program labels) schedule

-- the level of a sink, and the `to` of a release
abbrev pub sink_level : Option Label → Option ℕ
sink_level (Some (Sink level)) = Some level
sink_level _ = None

abbrev pub release_to : Option Label → Option ℕ
release_to (Some (Release from to)) = Some to
release_to _ = None

-- an observer sees what is shown at a sink whose level flows to it, and at a release whose `to` does
abbrev pub sees : Labels → ℕ → Event → Bool
sees labels observer (Out sink value) = reaches labels observer (sink_level (label_of labels sink))
sees labels observer (Released method value) = reaches labels observer (release_to (label_of labels method))

abbrev pub seen : Labels → ℕ → List Event → List Event
seen labels observer events = filter (sees labels observer) events

-- States, as the program holds them, and the frames of one thread in them (JVM Specification SE 8, 2.5).
use Rattle.std.specs.Prelude.{◌≡◌, ℕ, List, [], ◌∷◌, map, Option, Some, None, slice_get, slice_set}
use Rattle.jo_prog.specs.Machine as machine
use Rattle.jo_prog.specs.Machine.{Frame}
use Rattle.machine.specs.Steps.{object_of}
use Rattle.jvm_values.specs.Values.{value_of}
use Rattle.jvm_frames.specs.declared.threads.Thread.{Thread}
use Rattle.jvm_frames.specs.Frames.{thread_of}
use Rattle.jvm_step.specs.declared.states.State.{State}

abbrev pub threads_of : List Thread → List machine.Thread
threads_of threads = map thread_of threads

abbrev pub state_of : State → machine.State
state_of s = record { heap = s.heap; statics = map value_of s.statics.items; cursors = s.cursors.items; threads = threads_of s.threads.items }

abbrev pub frames_at : Option machine.Thread → List Frame
frames_at None = []
frames_at (Some thread) = thread.frames

-- a thread has this top frame, and those below it
abbrev pub HasTop : List machine.Thread → ℕ → Frame → List Frame → Type 0
HasTop threads t f below = frames_at (slice_get threads t) ≡ f ∷ below

-- threads of which one has other frames, and this exception on its way
abbrev pub framed : List machine.Thread → ℕ → List Frame → Option ℕ → List machine.Thread
framed threads t frames pending = slice_set threads t (record { frames = frames; pending = pending; object = object_of (slice_get threads t) })

-- what becomes of the frames of a thread, where it has one
abbrev pub Reframes : List machine.Thread → List machine.Thread → ℕ → (Frame → List Frame → List Frame) → Option ℕ → Type 0
Reframes old new t frames pending = (f : Frame) (below : List Frame) → HasTop old t f below → new ≡ framed old t (frames f below) pending

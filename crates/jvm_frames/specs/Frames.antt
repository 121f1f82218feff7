-- Frames and threads, as the program holds them (JVM Specification SE 8, 2.5.2 and 2.6).
use Rattle.std.specs.Prelude.{ℕ, List, [], ◌∷◌, ◌++◌, drop, map, reverse, Option, None, option_map}
use Rattle.jo_prog.specs.Values.{Value}
use Rattle.jo_prog.specs.Machine as machine
use Rattle.machine.specs.Steps.{at_pc, with_local, result_on}
use Rattle.jvm_values.specs.Values.{value_of, popped_values}
use Rattle.jvm_frames.specs.declared.frames.Frame.{Frame}
use Rattle.jvm_frames.specs.declared.threads.Thread.{Thread}

abbrev pub frame_of : Frame → machine.Frame
frame_of f = record {
  method = f.method;
  pc = f.pc;
  locals = map (option_map value_of) f.locals.items;
  stack = popped_values f.stack.items;
}

-- the last frame is on top
abbrev pub frames_of : List Frame → List machine.Frame
frames_of frames = map frame_of (reverse frames)

abbrev pub thread_of : Thread → machine.Thread
thread_of t = record { frames = frames_of t.frames.items; pending = t.pending; object = t.object }

-- ---- what becomes of a frame

-- it goes on at a pc with these values in the place of so many
abbrev pub gone_on : ℕ → ℕ → List (Value ℕ) → machine.Frame → machine.Frame
gone_on pc count values f = at_pc f pc (values ++ drop count f.stack)

-- it goes on at a pc without so many values
abbrev pub without : ℕ → ℕ → machine.Frame → machine.Frame
without pc count f = at_pc f pc (drop count f.stack)

-- the same, with a value in a local
abbrev pub with_put : ℕ → ℕ → ℕ → Value ℕ → machine.Frame → machine.Frame
with_put pc count local value f = with_local f pc local value (drop count f.stack)

-- it goes on at a pc with these values alone
abbrev pub with_only : ℕ → List (Value ℕ) → machine.Frame → machine.Frame
with_only pc values f = at_pc f pc values

-- it goes on at a pc with the result of a call
abbrev pub with_result : ℕ → Option (Value ℕ) → machine.Frame → machine.Frame
with_result pc result f = at_pc f pc (result_on result f.stack)

-- it stands at its call without so many values
abbrev pub calling : ℕ → machine.Frame → machine.Frame
calling count f = at_pc f f.pc (drop count f.stack)

-- ---- what becomes of a thread

abbrev pub thread_with : machine.Thread → List machine.Frame → Option ℕ → machine.Thread
thread_with thread frames pending = record { frames = frames; pending = pending; object = thread.object }

-- the top frame is changed
abbrev pub on_top : (machine.Frame → machine.Frame) → List machine.Frame → List machine.Frame
on_top change [] = []
on_top change (f ∷ below) = change f ∷ below

-- the frame below the top one is changed
abbrev pub on_second : (machine.Frame → machine.Frame) → List machine.Frame → List machine.Frame
on_second change [] = []
on_second change (f ∷ below) = f ∷ on_top change below

abbrev pub with_top : machine.Thread → (machine.Frame → machine.Frame) → machine.Thread
with_top thread change = thread_with thread (on_top change thread.frames) None

-- the top frame is gone, and the one below is changed
abbrev pub with_second : machine.Thread → (machine.Frame → machine.Frame) → machine.Thread
with_second thread change = thread_with thread (on_top change (drop 1 thread.frames)) None

-- a frame comes on top of the one that calls, which is changed
abbrev pub entered : machine.Thread → machine.Frame → (machine.Frame → machine.Frame) → machine.Thread
entered thread frame change = thread_with thread (frame ∷ on_top change thread.frames) None

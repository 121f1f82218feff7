-- Where a thread stands (JVM Specification SE 8, 2.5.1 and 2.10).
use Rattle.std.specs.Prelude.{◌≡◌, ℕ, List, [], ◌∷◌, Option, Some, None}
use Rattle.jo_prog.specs.Machine as machine
use Rattle.jo_prog.specs.Machine.{Frame}
use Rattle.jvm_step.specs.States.{frames_at}
use Rattle.jvm_step.specs.declared.states.Standing.{Standing}
use Rattle.jvm_step.specs.declared.states.Standing.TheVariants.{Ended, Thrown, Here}

abbrev pub pending_at : Option machine.Thread → Option ℕ
pending_at None = None
pending_at (Some thread) = thread.pending

-- a thread without frames; one with an exception on its way; one at a pc of a method
abbrev pub StandsAs : Option machine.Thread → Standing → Type 0
StandsAs thread Ended = frames_at thread ≡ []
StandsAs thread (Thrown exception) = (f : Frame) × ((below : List Frame) × ((frames_at thread ≡ f ∷ below) × (pending_at thread ≡ Some exception)))
StandsAs thread (Here method pc) = (f : Frame) × ((below : List Frame) × ((frames_at thread ≡ f ∷ below) × ((pending_at thread ≡ None) × ((f.method ≡ method) × (f.pc ≡ pc)))))

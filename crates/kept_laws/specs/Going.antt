-- Where a method goes on behind an instruction, and what the machine's own exceptions are (JVM Specification SE 8, 2.10, 4.10.1 and 6.5).
use Rattle.std.specs.Prelude.{◌≡◌, ℕ, Bool, true, false, pos, Contains, Some}
use Rattle.jo_prog.specs.declared.program.Program.{Program}
use Rattle.jo_prog.specs.declared.program.Class.{Class}
use Rattle.jo_prog.specs.declared.program.Code.{Code}
use Rattle.jo_prog.specs.declared.program.TypeRef.TheVariants.{Class as OfClass}
use Rattle.jo_prog.specs.declared.sites.Cause.{Cause}
use Rattle.jo_prog.specs.Program.{class_at}
use Rattle.jo_prog.specs.Sites.{class_raised}
use Rattle.jo_prog.specs.Types.{type_fits}
use Rattle.jo_prog.specs.InsnTyping.{throwable}
use Rattle.jo_prog.specs.TypingPaths.{successors_at}
use Rattle.machine.specs.Instructions as code
use Rattle.machine.specs.Instructions.{Instruction}
use Rattle.step_laws.specs.TypedStates.{has_objects}
use Rattle.step_laws.specs.Effects.{JumpsTo}

-- a jump without a test, a switch, a return or a throw, which never goes on behind itself
abbrev pub goes_elsewhere : Instruction → Bool
goes_elsewhere (code.jumps_to target) = true
goes_elsewhere (code.switches cases other) = true
goes_elsewhere (code.returns_value type) = true
goes_elsewhere code.returns_nothing = true
goes_elsewhere code.throws = true
goes_elsewhere _ = false

abbrev pub is_return : Instruction → Bool
is_return (code.returns_value type) = true
is_return code.returns_nothing = true
is_return _ = false

abbrev pub is_calling : Instruction → Bool
is_calling (code.calls op owner named count) = true
is_calling _ = false

-- where an instruction with a pc behind it may go on is where typing's paths do
pub record LeadsOn (code : Code) (pc next : ℕ) (instruction : Instruction) : Type 0 where
  pub behind : goes_elsewhere instruction ≡ false → Contains (successors_at code pc) (pos next)
  pub jumps : (target : ℕ) → JumpsTo instruction target → Contains (successors_at code pc) (pos target)

-- what the machine raises is a class of the program that may have objects, below java/lang/Throwable
pub record IsRaisedClass (program : Program) (c : ℕ) : Type 0 where
  pub class : Class
  pub is_there : class_at program c ≡ Some class
  pub made : has_objects class ≡ true
  pub is_throwable : type_fits program (OfClass c) throwable ≡ true

abbrev pub HasRaisedClasses : Program → Type 0
HasRaisedClasses program = (cause : Cause) → IsRaisedClass program (class_raised cause)

-- The first fault that the heights of paths tell (this project's own).
use Rattle.std.specs.Prelude.{◌≡◌, ℕ, ◌≤◌, Option, Some, None}
use Rattle.jo_prog.specs.declared.program.Program.{Program}
use Rattle.jo_prog.specs.declared.typed.TypeCode.TheVariants.{WrongKind}
use Rattle.jo_prog.specs.declared.typed.TypeFault.{TypeFault}
use Rattle.jo_prog.specs.TypingPaths.{MeetsFault}
use Rattle.typing_heights.specs.FirstFaults.{key_of}

-- all faults but those of kinds
pub record MeetsByHeight (program : Program) (m : ℕ) (fault : TypeFault) : Type 0 where
  pub met : MeetsFault program m fault.pc fault.code
  pub of_heights : fault.code ≡ WrongKind → ⊥

pub record IsFirstByHeight (program : Program) (m : ℕ) (first : TypeFault) : Type 0 where
  pub met : MeetsByHeight program m first
  pub least : (fault : TypeFault) → MeetsByHeight program m fault → key_of first ≤ key_of fault

-- none exactly where there is none
abbrev pub IsHeightAnswer : Program → ℕ → Option TypeFault → Type 0
IsHeightAnswer program m None = (fault : TypeFault) → MeetsByHeight program m fault → ⊥
IsHeightAnswer program m (Some first) = IsFirstByHeight program m first

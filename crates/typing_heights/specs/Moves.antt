-- Where the code goes on from the pcs that typing paths reach, and which heights arrive at a pc (this project's own).
use Rattle.std.specs.Prelude.{◌≡◌, ◌⊎◌, ℕ, Bool, true, false, not, if◌then◌else◌, ◌==◌, List, Option, Some, None, slice_get}
use Rattle.jo_prog.specs.declared.program.Program.{Program}
use Rattle.jo_prog.specs.declared.program.Row.{Row}
use Rattle.jo_prog.specs.declared.typed.TypeCode.{TypeCode}
use Rattle.jo_prog.specs.declared.typed.TypeCode.TheVariants.{Underflow, Overflow, HeightDiffers, FallsOff, LocalRange}
use Rattle.jo_prog.specs.declared.typed.TypeFault.{TypeFault}
use Rattle.jo_prog.specs.InsnTyping.{covers}
use Rattle.jo_prog.specs.TypingPaths.{Typable, ends_at, underflows, overflows, falls_off, out_of_range, TakesStep}
use Rattle.typing_heights.specs.declared.moves.Move.{Move}
use Rattle.typing_heights.specs.Searches.{height_at, height_behind}

-- a step from a pc at this height, where paths go on
pub record LeavesFrom (program : Program) (t : Typable) (pc height : ℕ) (m : Move) : Type 0 where
  pub from_it : m.from ≡ pc
  pub live : ends_at program t pc height ≡ false
  pub takes : TakesStep t.code pc m.row m.to
  pub same_height : m.height ≡ height_behind program t pc height m.row

-- the same at a pc that may have no height
abbrev pub LeavesAt : Program → Typable → ℕ → Option ℕ → Move → Type 0
LeavesAt program t pc None m = ⊥
LeavesAt program t pc (Some height) m = LeavesFrom program t pc height m

-- a step from a pc that has a height
abbrev pub IsMove : Program → Typable → List (Option ℕ) → Move → Type 0
IsMove program t heights m = LeavesAt program t m.from (height_at heights m.from) m

abbrev pub plain_move : ℕ → ℕ → ℕ → Move
plain_move from height to = record { from = from; row = None; to = to; height = height }

-- to the handler of the row at that place, where it covers the pc
pub record HandlerMove (rows : List Row) (from place : ℕ) (m : Move) : Type 0 where
  pub row : Row
  pub found : slice_get rows place ≡ Some row
  pub covered : covers from row ≡ true
  pub is_move : m ≡ record { from = from; row = Some place; to = row.handler; height = 1 }

-- a path arrives at the pc with this height: the empty one, or one by a step
abbrev pub Arrives : Program → Typable → List (Option ℕ) → ℕ → ℕ → Type 0
Arrives program t heights pc height =
    ((pc ≡ 0) × (height ≡ 0)) ⊎ ((m : Move) × IsMove program t heights m × (m.to ≡ pc) × (m.height ≡ height))

-- the height isn't that of the first path
abbrev pub other_height : Option ℕ → ℕ → Bool
other_height None height = true
other_height (Some first) height = not (first == height)

-- the first fault that heights alone tell, of a path that arrives at a pc with this height
abbrev pub height_fault : Program → Typable → List (Option ℕ) → ℕ → ℕ → Option TypeCode
height_fault program t heights pc height =
    if underflows program t pc height then Some Underflow
    else if overflows program t pc height then Some Overflow
    else if other_height (height_at heights pc) height then Some HeightDiffers
    else if falls_off t.code pc then Some FallsOff
    else if out_of_range program t pc then Some LocalRange
    else None

pub record Tells (pc : ℕ) (code : Option TypeCode) (fault : TypeFault) : Type 0 where
  pub at_it : fault.pc ≡ pc
  pub told : code ≡ Some fault.code

abbrev pub FaultAt : Program → Typable → List (Option ℕ) → ℕ → ℕ → TypeFault → Type 0
FaultAt program t heights pc height fault = Tells pc (height_fault program t heights pc height) fault

abbrev pub FaultBehind : Program → Typable → List (Option ℕ) → Move → TypeFault → Type 0
FaultBehind program t heights m fault = FaultAt program t heights m.to m.height fault

abbrev pub IsHeightFault : Program → Typable → List (Option ℕ) → TypeFault → Type 0
IsHeightFault program t heights fault = (height : ℕ) × Arrives program t heights fault.pc height × FaultAt program t heights fault.pc height fault

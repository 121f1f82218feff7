-- Typing by the paths of the code (JVM Specification SE 8, 4.10; the form by paths, and which of several faults is told, are this
-- project's own).
use Rattle.std.specs.Prelude.{◌≡◌, ◌⊎◌, ℕ, zero, suc, ◌+◌, ◌-◌, ◌<◌, Bool, true, false, not, ◌&&◌, ◌||◌, ◌==◌, nat_lt, ℤ, pos, List, [], ◌∷◌, map, reverse, length, Contains, Option, Some, None, is_some, slice_get, slice_index_or}
use Rattle.std.specs.List.{list_any}
use Rattle.jo_insn.specs.declared.jumps.Placed.{Placed}
use Rattle.jo_prog.specs.declared.program.Program.{Program}
use Rattle.jo_prog.specs.declared.program.Method.{Method}
use Rattle.jo_prog.specs.declared.program.Code.{Code}
use Rattle.jo_prog.specs.declared.program.Row.{Row}
use Rattle.jo_prog.specs.declared.typed.TypeCode.{TypeCode}
use Rattle.jo_prog.specs.declared.typed.TypeCode.TheVariants.{Underflow, Overflow, HeightDiffers, WrongKind, FallsOff, LocalRange, Memory}
use Rattle.jo_prog.specs.declared.typed.TypeFault.{TypeFault}
use Rattle.jo_prog.specs.Program.{method_at}
use Rattle.jo_prog.specs.Types.{type_fits}
use Rattle.jo_prog.specs.Typing.{Kind, Unset, Shape}
use Rattle.jo_prog.specs.Shapes.{Need, Origin, Effect, after, all_pass, passes}
use Rattle.jo_prog.specs.InsnTyping.{effect_of, wrong_effect, insn_at, successors, is_inside, covers, caught, throwable, at_handler, shape_at_start}

-- a method with its code
pub record Typable : Type 0 where
  pub number : ℕ
  pub method : Method
  pub code : Code

-- ---- what stands at a pc of it

abbrev pub effect_in : Program → Typable → Option Placed → Effect
effect_in program t None = wrong_effect
effect_in program t (Some placed) = effect_of program t.number t.method placed.insn

abbrev pub effect_at : Program → Typable → ℕ → Effect
effect_at program t pc = effect_in program t (insn_at t.code pc)

abbrev pub successors_of : Code → Option Placed → List ℤ
successors_of code None = []
successors_of code (Some placed) = successors code placed

abbrev pub successors_at : Code → ℕ → List ℤ
successors_at code pc = successors_of code (insn_at code pc)

abbrev pub is_covered : Code → ℕ → Bool
is_covered code pc = list_any (covers pc) code.rows

-- ---- which faults an instruction meets at a shape

abbrev pub underflows : Program → Typable → ℕ → ℕ → Bool
underflows program t pc height = nat_lt height (length (effect_at program t pc).pops)

-- the height of the stack after an effect, which is that of the shape after it
abbrev pub height_after : Effect → ℕ → ℕ
height_after effect height = length effect.pushes + (height - length effect.pops)

-- after it the stack is over its bound, or that of a handler is, whose height is 1
abbrev pub overflows : Program → Typable → ℕ → ℕ → Bool
overflows program t pc height =
    nat_lt t.code.max_stack (height_after (effect_at program t pc) height) || (is_covered t.code pc && t.code.max_stack == 0)

-- past either end of the code, or where no instruction stands
abbrev pub leads_outside : Code → List ℤ → Bool
leads_outside code targets = list_any (λ target. not (is_inside code target)) targets

abbrev pub handler_outside : Code → ℕ → Row → Bool
handler_outside code pc row = covers pc row && not (nat_lt row.handler (length code.bytes))

abbrev pub falls_off : Code → ℕ → Bool
falls_off code pc =
    not (is_some (insn_at code pc)) || leads_outside code (successors_at code pc) || list_any (handler_outside code pc) code.rows

abbrev pub is_local : Code → Option (ℕ × Need) → Bool
is_local code None = true
is_local code (Some (k, need)) = nat_lt k code.max_locals

abbrev pub is_written_local : Code → Option (ℕ × Origin) → Bool
is_written_local code None = true
is_written_local code (Some (k, origin)) = nat_lt k code.max_locals

abbrev pub out_of_range : Program → Typable → ℕ → Bool
out_of_range program t pc =
    not (is_local t.code (effect_at program t pc).reads) || not (is_written_local t.code (effect_at program t pc).writes)

-- a local that isn't there is of no wrong kind
abbrev pub local_passes : Program → Shape → Option (ℕ × Need) → Bool
local_passes program s None = true
local_passes program s (Some (k, need)) = not (nat_lt k (length s.locals)) || passes program need (slice_index_or s.locals k Unset)

-- a row over the pc catches what is no Throwable
abbrev pub catches_wrong : Program → ℕ → Row → Bool
catches_wrong program pc row = covers pc row && not (type_fits program (caught row.catches) throwable)

abbrev pub wrong_kind : Program → Typable → ℕ → Shape → Bool
wrong_kind program t pc s =
    (effect_at program t pc).wrong
    || not (all_pass program (effect_at program t pc).pops s.stack)
    || not (local_passes program s (effect_at program t pc).reads)
    || list_any (catches_wrong program pc) t.code.rows

-- ---- paths: the steps from pc 0, the last one first

-- to that pc, and where it goes to a handler, the place of the row in the table
pub record Step : Type 0 where
  pub pc : ℕ
  pub row : Option ℕ

abbrev pub arrives_at : List Step → ℕ
arrives_at [] = 0
arrives_at (step ∷ path) = step.pc

abbrev pub row_taken : Option Row → Shape → Shape
row_taken None s = s
row_taken (Some row) s = at_handler row s

-- the shape behind a step from a pc
abbrev pub stepped : Program → Typable → ℕ → Option ℕ → Shape → Shape
stepped program t pc None s = after program (effect_at program t pc) s
stepped program t pc (Some row) s = row_taken (slice_get t.code.rows row) s

-- the shape that a path makes
abbrev pub shape_of : Program → Typable → List Step → Shape
shape_of program t [] = shape_at_start program t.method t.code
shape_of program t (step ∷ path) = stepped program t (arrives_at path) step.row (shape_of program t path)

abbrev pub height_of : Program → Typable → List Step → ℕ
height_of program t path = length (shape_of program t path).stack

-- ---- the order of paths

abbrev pub pcs_of : List Step → List ℕ
pcs_of path = map (λ (step : Step). step.pc) path

abbrev pub to_handler : Step → Bool
to_handler step = is_some step.row

abbrev pub handlers_of : List Step → List Bool
handlers_of path = map to_handler path

-- At the first step where they differ, the one has less than the other. The lists begin with the last step, and are equally long.
abbrev pub IsLess : {A : Type 0} → (A → A → Type 0) → List A → List A → Type 0
IsLess Less [] ys = ⊥
IsLess Less (x ∷ xs) [] = ⊥
IsLess Less (x ∷ xs) (y ∷ ys) = IsLess Less xs ys ⊎ ((xs ≡ ys) × Less x y)

-- only the other goes to a handler
abbrev pub IsPlainAlone : Bool → Bool → Type 0
IsPlainAlone one other = (one ≡ false) × (other ≡ true)

-- by length, then by pcs, then plain steps before those to handlers
pub data IsBefore (p q : List Step) : Type 0 where
  shorter : length p < length q → IsBefore p q
  by_pcs : length p ≡ length q → IsLess ◌<◌ (pcs_of p) (pcs_of q) → IsBefore p q
  by_rows : pcs_of p ≡ pcs_of q → IsLess IsPlainAlone (handlers_of p) (handlers_of q) → IsBefore p q

-- it is one of these paths, and none of them that arrives at its end is before it
pub record IsFirst (Paths : List Step → Type 0) (pc : ℕ) (path : List Step) : Type 0 where
  pub is_path : Paths path
  pub arrives : arrives_at path ≡ pc
  pub first : (other : List Step) → Paths other → arrives_at other ≡ pc → IsBefore other path → ⊥

-- ---- typing paths

-- a path ends where it meets one of these
abbrev pub ends_at : Program → Typable → ℕ → ℕ → Bool
ends_at program t pc height = underflows program t pc height || overflows program t pc height || falls_off t.code pc

-- and where its height differs from that of the first path that arrives there
pub record GoesOn (program : Program) (t : Typable) (Paths : List Step → Type 0) (path : List Step) : Type 0 where
  pub steady : ends_at program t (arrives_at path) (height_of program t path) ≡ false
  pub first : List Step
  pub is_first : IsFirst Paths (arrives_at path) first
  pub same_height : height_of program t first ≡ height_of program t path

pub record IsHandler (code : Code) (from to place : ℕ) : Type 0 where
  pub row : Row
  pub found : slice_get code.rows place ≡ Some row
  pub covered : covers from row ≡ true
  pub leads : row.handler ≡ to

-- the code may take that step from a pc
abbrev pub TakesStep : Code → ℕ → Option ℕ → ℕ → Type 0
TakesStep code from None to = Contains (successors_at code from) (pos to)
TakesStep code from (Some place) to = IsHandler code from to place

pub record Prolongs (program : Program) (t : Typable) (Paths : List Step → Type 0) (step : Step) (path : List Step) : Type 0 where
  pub is_path : Paths path
  pub goes_on : GoesOn program t Paths path
  pub takes : TakesStep t.code (arrives_at path) step.row step.pc

abbrev pub IsProlonged : Program → Typable → (List Step → Type 0) → List Step → Type 0
IsProlonged program t Paths [] = ⊥
IsProlonged program t Paths (step ∷ path) = Prolongs program t Paths step path

-- The typing paths of at most so many steps. Which path arrives first at a pc is known once all that are no longer are.
abbrev pub PathWithin : Program → Typable → ℕ → List Step → Type 0
PathWithin program t zero path = path ≡ []
PathWithin program t (suc n) path =
    PathWithin program t n path ⊎ ((length path ≡ suc n) × IsProlonged program t (PathWithin program t n) path)

abbrev pub TypingPath : Program → Typable → List Step → Type 0
TypingPath program t path = PathWithin program t (length path) path

-- ---- what they find

abbrev pub IsTypable : Program → ℕ → Typable → Type 0
IsTypable program m t = (t.number ≡ m) × (method_at program m ≡ Some t.method) × (t.method.code ≡ Some t.code)

-- the first typing path that arrives at a pc of a method does with this height
pub record HasHeightAt (program : Program) (m pc height : ℕ) : Type 0 where
  pub typable : Typable
  pub is_typable : IsTypable program m typable
  pub path : List Step
  pub is_first : IsFirst (TypingPath program typable) pc path
  pub same_height : height_of program typable path ≡ height

-- a place of a shape; those of the stack have numbers from its bottom on
pub data PlaceOf : Type 0 where
  LocalPlace : ℕ → PlaceOf
  StackPlace : ℕ → PlaceOf

abbrev pub kind_at : Shape → PlaceOf → Option Kind
kind_at s (LocalPlace k) = slice_get s.locals k
kind_at s (StackPlace k) = slice_get (reverse s.stack) k

-- some typing path arrives at a pc with this kind in a place
pub record HoldsKind (program : Program) (m pc : ℕ) (place : PlaceOf) (kind : Kind) : Type 0 where
  pub typable : Typable
  pub is_typable : IsTypable program m typable
  pub path : List Step
  pub is_path : TypingPath program typable path
  pub arrives : arrives_at path ≡ pc
  pub holds : kind_at (shape_of program typable path) place ≡ Some kind

-- a height other than that of the first path that arrives there
pub record Differs (program : Program) (t : Typable) (path : List Step) : Type 0 where
  pub first : List Step
  pub is_first : IsFirst (TypingPath program t) (arrives_at path) first
  pub other_height : height_of program t first ≡ height_of program t path → ⊥

-- which faults a path meets at its end
abbrev pub MeetsAtEnd : Program → Typable → List Step → TypeCode → Type 0
MeetsAtEnd program t path Underflow = underflows program t (arrives_at path) (height_of program t path) ≡ true
MeetsAtEnd program t path Overflow = overflows program t (arrives_at path) (height_of program t path) ≡ true
MeetsAtEnd program t path HeightDiffers = Differs program t path
MeetsAtEnd program t path WrongKind = wrong_kind program t (arrives_at path) (shape_of program t path) ≡ true
MeetsAtEnd program t path FallsOff = falls_off t.code (arrives_at path) ≡ true
MeetsAtEnd program t path LocalRange = out_of_range program t (arrives_at path) ≡ true
MeetsAtEnd program t path Memory = ⊥

-- some typing path of a method meets a fault at a pc
pub record MeetsFault (program : Program) (m pc : ℕ) (code : TypeCode) : Type 0 where
  pub typable : Typable
  pub is_typable : IsTypable program m typable
  pub path : List Step
  pub is_path : TypingPath program typable path
  pub arrives : arrives_at path ≡ pc
  pub meets : MeetsAtEnd program typable path code

-- no typing path meets a fault; a method without code has no path
abbrev pub IsTypedMethod : Program → ℕ → Type 0
IsTypedMethod program m = (pc : ℕ) (code : TypeCode) → MeetsFault program m pc code → ⊥

-- the order of faults at one pc
abbrev pub number_of : TypeCode → ℕ
number_of Underflow = 1
number_of Overflow = 2
number_of HeightDiffers = 3
number_of WrongKind = 4
number_of FallsOff = 5
number_of LocalRange = 6
number_of Memory = 7

-- the least pc at which some path meets a fault, and there the lowest number
pub record IsLeastFault (program : Program) (m : ℕ) (fault : TypeFault) : Type 0 where
  pub met : MeetsFault program m fault.pc fault.code
  pub least_pc : (pc : ℕ) (code : TypeCode) → pc < fault.pc → MeetsFault program m pc code → ⊥
  pub least_number : (code : TypeCode) → number_of code < number_of fault.code → MeetsFault program m fault.pc code → ⊥

-- no claim where memory is wanting
abbrev pub fault_claim : Program → ℕ → TypeFault → TypeCode → Type 0
fault_claim program m fault Memory = Unit {0}
fault_claim program m fault _ = IsLeastFault program m fault

abbrev pub IsTypeFaultOf : Program → ℕ → TypeFault → Type 0
IsTypeFaultOf program m fault = fault_claim program m fault fault.code

-- What the nodes of a method read and write, at the heights that typing gives (this project's own form).
use Rattle.std.specs.Prelude.{◌≡◌, ℕ, ◌-◌, if◌then◌else◌, List, [], map, Option, Some, None, is_some, option_map, slice_index_or}
use Rattle.std.specs.List.{range_with_len}
use Rattle.jo_insn.specs.declared.instructions.Insn.{Insn}
use Rattle.jo_prog.specs.declared.program.Program.{Program}
use Rattle.jo_prog.specs.declared.program.MemberRef.{MemberRef}
use Rattle.jo_prog.specs.declared.program.Operand.{Operand}
use Rattle.jo_prog.specs.declared.program.Operand.TheVariants.{Member}
use Rattle.jo_prog.specs.Sites.{opcode_of}
use Rattle.dependence.specs.declared.flow.Place.{Place}
use Rattle.dependence.specs.declared.flow.Place.TheVariants.{Local}
use Rattle.dependence.specs.WideGraph.{insn_at, operand_of, is_call}
use Rattle.dependence.specs.NodePlaces.{reads_of, writes_of, stack_places, CallAt, argument_count, HasParameters}
use Rattle.flow_graph.specs.declared.node_places.CallUse.{CallUse}

-- the height that typing gives at a pc
abbrev pub HeightIs : List (Option ℕ) → ℕ → ℕ → Type 0
HeightIs typed pc height = slice_index_or typed pc None ≡ Some height

-- ---- instructions

abbrev pub unless_call : Option (Insn × ℕ) → Option Insn
unless_call None = None
unless_call (Some (insn, next)) = if is_call (opcode_of insn) then None else Some insn

abbrev pub with_height : Option ℕ → Option Insn → Option (Insn × ℕ)
with_height None found = None
with_height (Some height) None = None
with_height (Some height) (Some insn) = Some (insn, height)

-- an instruction that is no call, with its height
abbrev pub used_at : Program → ℕ → List (Option ℕ) → ℕ → Option (Insn × ℕ)
used_at program m typed pc = with_height (slice_index_or typed pc None) (unless_call (insn_at program m pc))

abbrev pub read_by : Option (Insn × ℕ) → List Place
read_by None = []
read_by (Some (insn, height)) = reads_of insn height

abbrev pub written_by : Option (Insn × ℕ) → List Place
written_by None = []
written_by (Some (insn, height)) = writes_of insn height

-- ---- calls

abbrev pub ref_in : Option Operand → Option MemberRef
ref_in (Some (Member ref)) = Some ref
ref_in _ = None

abbrev pub member_if_call : Program → ℕ → Option (Insn × ℕ) → Option (ℕ × MemberRef)
member_if_call program m None = None
member_if_call program m (Some (insn, next)) =
    if is_call (opcode_of insn)
    then option_map (λ ref. (opcode_of insn, ref)) (ref_in (operand_of program m (Some (insn, next))))
    else None

-- the opcode of the call at a pc, and what it names
abbrev pub called_at : Program → ℕ → ℕ → Option (ℕ × MemberRef)
called_at program m pc = member_if_call program m (insn_at program m pc)

-- its arguments stand on the stack from the base on
pub record HasCallUse (program : Program) (m : ℕ) (H : ℕ → ℕ → Type 0) (pc : ℕ) (used : CallUse) : Type 0 where
  pub call : CallAt program m pc
  pub height : ℕ
  pub has_height : H pc height
  pub arguments : used.arguments ≡ argument_count (opcode_of call.insn) call.desc
  pub base : used.base ≡ height - used.arguments
  pub result : used.result ≡ is_some call.desc.result

abbrev pub IsCallUse : Program → ℕ → (ℕ → ℕ → Type 0) → ℕ → Option CallUse → Type 0
IsCallUse program m H pc None = (height : ℕ) → H pc height → CallAt program m pc → ⊥
IsCallUse program m H pc (Some used) = HasCallUse program m H pc used

abbrev pub arguments_of : Option CallUse → List Place
arguments_of None = []
arguments_of (Some used) = stack_places used.base used.arguments

abbrev pub result_of : Option CallUse → List Place
result_of None = []
result_of (Some used) = stack_places used.base (if used.result then 1 else 0)

-- ---- parameters

abbrev pub AreParameters : Program → ℕ → Option ℕ → Type 0
AreParameters program m None = (count : ℕ) → HasParameters program m count → ⊥
AreParameters program m (Some count) = HasParameters program m count

abbrev pub locals_of : Option ℕ → List Place
locals_of None = []
locals_of (Some count) = map Local (range_with_len 0 count)

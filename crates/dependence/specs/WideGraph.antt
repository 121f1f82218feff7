-- The wide graph of a method: what can follow what by the opcodes alone, exceptions and endless loops included (JVM Specification
-- SE 8, 2.10 and 6.5; control-flow graphs with exceptional edges are standard, these nodes and edges are this project's own).
-- It is defined for every program as data; a step that has no instruction to lead to isn't there.
use Rattle.std.specs.Prelude.{◌≡◌, ℕ, ◌^◌, ◌<◌, ◌≤◌, Bool, true, false, not, ◌||◌, ◌==◌, nat_lt, if◌then◌else◌, pos, List, length, Contains, Option, Some, None, Result, Ok, Err, option_and_then, slice_get}
use Rattle.std.specs.List.{list_any}
use Rattle.jo_ids.specs.Path.{Path}
use Rattle.jo_insn.specs.declared.instructions.Insn.{Insn}
use Rattle.jo_insn.specs.declared.instructions.Insn.TheVariants.{Pooled}
use Rattle.jo_insn.specs.declared.instructions.InsnFault.{InsnFault}
use Rattle.jo_insn.specs.Instructions.{decoded}
use Rattle.jo_insn.specs.Jumps.{targets_of}
use Rattle.jo_prog.specs.declared.program.Program.{Program}
use Rattle.jo_prog.specs.declared.program.Code.{Code}
use Rattle.jo_prog.specs.declared.program.Row.{Row}
use Rattle.jo_prog.specs.declared.program.TypeRef.{TypeRef}
use Rattle.jo_prog.specs.declared.program.TypeRef.TheVariants.{Class as OfClass, Array as OfArray}
use Rattle.jo_prog.specs.declared.program.Operand.{Operand}
use Rattle.jo_prog.specs.declared.program.Operand.TheVariants.{Member}
use Rattle.jo_prog.specs.declared.calls.Taken.{Taken}
use Rattle.jo_prog.specs.declared.calls.Taken.TheVariants.{Native}
use Rattle.jo_prog.specs.Operations.{within}
use Rattle.jo_prog.specs.Program.{code_at, operand_at}
use Rattle.jo_prog.specs.Hierarchy.{resolve_method, resolve_field}
use Rattle.jo_prog.specs.Calls.{receiver_class, taken_from}
use Rattle.jo_prog.specs.Sites.{opcode_of, may_raise, causes}
use Rattle.dep_nodes.specs.declared.kinds.NodeKind.{NodeKind}
use Rattle.dep_nodes.specs.declared.kinds.NodeKind.TheVariants.{Entry, Exit, Instr, Call, RetVal, RetKind, Throw, Catch, Poll, XPoll}

-- ---- what stands at a pc

abbrev pub as_insn : Result (Insn × ℕ) InsnFault → Option (Insn × ℕ)
as_insn (Ok found) = Some found
as_insn (Err fault) = None

-- code has fewer than 65,536 bytes (4.7.3), so longer code has no instructions
abbrev pub insn_in : Option Code → ℕ → Option (Insn × ℕ)
insn_in None pc = None
insn_in (Some code) pc = if nat_lt (length code.bytes) (2 ^ 16) then as_insn (decoded code.bytes pc) else None

-- the instruction at a pc of a method, and the next pc
abbrev pub insn_at : Program → ℕ → ℕ → Option (Insn × ℕ)
insn_at program m pc = insn_in (code_at program m) pc

abbrev pub rows_in : Option Code → ℕ → Option Row
rows_in None k = None
rows_in (Some code) k = slice_get code.rows k

-- a row of the exception table of a method
abbrev pub row_at : Program → ℕ → ℕ → Option Row
row_at program m k = rows_in (code_at program m) k

-- ---- opcodes

-- invokevirtual, invokespecial, invokestatic and invokeinterface
abbrev pub is_call : ℕ → Bool
is_call op = within 182 185 op

-- ireturn, areturn and return, among those that the profile leaves out
abbrev pub is_return : ℕ → Bool
is_return op = within 172 177 op

-- The code goes on behind the instruction: not behind goto and goto_w, the switches, the returns and athrow. A call has nodes of its
-- own for that.
abbrev pub goes_on : ℕ → Bool
goes_on op = not (op == 167 || op == 200 || within 170 177 op || is_call op || op == 191)

-- it may raise an exception for some cause; athrow may for a null operand
abbrev pub may_throw : ℕ → Bool
may_throw op = list_any (λ cause. may_raise cause op) causes

-- ---- what an instruction names

abbrev pub pool_index : Insn → Option ℕ
pool_index (Pooled op index) = Some index
pool_index _ = None

abbrev pub operand_of : Program → ℕ → Option (Insn × ℕ) → Option Operand
operand_of program m None = None
operand_of program m (Some found) = option_and_then (operand_at program m) (pool_index found.0)

-- the method that a member reference resolves to; an array looks in java/lang/Object (5.4.3.3)
abbrev pub resolved_by : Program → Option Operand → Option ℕ
resolved_by program (Some (Member ref)) = resolve_method program (receiver_class ref.owner) ref.name ref.desc
resolved_by program _ = None

-- and the field; an array has none
abbrev pub field_by : Program → Option Operand → Option ℕ
field_by program (Some (Member ref)) = of_owner ref.owner
  where
    of_owner : TypeRef → Option ℕ
    of_owner (OfClass c) = resolve_field program c ref.name ref.desc
    of_owner (OfArray desc) = None
field_by program _ = None

-- getstatic, putstatic, getfield and putfield name a field, the calls a method
abbrev pub names_field : Option (Insn × ℕ) → Bool
names_field None = false
names_field (Some found) = within 178 181 (opcode_of found.0)

abbrev pub names_method : Option (Insn × ℕ) → Bool
names_method None = false
names_method (Some found) = is_call (opcode_of found.0)

-- the field that the instruction at a pc of a method resolves to
abbrev pub resolved_field_at : Program → ℕ → ℕ → Option ℕ
resolved_field_at program m pc =
    if names_field (insn_at program m pc) then field_by program (operand_of program m (insn_at program m pc)) else None

-- the method that the call at a pc of a method resolves to
abbrev pub resolved_at : Program → ℕ → ℕ → Option ℕ
resolved_at program m pc =
    if names_method (insn_at program m pc) then resolved_by program (operand_of program m (insn_at program m pc)) else None

abbrev pub is_native : Taken → Bool
is_native (Native k) = true
is_native _ = false

-- it is a native method of the files, which no other method takes the place of
abbrev pub calls_native : Program → ℕ → ℕ → Bool
calls_native program m pc = is_native (taken_from program (resolved_at program m pc))

-- ---- the relations that edges go by

-- an instruction with that property stands at a pc
abbrev pub StandsWith : Program → ℕ → ℕ → (ℕ → Bool) → Type 0
StandsWith program m pc test = (insn : Insn) × (next : ℕ) × (insn_at program m pc ≡ Some (insn, next)) × (test (opcode_of insn) ≡ true)

-- the node at which a thread stands with that instruction at its pc
abbrev pub node_of_insn : ℕ → Insn → NodeKind
node_of_insn pc insn = if is_call (opcode_of insn) then Call pc else Instr pc

-- the node at which a thread stands whose pc this is
abbrev pub IsFirst : Program → ℕ → ℕ → NodeKind → Type 0
IsFirst program m pc n = (insn : Insn) × (next : ℕ) × (insn_at program m pc ≡ Some (insn, next)) × (n ≡ node_of_insn pc insn)

-- the instruction at a pc may jump to another: a branch, a goto or a switch
pub record Jumps (program : Program) (m pc target : ℕ) : Type 0 where
  pub code : Code
  pub code_is : code_at program m ≡ Some code
  pub insn : Insn
  pub next : ℕ
  pub stands : insn_at program m pc ≡ Some (insn, next)
  pub jumps : Contains (targets_of code.bytes pc insn) (pos target)

-- the row covers a pc, and has this handler (2.10)
pub record Covers (program : Program) (m k pc handler : ℕ) : Type 0 where
  pub row : Row
  pub is : row_at program m k ≡ Some row
  pub begins : row.start ≤ pc
  pub ends : pc < row.end
  pub leads : row.handler ≡ handler

-- ---- the steps by opcodes

-- A step. A branch to its own pc or one before it, and an exception that is handled there, polls: it may also go on for ever,
-- which leads to Exit.
pub data WideStep (program : Program) (m : ℕ) : NodeKind → NodeKind → Type 0 where
  begins : (n : NodeKind) → IsFirst program m 0 n → WideStep program m Entry n
  skips : WideStep program m Entry Exit
  falls : (pc next : ℕ) (insn : Insn) (n : NodeKind) → insn_at program m pc ≡ Some (insn, next) → goes_on (opcode_of insn) ≡ true → IsFirst program m next n
      → WideStep program m (Instr pc) n
  jumps : (pc target : ℕ) (n : NodeKind) → Jumps program m pc target → pc < target → IsFirst program m target n → WideStep program m (Instr pc) n
  polls : (pc target : ℕ) (n : NodeKind) → Jumps program m pc target → target ≤ pc → IsFirst program m target n → WideStep program m (Instr pc) (Poll pc target)
  turns : (pc target : ℕ) (n : NodeKind) → Jumps program m pc target → target ≤ pc → IsFirst program m target n → WideStep program m (Poll pc target) n
  loops : (pc target : ℕ) → Jumps program m pc target → target ≤ pc → WideStep program m (Poll pc target) Exit
  returns : (pc : ℕ) → StandsWith program m pc is_return → WideStep program m (Instr pc) Exit
  raises : (pc : ℕ) (n : NodeKind) → StandsWith program m pc may_throw → IsFirst program m pc n → WideStep program m n (Throw pc)
  calls_native_of : (pc : ℕ) → StandsWith program m pc is_call → calls_native program m pc ≡ true → WideStep program m (Call pc) (RetVal pc)
  calls : (pc : ℕ) → StandsWith program m pc is_call → calls_native program m pc ≡ false → WideStep program m (Call pc) (RetKind pc)
  comes_back : (pc : ℕ) → WideStep program m (RetKind pc) (RetVal pc)
  rethrows : (pc : ℕ) → WideStep program m (RetKind pc) (Throw pc)
  stays_away : (pc : ℕ) → WideStep program m (RetKind pc) Exit
  arrives : (pc next : ℕ) (insn : Insn) (n : NodeKind) → insn_at program m pc ≡ Some (insn, next) → is_call (opcode_of insn) ≡ true → IsFirst program m next n
      → WideStep program m (RetVal pc) n
  caught : (pc k handler : ℕ) → Covers program m k pc handler → pc < handler → WideStep program m (Throw pc) (Catch k)
  polls_caught : (pc k handler : ℕ) → Covers program m k pc handler → handler ≤ pc → WideStep program m (Throw pc) (XPoll pc k)
  turns_caught : (pc k handler : ℕ) → Covers program m k pc handler → handler ≤ pc → WideStep program m (XPoll pc k) (Catch k)
  loops_caught : (pc k handler : ℕ) → Covers program m k pc handler → handler ≤ pc → WideStep program m (XPoll pc k) Exit
  uncaught : (pc : ℕ) → WideStep program m (Throw pc) Exit
  handles : (k : ℕ) (row : Row) (n : NodeKind) → row_at program m k ≡ Some row → IsFirst program m row.handler n → WideStep program m (Catch k) n

-- ---- the graph: what Entry reaches

abbrev pub IsWideNode : Program → ℕ → NodeKind → Type 0
IsWideNode program m n = Path (WideStep program m) Entry n

-- an edge: no dead code has any
pub record WideEdge (program : Program) (m : ℕ) (a b : NodeKind) : Type 0 where
  pub step : WideStep program m a b
  pub there : IsWideNode program m a

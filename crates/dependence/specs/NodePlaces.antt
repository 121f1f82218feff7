-- What the nodes of a flow graph read and write (JVM Specification SE 8, 6.5; after it def and use are standard). Heights are given by
-- a relation, as typing gives them: H pc height. No instruction that may raise an exception writes a local: a definition of a local
-- therefore never reaches a handler from the instruction that was to make it.
use Rattle.std.specs.Prelude.{◌≡◌, ℕ, ◌+◌, ◌-◌, ◌<◌, Bool, true, false, ◌||◌, ◌==◌, if◌then◌else◌, List, [], ◌∷◌, ◌++◌, length, map, Contains, Option, Some, None}
use Rattle.std.specs.List.{range_with_len}
use Rattle.jo_text.specs.declared.descriptors.FieldDesc.{FieldDesc}
use Rattle.jo_text.specs.declared.descriptors.MethodDesc.{MethodDesc}
use Rattle.jo_text.specs.Descriptors.{SpellsMethod}
use Rattle.jo_insn.specs.AccessFlags.{has_flag, static_flag}
use Rattle.jo_insn.specs.declared.instructions.Insn.{Insn}
use Rattle.jo_insn.specs.declared.instructions.Insn.TheVariants.{Plain, Local as LocalInsn, Iinc}
use Rattle.jo_prog.specs.declared.program.Program.{Program}
use Rattle.jo_prog.specs.declared.program.Method.{Method}
use Rattle.jo_prog.specs.declared.program.MemberRef.{MemberRef}
use Rattle.jo_prog.specs.declared.program.Operand.TheVariants.{Member}
use Rattle.jo_prog.specs.Operations.{within}
use Rattle.jo_prog.specs.Program.{method_at}
use Rattle.jo_prog.specs.Sites.{opcode_of}
use Rattle.dep_nodes.specs.declared.kinds.NodeKind.{NodeKind}
use Rattle.dep_nodes.specs.declared.kinds.NodeKind.TheVariants.{Entry, Instr, RetVal, Throw, Catch, Param}
use Rattle.dependence.specs.declared.flow.Place.{Place}
use Rattle.dependence.specs.declared.flow.Place.TheVariants.{Local, Stack, Pending}
use Rattle.dependence.specs.Dependence.{Reaches}
use Rattle.dependence.specs.WideGraph.{insn_at, operand_of, is_call, WideEdge}

-- ---- one table by opcodes, for all but calls

-- how many places on top of the stack an instruction reads, how many of these it leaves, and how many it writes above those
pub record StackUse : Type 0 where
  pub pops : ℕ
  pub leaves : ℕ
  pub pushes : ℕ

abbrev pub stack_use : ℕ → ℕ → ℕ → StackUse
stack_use pops leaves pushes = record { pops = pops; leaves = leaves; pushes = pushes }

-- constants, ldc and loads; array loads; stores; array stores; pop and pop2; dup, dup_x1, dup_x2, dup2, dup2_x1, dup2_x2 and swap; ineg
-- and the conversions; the arithmetic of two operands; branches on one value and switches; branches on two; ireturn, areturn and
-- athrow; getstatic, putstatic, getfield, putfield; new; newarray, anewarray, arraylength; checkcast, instanceof. Others use none.
abbrev pub stack_use_of : ℕ → StackUse
stack_use_of op =
    if within 1 45 op then stack_use 0 0 1
    else if within 46 53 op then stack_use 2 0 1
    else if within 54 78 op then stack_use 1 0 0
    else if within 79 86 op then stack_use 3 0 0
    else if op == 87 then stack_use 1 0 0
    else if op == 88 then stack_use 2 0 0
    else if op == 89 then stack_use 1 1 1
    else if op == 90 then stack_use 2 0 3
    else if op == 91 then stack_use 3 0 4
    else if op == 92 then stack_use 2 2 2
    else if op == 93 then stack_use 3 0 5
    else if op == 94 then stack_use 4 0 6
    else if op == 95 then stack_use 2 0 2
    else if op == 116 || within 145 147 op then stack_use 1 0 1
    else if within 96 130 op then stack_use 2 0 1
    else if within 153 158 op || within 198 199 op || within 170 171 op then stack_use 1 0 0
    else if within 159 166 op then stack_use 2 0 0
    else if op == 172 || op == 176 || op == 191 then stack_use 1 0 0
    else if op == 178 || op == 187 then stack_use 0 0 1
    else if op == 179 then stack_use 1 0 0
    else if op == 180 then stack_use 1 0 1
    else if op == 181 then stack_use 2 0 0
    else if within 188 190 op || within 192 193 op then stack_use 1 0 1
    else stack_use 0 0 0

-- iload, aload, iload_0 to iload_3, aload_0 to aload_3, and iinc
abbrev pub local_read : Insn → Option ℕ
local_read (LocalInsn op index wide) = if op == 21 || op == 25 then Some index else None
local_read (Iinc index by wide) = Some index
local_read (Plain op) = if within 26 29 op then Some (op - 26) else if within 42 45 op then Some (op - 42) else None
local_read _ = None

-- istore, astore, istore_0 to istore_3, astore_0 to astore_3, and iinc
abbrev pub local_written : Insn → Option ℕ
local_written (LocalInsn op index wide) = if op == 54 || op == 58 then Some index else None
local_written (Iinc index by wide) = Some index
local_written (Plain op) = if within 59 62 op then Some (op - 59) else if within 75 78 op then Some (op - 75) else None
local_written _ = None

-- ---- the places of an instruction that is no call

abbrev pub local_place : Option ℕ → List Place
local_place None = []
local_place (Some k) = Local k ∷ []

-- so many places of the stack from a height on
abbrev pub stack_places : ℕ → ℕ → List Place
stack_places from count = map Stack (range_with_len from count)

-- what it reads from a stack of this height
abbrev pub reads_of : Insn → ℕ → List Place
reads_of insn height = local_place (local_read insn) ++ stack_places (height - (stack_use_of (opcode_of insn)).pops) (stack_use_of (opcode_of insn)).pops

abbrev pub writes_of : Insn → ℕ → List Place
writes_of insn height =
    local_place (local_written insn)
    ++ stack_places (height - (stack_use_of (opcode_of insn)).pops + (stack_use_of (opcode_of insn)).leaves) (stack_use_of (opcode_of insn)).pushes

-- ---- calls and parameters

-- the receiver is an argument of each call but invokestatic (184)
abbrev pub receivers_of : ℕ → ℕ
receivers_of op = if op == 184 then 0 else 1

-- the call at a pc, and what its descriptor says
pub record CallAt (program : Program) (m pc : ℕ) : Type 0 where
  pub insn : Insn
  pub next : ℕ
  pub stands : insn_at program m pc ≡ Some (insn, next)
  pub is_call : is_call (opcode_of insn) ≡ true
  pub ref : MemberRef
  pub names : operand_of program m (Some (insn, next)) ≡ Some (Member ref)
  pub desc : MethodDesc
  pub spells : SpellsMethod desc ref.desc

abbrev pub argument_count : ℕ → MethodDesc → ℕ
argument_count op desc = length desc.params + receivers_of op

-- how many places the parameters of a method take, `this` included
pub record HasParameters (program : Program) (m count : ℕ) : Type 0 where
  pub method : Method
  pub is : method_at program m ≡ Some method
  pub desc : MethodDesc
  pub spells : SpellsMethod desc method.desc
  pub counts : count ≡ length desc.params + (if has_flag static_flag method.flags then 0 else 1)

-- ---- reads and writes of nodes

-- A node reads a place. A Call reads none: its arguments are read by its Args.
pub data Reads (program : Program) (m : ℕ) (H : ℕ → ℕ → Type 0) : NodeKind → Place → Type 0 where
  by_insn : (pc next height : ℕ) (insn : Insn) (v : Place) → insn_at program m pc ≡ Some (insn, next) → is_call (opcode_of insn) ≡ false → H pc height
      → Contains (reads_of insn height) v → Reads program m H (Instr pc) v
  by_catch : (k : ℕ) (v : Place) → v ≡ Pending → Reads program m H (Catch k) v

-- A node writes a place, all that it writes with one value. The RetVal of a call without result writes nothing.
pub data Writes (program : Program) (m : ℕ) (H : ℕ → ℕ → Type 0) : NodeKind → Place → Type 0 where
  by_entry : (count k : ℕ) (v : Place) → HasParameters program m count → k < count → v ≡ Local k → Writes program m H Entry v
  by_insn : (pc next height : ℕ) (insn : Insn) (v : Place) → insn_at program m pc ≡ Some (insn, next) → is_call (opcode_of insn) ≡ false → H pc height
      → Contains (writes_of insn height) v → Writes program m H (Instr pc) v
  by_result : (pc height : ℕ) (call : CallAt program m pc) (result : FieldDesc) (v : Place) → H pc height → call.desc.result ≡ Some result
      → v ≡ Stack (height - argument_count (opcode_of call.insn) call.desc) → Writes program m H (RetVal pc) v
  by_throw : (pc : ℕ) (v : Place) → v ≡ Pending → Writes program m H (Throw pc) v
  by_catch : (k : ℕ) (v : Place) → v ≡ Stack 0 → Writes program m H (Catch k) v

-- the place of an argument of the call at a pc, counted from 0
pub data ArgumentPlace (program : Program) (m : ℕ) (H : ℕ → ℕ → Type 0) : ℕ → ℕ → Place → Type 0 where
  of_argument : (pc height i : ℕ) (call : CallAt program m pc) (v : Place) → H pc height → i < argument_count (opcode_of call.insn) call.desc
      → v ≡ Stack (height - argument_count (opcode_of call.insn) call.desc + i) → ArgumentPlace program m H pc i v

-- the definition that a node makes of a place: Entry stands for the parameters
abbrev pub named_by : NodeKind → Place → NodeKind
named_by Entry (Local k) = Param k
named_by n v = n

-- the definition of a place at node d arrives at node n of the wide graph
abbrev pub WideReaches : Program → ℕ → (ℕ → ℕ → Type 0) → Place → NodeKind → NodeKind → Type 0
WideReaches program m H v d n = Reaches (WideEdge program m) (Writes program m H) v d n

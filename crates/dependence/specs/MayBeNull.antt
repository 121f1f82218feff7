-- Which definitions may be null, and which are int constants, by the wide graph alone (nullness and constants as least fixed points are
-- standard; the rules are this project's own).
use Rattle.std.specs.Prelude.{◌≡◌, ◌≢◌, ◌⊎◌, ℕ, zero, ◌<◌, Bool, true, false, ◌||◌, ◌==◌, if◌then◌else◌, ℤ, pos, ◌-ℤ◌, Option, Some, None}
use Rattle.jo_insn.specs.AccessFlags.{has_flag, static_flag}
use Rattle.jo_insn.specs.declared.instructions.Insn.{Insn}
use Rattle.jo_insn.specs.declared.instructions.Insn.TheVariants.{Plain, Push, Pooled}
use Rattle.jo_prog.specs.declared.program.Program.{Program}
use Rattle.jo_prog.specs.declared.program.Method.{Method}
use Rattle.jo_prog.specs.declared.program.Operand.{Operand}
use Rattle.jo_prog.specs.declared.program.Operand.TheVariants.{Int}
use Rattle.jo_prog.specs.Operations.{within}
use Rattle.jo_prog.specs.Program.{method_at, operand_at}
use Rattle.jo_prog.specs.Sites.{opcode_of}
use Rattle.dep_nodes.specs.declared.kinds.NodeKind.{NodeKind}
use Rattle.dep_nodes.specs.declared.kinds.NodeKind.TheVariants.{Entry, Instr, RetVal}
use Rattle.dependence.specs.declared.flow.Place.{Place}
use Rattle.dependence.specs.declared.flow.Place.TheVariants.{Local}
use Rattle.dependence.specs.WideGraph.{insn_at, StandsWith}
use Rattle.dependence.specs.NodePlaces.{Reads, WideReaches}

-- ---- may be null

-- aconst_null, aaload, getstatic and getfield
abbrev pub may_give_null : ℕ → Bool
may_give_null op = op == 1 || op == 50 || op == 178 || op == 180

-- aload, aload_0 to aload_3; astore, astore_0 to astore_3; the dup family and swap; checkcast: the value is one that was read
abbrev pub is_move : ℕ → Bool
is_move op = op == 25 || within 42 45 op || op == 58 || within 75 78 op || within 89 95 op || op == 192

-- `this` is not null, every other parameter may be
abbrev pub MayBeNullParameter : Program → ℕ → ℕ → Type 0
MayBeNullParameter program m k = (0 < k) ⊎ ((method : Method) × (method_at program m ≡ Some method) × (has_flag static_flag method.flags ≡ true))

-- What node d writes to a place may be null. It is the least such relation: a move may be null only where some definition of some
-- place that it reads may be. What new, newarray, anewarray and ldc make is not null, and neither is what a Catch pushes.
pub data MayBeNull (program : Program) (m : ℕ) (H : ℕ → ℕ → Type 0) : NodeKind → Place → Type 0 where
  by_opcode : (pc : ℕ) (v : Place) → StandsWith program m pc may_give_null → MayBeNull program m H (Instr pc) v
  by_result : (pc : ℕ) (v : Place) → MayBeNull program m H (RetVal pc) v
  by_parameter : (k : ℕ) (v : Place) → v ≡ Local k → MayBeNullParameter program m k → MayBeNull program m H Entry v
  by_move : (pc : ℕ) (v read : Place) (d : NodeKind) → StandsWith program m pc is_move → Reads program m H (Instr pc) read
      → WideReaches program m H read d (Instr pc) → MayBeNull program m H d read → MayBeNull program m H (Instr pc) v

-- ---- int constants

abbrev pub int_operand : Option Operand → Option ℤ
int_operand (Some (Int value)) = Some value
int_operand _ = None

-- iconst_m1 to iconst_5, bipush, sipush, and ldc of an Integer
abbrev pub constant_of : Program → ℕ → Insn → Option ℤ
constant_of program m (Plain op) = if within 2 8 op then Some (pos op -ℤ pos 3) else None
constant_of program m (Push op value) = Some value
constant_of program m (Pooled op index) = if within 18 19 op then int_operand (operand_at program m index) else None
constant_of program m _ = None

abbrev pub constant_in : Program → ℕ → Option (Insn × ℕ) → Option ℤ
constant_in program m None = None
constant_in program m (Some found) = constant_of program m found.0

-- the int constant that a node writes, at its definition itself; one that came through a local or dup is none
abbrev pub constant_at : Program → ℕ → NodeKind → Option ℤ
constant_at program m (Instr pc) = constant_in program m (insn_at program m pc)
constant_at program m _ = None

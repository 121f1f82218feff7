-- What is told by a node and the instruction that it keeps (this project's own form).
use Rattle.std.specs.Prelude.{◌≡◌, ◌↔◌, ◌⊎◌, ℕ, ◌<◌, Bool, true, false, ◌||◌, ◌==◌, ℤ, List, Contains, Option, Some, None, length, slice_get, IsSomeAnd}
use Rattle.jo_ids.specs.Rows.{has_number}
use Rattle.jo_insn.specs.declared.instructions.Insn.{Insn}
use Rattle.jo_prog.specs.declared.program.Program.{Program}
use Rattle.jo_prog.specs.declared.sites.Cause.TheVariants.{BadIndex}
use Rattle.jo_prog.specs.Sites.{opcode_of, may_raise}
use Rattle.dep_nodes.specs.declared.kinds.NodeKind.{NodeKind}
use Rattle.dep_nodes.specs.declared.kinds.NodeKind.TheVariants.{Entry, Instr, Call, RetVal}
use Rattle.dependence.specs.declared.flow.Place.{Place}
use Rattle.dependence.specs.declared.flows.FlowRow.{FlowRow}
use Rattle.dependence.specs.declared.flows.Use.{Use}
use Rattle.dependence.specs.GraphsAsData.{kind_at}
use Rattle.dependence.specs.MayBeNull.{may_give_null, is_move, MayBeNull, constant_of}

-- ---- nodes

abbrev pub is_entry : NodeKind → Bool
is_entry Entry = true
is_entry _ = false

-- its value may be null, whatever it reads
abbrev pub gives_null_by : NodeKind → Option Insn → Bool
gives_null_by (RetVal pc) insn = true
gives_null_by (Instr pc) (Some insn) = may_give_null (opcode_of insn)
gives_null_by _ insn = false

-- its value is one that it reads
abbrev pub moves_by : NodeKind → Option Insn → Bool
moves_by (Instr pc) (Some insn) = is_move (opcode_of insn)
moves_by _ insn = false

-- the instruction that stands at a node, with its pc; a call stands at its Call
abbrev pub standing_by : NodeKind → Option Insn → Option (ℕ × Insn)
standing_by (Instr pc) (Some insn) = Some (pc, insn)
standing_by (Call pc) (Some insn) = Some (pc, insn)
standing_by _ insn = None

-- the int constant that it writes
abbrev pub constant_by : Program → ℕ → NodeKind → Option Insn → Option ℤ
constant_by program m (Instr pc) (Some insn) = constant_of program m insn
constant_by program m _ insn = None

-- it may raise an exception, whatever its operands are: an access of an array by its index, and athrow
abbrev pub always_raises : Option (ℕ × Insn) → Bool
always_raises None = false
always_raises (Some at) = may_raise BadIndex (opcode_of at.1) || opcode_of at.1 == 191

-- ---- which definitions may be null, by number

abbrev pub GivesNullAt : List FlowRow → ℕ → Type 0
GivesNullAt wide n = IsSomeAnd (slice_get wide n) (λ row. gives_null_by row.node.kind row.node.insn ≡ true)

abbrev pub MovesAt : List FlowRow → ℕ → Type 0
MovesAt wide n = IsSomeAnd (slice_get wide n) (λ row. moves_by row.node.kind row.node.insn ≡ true)

-- from which number null comes to the node of a use: from the first that is none where the use is of a parameter that may be null
abbrev pub NullComes : Program → ℕ → (ℕ → ℕ → Type 0) → List FlowRow → Use → ℕ → Type 0
NullComes program m H wide u a =
    MovesAt wide u.node
    × (((kind_at wide u.from ≡ Some Entry) × MayBeNull program m H Entry u.place × (a ≡ length wide))
    ⊎ (((kind_at wide u.from ≡ Some Entry) → ⊥) × (a ≡ u.from)))

-- so that null comes from one number to another
abbrev pub NullStep : Program → ℕ → (ℕ → ℕ → Type 0) → List FlowRow → List Use → ℕ → ℕ → Type 0
NullStep program m H wide uses a b =
    ((a ≡ length wide) × GivesNullAt wide b) ⊎ ((u : Use) × Contains uses u × (u.node ≡ b) × NullComes program m H wide u a)

-- the set has the nodes whose values may be null; Entry has a value for each parameter, so it tells nothing there
pub record AreNulls (program : Program) (m : ℕ) (H : ℕ → ℕ → Type 0) (wide : List FlowRow) (null : List Bool) : Type 0 where
  pub enough : (n : ℕ) (kind : NodeKind) → kind_at wide n ≡ Some kind → n < length null
  pub each : (n : ℕ) (kind : NodeKind) (v : Place) → kind_at wide n ≡ Some kind → is_entry kind ≡ false → (has_number null n ≡ true) ↔ MayBeNull program m H kind v

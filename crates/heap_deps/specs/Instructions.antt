-- What nodes access by their instructions alone: the array loads and stores, getfield (180) and putfield (181), getstatic (178) and
-- putstatic (179), and what the calls of sources take (this project's own form of `MayRead` and `MayWrite`).
use Rattle.std.specs.Prelude.{ℕ, Bool, true, false, ◌==◌, if◌then◌else◌, Option, Some, None}
use Rattle.jo_insn.specs.declared.instructions.Insn.{Insn}
use Rattle.jo_prog.specs.declared.labels.Labels.{Labels}
use Rattle.jo_prog.specs.Labels.{label_of}
use Rattle.jo_prog.specs.Operations.{within}
use Rattle.jo_prog.specs.Sites.{opcode_of}
use Rattle.dep_nodes.specs.declared.kinds.NodeKind.{NodeKind}
use Rattle.dep_nodes.specs.declared.kinds.NodeKind.TheVariants.{Instr}
use Rattle.dependence.specs.HeapDependence.{is_source_label}
use Rattle.heap_deps.specs.declared.instructions.Part.TheVariants.{Field, Elements}
use Rattle.heap_deps.specs.declared.instructions.BaseAccess.{BaseAccess}
use Rattle.heap_deps.specs.declared.instructions.StaticAccess.{StaticAccess}

abbrev pub elements_at : ℕ → ℕ → Bool → BaseAccess
elements_at pc depth write = record { pc = pc; depth = depth; part = Elements; write = write }

abbrev pub field_at : ℕ → ℕ → Bool → Option ℕ → Option BaseAccess
field_at pc depth write None = None
field_at pc depth write (Some f) = Some (record { pc = pc; depth = depth; part = Field f; write = write })

abbrev pub access_of : ℕ → ℕ → Option ℕ → Option BaseAccess
access_of pc op field =
    if within 46 53 op then Some (elements_at pc 2 false)
    else if within 79 86 op then Some (elements_at pc 3 true)
    else if op == 180 then field_at pc 1 false field
    else if op == 181 then field_at pc 2 true field
    else None

abbrev pub base_access : NodeKind → Option Insn → Option ℕ → Option BaseAccess
base_access (Instr pc) (Some insn) field = access_of pc (opcode_of insn) field
base_access _ _ field = None

abbrev pub static_of : ℕ → Option ℕ → Option StaticAccess
static_of op None = None
static_of op (Some f) = if within 178 179 op then Some (record { field = f; write = op == 179 }) else None

abbrev pub static_access : Option Insn → Option ℕ → Option StaticAccess
static_access None field = None
static_access (Some insn) field = static_of (opcode_of insn) field

abbrev pub is_source : Labels → ℕ → Bool
is_source labels method = is_source_label (label_of labels method)

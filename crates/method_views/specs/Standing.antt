-- What stands at a node, and what it names (this project's own form).
use Rattle.std.specs.Prelude.{◌≡◌, ℕ, List, Option, Some, None}
use Rattle.jo_insn.specs.declared.instructions.Insn.{Insn}
use Rattle.jo_prog.specs.declared.program.Program.{Program}
use Rattle.jo_prog.specs.declared.program.MemberRef.{MemberRef}
use Rattle.jo_prog.specs.declared.program.Operand.{Operand}
use Rattle.jo_prog.specs.declared.program.Operand.TheVariants.{Member}
use Rattle.dep_nodes.specs.declared.kinds.NodeKind.{NodeKind}
use Rattle.dep_nodes.specs.declared.kinds.NodeKind.TheVariants.{Instr, Call}
use Rattle.dependence.specs.declared.flows.FlowRow.{FlowRow}
use Rattle.dependence.specs.declared.flows.Use.{Use}
use Rattle.dependence.specs.FlowData.{IsUse}
use Rattle.dependence.specs.GraphsAsData.{kind_at}
use Rattle.dependence.specs.WideGraph.{insn_at, node_of_insn}

-- the instruction that stands at a node, with its pc; a call stands at its Call
abbrev pub standing_by : NodeKind → Option Insn → Option (ℕ × Insn)
standing_by (Instr pc) (Some insn) = Some (pc, insn)
standing_by (Call pc) (Some insn) = Some (pc, insn)
standing_by _ insn = None

abbrev pub ref_in : Option Operand → Option MemberRef
ref_in (Some (Member ref)) = Some ref
ref_in _ = None

-- the use is at the node of the instruction at a pc
pub record UseAt (program : Program) (m : ℕ) (wide : List FlowRow) (u : Use) (pc : ℕ) (insn : Insn) : Type 0 where
  pub next : ℕ
  pub stands : insn_at program m pc ≡ Some (insn, next)
  pub node : kind_at wide u.node ≡ Some (node_of_insn pc insn)
  pub is_use : IsUse wide u

-- A graph over kinds of nodes as data: each node once, with exactly its successors and the places that it reads and writes (this
-- project's own form). A Call lists the places of its arguments as its reads: each of its Args reads its own there.
use Rattle.std.specs.Prelude.{◌≡◌, ◌↔◌, ◌⊎◌, ℕ, ◌<◌, ◌≤◌, List, length, Option, Some, None, slice_get, option_map}
use Rattle.jo_insn.specs.declared.instructions.Insn.{Insn}
use Rattle.jo_prog.specs.declared.program.Program.{Program}
use Rattle.dep_nodes.specs.declared.kinds.NodeKind.{NodeKind}
use Rattle.dep_nodes.specs.declared.kinds.NodeKind.TheVariants.{Instr, Call, RetVal}
use Rattle.dependence.specs.declared.flow.Place.{Place}
use Rattle.dependence.specs.declared.flows.FlowNode.{FlowNode}
use Rattle.dependence.specs.declared.flows.FlowRow.{FlowRow}
use Rattle.dependence.specs.FlowData.{EdgeIn, ReadsIn, WritesIn}
use Rattle.dependence.specs.WideGraph.{insn_at, resolved_at, resolved_field_at, IsWideNode, WideEdge}
use Rattle.dependence.specs.NodePlaces.{Reads, Writes, ArgumentPlace}

abbrev pub kind_at : List FlowRow → ℕ → Option NodeKind
kind_at flow i = option_map (λ row. row.node.kind) (slice_get flow i)

-- the data has exactly the nodes, the edges, the reads and the writes of these relations
pub record IsDataOf (Is : NodeKind → Type 0) (E : NodeKind → NodeKind → Type 0) (R W : NodeKind → Place → Type 0) (flow : List FlowRow) : Type 0 where
  pub each_node : (n : NodeKind) → Is n → (i : ℕ) × (kind_at flow i ≡ Some n)
  pub only_nodes : (i : ℕ) (n : NodeKind) → kind_at flow i ≡ Some n → Is n
  pub once : (i j : ℕ) (n : NodeKind) → kind_at flow i ≡ Some n → kind_at flow j ≡ Some n → i ≡ j
  pub inside : (i j : ℕ) → EdgeIn flow i j → j < length flow
  pub edges : (i j : ℕ) (a b : NodeKind) → kind_at flow i ≡ Some a → kind_at flow j ≡ Some b → EdgeIn flow i j ↔ E a b
  pub reads : (i : ℕ) (n : NodeKind) (v : Place) → kind_at flow i ≡ Some n → ReadsIn flow i v ↔ R n v
  pub writes : (i : ℕ) (n : NodeKind) (v : Place) → kind_at flow i ≡ Some n → WritesIn flow i v ↔ W n v

-- what a node lists as its reads
abbrev pub ListsRead : Program → ℕ → (ℕ → ℕ → Type 0) → NodeKind → Place → Type 0
ListsRead program m H (Call pc) v = (i : ℕ) × ArgumentPlace program m H pc i v
ListsRead program m H n v = Reads program m H n v

-- the instruction that a node keeps, and the field or the method that it resolves to: those of its own pc, for the nodes of an
-- instruction, of a call and of its result
abbrev pub pc_kept : NodeKind → Option ℕ
pc_kept (Instr pc) = Some pc
pc_kept (Call pc) = Some pc
pc_kept (RetVal pc) = Some pc
pc_kept _ = None

abbrev pub node_with : Program → ℕ → NodeKind → Option ℕ → FlowNode
node_with program m kind None = record { kind = kind; insn = None; field = None; method = None }
node_with program m kind (Some pc) = record {
  kind = kind;
  insn = option_map (λ (found : Insn × ℕ). found.0) (insn_at program m pc);
  field = resolved_field_at program m pc;
  method = resolved_at program m pc;
}

-- the data is the wide graph of a method
pub record IsWideGraph (program : Program) (m : ℕ) (H : ℕ → ℕ → Type 0) (flow : List FlowRow) : Type 0 where
  pub graph : IsDataOf (IsWideNode program m) (WideEdge program m) (ListsRead program m H) (Writes program m H) flow
  pub nodes : (i : ℕ) (row : FlowRow) → slice_get flow i ≡ Some row → row.node ≡ node_with program m row.node.kind (pc_kept row.node.kind)

-- a method has a wide graph with more nodes than the limit: so many differ
abbrev pub HasMoreNodes : Program → ℕ → ℕ → Type 0
HasMoreNodes program m most =
    (nodes : List NodeKind) × (most < length nodes)
    × ((i : ℕ) (n : NodeKind) → slice_get nodes i ≡ Some n → IsWideNode program m n)
    × ((i j : ℕ) (n : NodeKind) → slice_get nodes i ≡ Some n → slice_get nodes j ≡ Some n → i ≡ j)

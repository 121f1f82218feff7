-- What the nodes of the flow graph of an instance access, use by use and node by node (this project's own form of `MayRead` and
-- `MayWrite`).
use Rattle.std.specs.Prelude.{◌≡◌, ◌⊎◌, ℕ, length, ◌+◌, ◌==◌, true, false, List, Option, None, Some, slice_get, option_map}
use Rattle.jo_ids.specs.declared.ObjKey.{ObjKey}
use Rattle.jo_prog.specs.declared.program.Program.{Program}
use Rattle.jo_prog.specs.declared.program.Method.{Method}
use Rattle.jo_prog.specs.declared.program.MemberRef.{MemberRef}
use Rattle.jo_prog.specs.declared.program.TypeRef.{TypeRef}
use Rattle.jo_prog.specs.declared.labels.Labels.{Labels}
use Rattle.jo_prog.specs.declared.calls.Taken.TheVariants.{Code, Start}
use Rattle.jo_prog.specs.Program.{method_at}
use Rattle.jo_prog.specs.Types.{type_fits}
use Rattle.jo_prog.specs.Calls.{receiver_class, run_of, takes}
use Rattle.jo_prog.specs.Sites.{opcode_of}
use Rattle.dep_nodes.specs.declared.accesses.Cell.{Cell}
use Rattle.dep_nodes.specs.declared.accesses.Cell.TheVariants.{Static, Cursor, Started}
use Rattle.dep_nodes.specs.declared.kinds.NodeKind.{NodeKind}
use Rattle.dep_nodes.specs.declared.kinds.NodeKind.TheVariants.{Instr, Call, RetVal, Arg}
use Rattle.dependence.specs.declared.facts.Fact.{Fact}
use Rattle.dependence.specs.declared.facts.Fact.TheVariants.{Holds}
use Rattle.dependence.specs.declared.facts.InstKey.{InstKey}
use Rattle.dependence.specs.declared.flows.FlowNode.{FlowNode}
use Rattle.dependence.specs.declared.flows.FlowRow.{FlowRow}
use Rattle.dependence.specs.declared.flows.Use.{Use}
use Rattle.dependence.specs.FactRules.{SiteAt}
use Rattle.dependence.specs.FlowGraph.{AnObject, type_of_object}
use Rattle.dependence.specs.GraphsAsData.{node_with, pc_kept}
use Rattle.dependence.specs.NodePlaces.{CallAt, named_by}
use Rattle.dependence.specs.WideGraph.{resolved_at}
use Rattle.method_views.specs.Bases.{IsBelowTop}
use Rattle.heap_deps.specs.declared.instructions.BaseAccess.{BaseAccess}
use Rattle.heap_deps.specs.declared.instructions.StaticAccess.{StaticAccess}
use Rattle.heap_deps.specs.Instructions.{base_access, static_access, is_source}
use Rattle.heap_deps.specs.Adds.{From, FromBelow}
use Rattle.heap_deps.specs.Items.{Item, access}
use Rattle.heap_deps.specs.ObjectCells.{name_of, IsPartAccess}

abbrev pub IsNodeAt : List FlowRow → ℕ → FlowNode → Type 0
IsNodeAt flow n node = option_map (λ (row : FlowRow). row.node) (slice_get flow n) ≡ Some node

-- a node reads a cell, or it writes it
abbrev pub ReadsAndWrites : ℕ → Cell → Item → Type 0
ReadsAndWrites n cell x = (x ≡ access n (record { cell = cell; write = false })) ⊎ (x ≡ access n (record { cell = cell; write = true }))

-- ---- by a use of the base

-- an access to a part of an object that the definition of a use of the base may be
pub record UseMakes (facts : Fact (List ℕ) → Type 0) (i : InstKey (List ℕ)) (typed : List (Option ℕ)) (flow : List FlowRow) (first : ℕ) (u : Use) (x : Item) : Type 0 where
  pub node : FlowNode
  pub at : IsNodeAt flow u.node node
  pub access : BaseAccess
  pub stands : base_access node.kind node.insn node.field ≡ Some access
  pub below : IsBelowTop typed access.pc access.depth u.place
  pub from : FlowNode
  pub defines : IsNodeAt flow u.from from
  pub o : ObjKey (List ℕ)
  pub holds : facts (Holds i (named_by from.kind u.place) o)
  pub makes : IsPartAccess (first + u.node) access.part access.write o x

-- ---- by a node itself

-- a call with this opcode, which names a type and resolves to a method, starts the thread of an object of a type that has a method
-- to run
pub record TypeStarts (program : Program) (m op : ℕ) (named : TypeRef) (resolved : ℕ) (own : TypeRef) : Type 0 where
  pub fits : type_fits program own named ≡ true
  pub current : Method
  pub is_current : method_at program m ≡ Some current
  pub starts : takes program op current.class resolved (receiver_class own) ≡ Start
  pub run : ℕ
  pub runs : run_of program (receiver_class own) ≡ Code run

abbrev pub StartsThread : Program → ℕ → ℕ → TypeRef → ℕ → AnObject → Type 0
StartsThread program m op named resolved o = (own : TypeRef) × (type_of_object program o ≡ Some own) × TypeStarts program m op named resolved own

-- the call at a pc may start threads on a receiver
pub record MayStartAt (program : Program) (m pc op : ℕ) (named : TypeRef) : Type 0 where
  pub call : CallAt program m pc
  pub is_op : opcode_of call.insn ≡ op
  pub is_named : call.ref.owner ≡ named
  pub is_instance : (op == 184) ≡ false
  pub site : ℕ
  pub is_site : SiteAt program m pc None site

-- what the call at a pc names where it may start threads
abbrev pub IsStartCall : Program → ℕ → ℕ → ℕ → Option MemberRef → Type 0
IsStartCall program m pc op None = (named : TypeRef) → MayStartAt program m pc op named → ⊥
IsStartCall program m pc op (Some ref) = MayStartAt program m pc op ref.owner × ((named : TypeRef) → MayStartAt program m pc op named → named ≡ ref.owner)

-- the call at a pc starts the thread of an object
pub record StartsOn (program : Program) (m pc : ℕ) (o : ObjKey (List ℕ)) : Type 0 where
  pub op : ℕ
  pub named : TypeRef
  pub may : MayStartAt program m pc op named
  pub resolved : ℕ
  pub resolves : resolved_at program m pc ≡ Some resolved
  pub starts : StartsThread program m op named resolved o

-- the access of an instruction to a static field
abbrev pub StaticMakes : ℕ → FlowNode → Item → Type 0
StaticMakes n node x = (at : StaticAccess) × (static_access node.insn node.field ≡ Some at) × (x ≡ access n (record { cell = Static at.field; write = at.write }))

-- the accesses of what takes an input
abbrev pub IsCursorOf : Labels → ℕ → ℕ → Item → Type 0
IsCursorOf labels source n x = (is_source labels source ≡ true) × ReadsAndWrites n (Cursor source) x

abbrev pub SourceMakes : Labels → ℕ → FlowNode → Item → Type 0
SourceMakes labels n node x = (source : ℕ) × (node.method ≡ Some source) × IsCursorOf labels source n x

-- the accesses of what starts threads
abbrev pub IsStartBy : Program → ℕ → ℕ → TypeRef → ℕ → ℕ → AnObject → Item → Type 0
IsStartBy program m op named resolved n o x = StartsThread program m op named resolved o × ReadsAndWrites n (Started (name_of o)) x

abbrev pub IsStartOf : Program → ℕ → ℕ → ℕ → AnObject → Item → Type 0
IsStartOf program m pc n o x = StartsOn program m pc o × ReadsAndWrites n (Started (name_of o)) x

abbrev pub StartMakes : Program → (Fact (List ℕ) → Type 0) → InstKey (List ℕ) → ℕ → ℕ → Item → Type 0
StartMakes program facts i pc n x = (o : ObjKey (List ℕ)) × facts (Holds i (Arg pc 0) o) × IsStartOf program i.method pc n o x

abbrev pub NodeMakesBy : Program → Labels → (Fact (List ℕ) → Type 0) → InstKey (List ℕ) → ℕ → FlowNode → NodeKind → Item → Type 0
NodeMakesBy program labels facts i n node (Instr pc) x = StaticMakes n node x
NodeMakesBy program labels facts i n node (RetVal pc) x = SourceMakes labels n node x
NodeMakesBy program labels facts i n node (Call pc) x = StartMakes program facts i pc n x
NodeMakesBy program labels facts i n node _ x = ⊥

pub record NodeMakes (program : Program) (labels : Labels) (facts : Fact (List ℕ) → Type 0) (i : InstKey (List ℕ)) (flow : List FlowRow) (first : ℕ) (k : ℕ) (x : Item) : Type 0 where
  pub node : FlowNode
  pub at : IsNodeAt flow k node
  pub makes : NodeMakesBy program labels facts i (first + k) node node.kind x

-- ---- by all nodes of an instance

-- each node keeps what stands at its pc
abbrev pub KeepsNodes : Program → ℕ → List FlowRow → Type 0
KeepsNodes program m flow = (k : ℕ) (row : FlowRow) → slice_get flow k ≡ Some row → row.node ≡ node_with program m row.node.kind (pc_kept row.node.kind)

abbrev pub InstanceMakes : Program → Labels → (Fact (List ℕ) → Type 0) → InstKey (List ℕ) → List (Option ℕ) → List FlowRow → List Use → ℕ → Item → Type 0
InstanceMakes program labels facts i typed flow uses first x =
    From uses (UseMakes facts i typed flow first) x ⊎ FromBelow (length flow) (NodeMakes program labels facts i flow first) x

-- What the walk over plain code adds to a graph, an instruction at a time.
use Rattle.std.specs.Prelude.{◌≡◌, ℕ, ◌+◌, ◌-◌, ◌^◌, ◌<◌, Bool, true, false, ◌==◌, if◌then◌else◌, List, [], ◌∷◌, ◌++◌, length, replicate, Option, Some, None, Contains, slice_index_or}
use Rattle.jo_prog.specs.declared.operations.Operation.{Operation}
use Rattle.jo_prog.specs.declared.operations.Operation.TheVariants.{Constant, Load, Store, Add, Subtract, InvokeStatic, Return, Other}
use Rattle.jo_prog.specs.declared.program.Program.{Program}
use Rattle.jo_prog.specs.declared.program.Code.{Code}
use Rattle.jo_prog.specs.Program.{code_at}
use Rattle.dependence.specs.declared.flow.Place.{Place}
use Rattle.dependence.specs.declared.flow.Place.TheVariants.{Local, Stack, Pending}
use Rattle.dep_nodes.specs.declared.kinds.NodeKind.{NodeKind}
use Rattle.dep_nodes.specs.declared.kinds.EdgeKind.TheVariants.{Data, Control, Out, Heap}
use Rattle.dep_nodes.specs.declared.graphs.NodeName.{NodeName}
use Rattle.dep_nodes.specs.declared.graphs.Edge.{Edge}
use Rattle.plain_graph.specs.declared.sdg.Definitions.{Definitions}
use Rattle.plain_graph.specs.declared.sdg.SourceResult.{SourceResult}
use Rattle.plain_graph.specs.declared.sdg.Builder.{Builder}
use Rattle.dependence.specs.Flow.{reads_of, writes_of}
use Rattle.dep_nodes.specs.declared.kinds.NodeKind.TheVariants.{Entry, Exit, Instr, Call, RetVal, Arg, Param, Kind, Thrown}
use Rattle.dep_nodes.specs.Graphs.{edge}

-- the number of the node that wrote a place last
abbrev pub definition_of : Definitions → Place → Option ℕ
definition_of definitions (Local k) = slice_index_or definitions.locals.items k None
definition_of definitions (Stack h) = slice_index_or definitions.stack.items h None
definition_of definitions Pending = None

-- the place stands in the tables
abbrev pub HasPlace : Definitions → Place → Type 0
HasPlace definitions (Local k) = k < length definitions.locals.items
HasPlace definitions (Stack h) = h < length definitions.stack.items
HasPlace definitions Pending = ⊥

abbrev pub SameSizes : Definitions → Definitions → Type 0
SameSizes old new = (length new.locals.items ≡ length old.locals.items) × (length new.stack.items ≡ length old.stack.items)

-- a node has written these places, and no other
pub record AreWritten (old new : Definitions) (places : List Place) (node : ℕ) : Type 0 where
  pub here : (v : Place) → Contains places v → definition_of new v ≡ Some node
  pub others : (v : Place) → (Contains places v → ⊥) → definition_of new v ≡ definition_of old v
  pub sizes : SameSizes old new

-- the name of a node in the root context
abbrev pub name_of : ℕ → NodeKind → Option ℕ → NodeName
name_of method kind resolved = record { method = method; sites = record { len = 0; first = 0; second = 0 }; kind = kind; resolved = resolved }

-- a definition's edge to its use
abbrev pub use_edges : Option ℕ → ℕ → List Edge
use_edges None node = []
use_edges (Some definition) node = edge definition Data node ∷ []

abbrev pub uses_edges : Definitions → List Place → ℕ → List Edge
uses_edges definitions [] node = []
uses_edges definitions (v ∷ vs) node = use_edges (definition_of definitions v) node ++ uses_edges definitions vs node

-- a return's edge to how the method ended, whose node is the third
abbrev pub out_edges : Operation → ℕ → List Edge
out_edges Return node = edge node Out 2 ∷ []
out_edges _ node = []

-- the edge from Entry, which is the first node
abbrev pub control_edges : ℕ → List Edge
control_edges node = edge 0 Control node ∷ []

-- the edges between a new result of a source and those before it
abbrev pub heap_edges : List SourceResult → ℕ → ℕ → List Edge
heap_edges [] source node = []
heap_edges (r ∷ rs) source node = (if r.source == source then edge r.node Heap node ∷ edge node Heap r.node ∷ [] else []) ++ heap_edges rs source node

-- an instruction that is no call adds its node and its edges, and writes its places
pub record AddsInstruction (old new : Builder) (method pc : ℕ) (operation : Operation) (height : ℕ) : Type 0 where
  pub nodes : new.nodes ≡ old.nodes ++ name_of method (Instr pc) None ∷ []
  pub edges : new.edges ≡ old.edges ++ control_edges (length old.nodes) ++ uses_edges old.definitions (reads_of operation height) (length old.nodes) ++ out_edges operation (length old.nodes)
  pub definitions : AreWritten old.definitions new.definitions (writes_of operation height) (length old.nodes)
  pub results : new.results ≡ old.results

-- the node of a source's result stands behind that of its call
abbrev pub result_of : List NodeName → ℕ → SourceResult
result_of nodes source = record { source = source; node = length nodes + 1 }

-- the call of a source adds its nodes and its edges, and its result
pub record AddsSource (old new : Builder) (method pc source height : ℕ) : Type 0 where
  pub nodes : new.nodes ≡ old.nodes ++ name_of method (Call pc) (Some source) ∷ [] ++ name_of method (RetVal pc) (Some source) ∷ []
  pub edges : new.edges ≡ old.edges ++ control_edges (length old.nodes) ++ control_edges (length old.nodes + 1) ++ heap_edges old.results source (length old.nodes + 1)
      ++ edge (length old.nodes + 1) Heap (length old.nodes + 1) ∷ []
  pub definitions : AreWritten old.definitions new.definitions (Stack height ∷ []) (length old.nodes + 1)
  pub results : new.results ≡ old.results ++ result_of old.nodes source ∷ []

-- the call of a sink adds its nodes and its edges
pub record AddsSink (old new : Builder) (method pc sink height : ℕ) : Type 0 where
  pub nodes : new.nodes ≡ old.nodes ++ name_of method (Call pc) (Some sink) ∷ [] ++ name_of method (Arg pc 0) (Some sink) ∷ [] ++ name_of method (RetVal pc) (Some sink) ∷ []
  pub edges : new.edges ≡ old.edges ++ control_edges (length old.nodes) ++ use_edges (definition_of old.definitions (Stack (height - 1))) (length old.nodes + 1)
      ++ edge (length old.nodes + 1) Data (length old.nodes) ∷ [] ++ control_edges (length old.nodes + 2)
  pub definitions : new.definitions ≡ old.definitions
  pub results : new.results ≡ old.results

-- the height of the stack behind an operation that is no call
abbrev pub height_after : Operation → ℕ → ℕ
height_after (Constant z) height = height + 1
height_after (Load k) height = height + 1
height_after (Store k) height = height - 1
height_after Add height = height - 1
height_after Subtract height = height - 1
height_after (InvokeStatic k) height = height
height_after Return height = height
height_after Other height = height

abbrev pub is_call : Operation → Bool
is_call (InvokeStatic k) = true
is_call _ = false

abbrev pub is_return : Operation → Bool
is_return Return = true
is_return _ = false

-- the lengths of an entry's code, which a class file gives in two bytes each
abbrev pub HasShortCode : Program → ℕ → Type 0
HasShortCode program m = (code : Code) → code_at program m ≡ Some code → (length code.bytes < 2 ^ 16) × (code.max_stack < 2 ^ 16) × (code.max_locals < 2 ^ 16)

-- the nodes that every graph has, in the order of their numbers, and that of the entry's parameter where it has one
abbrev pub start_nodes : Bool → ℕ → List NodeName
start_nodes has_arguments method =
    name_of method Entry None ∷ name_of method Exit None ∷ name_of method Kind None ∷ name_of method Thrown None
    ∷ (if has_arguments then name_of method (Param 0) None ∷ [] else [])

-- a builder as the walk begins
pub record IsStart (new : Builder) (has_arguments : Bool) (method max_locals max_stack : ℕ) : Type 0 where
  pub nodes : new.nodes ≡ start_nodes has_arguments method
  pub edges : new.edges ≡ []
  pub locals : new.definitions.locals.items ≡ replicate max_locals None
  pub stack : new.definitions.stack.items ≡ replicate max_stack None
  pub results : new.results ≡ []

-- A growing graph as data is the dependence graph of a program by facts: exactly its nodes, edges, flow edges and accesses, each once.
use Rattle.std.specs.Prelude.{◌≡◌, ◌↔◌, ℕ, true, false, List, Contains, Option, Some, None, slice_get}
use Rattle.jo_ids.specs.declared.ObjKey.{ObjKey}
use Rattle.jo_prog.specs.declared.program.Program.{Program}
use Rattle.jo_prog.specs.declared.labels.Labels.{Labels}
use Rattle.contexts.specs.Policies.{ContextPolicy}
use Rattle.dep_nodes.specs.declared.kinds.NodeKind.{NodeKind}
use Rattle.dep_nodes.specs.declared.kinds.NodeKind.TheVariants.{Call, RetVal, Arg}
use Rattle.dep_nodes.specs.declared.kinds.EdgeKind.{EdgeKind}
use Rattle.dep_nodes.specs.declared.accesses.Access.{Access}
use Rattle.dep_nodes.specs.declared.accesses.ObjName.{ObjName}
use Rattle.dep_nodes.specs.declared.accesses.Cell.{Cell}
use Rattle.dep_nodes.specs.declared.accesses.Cell.TheVariants.{Field as FieldCell, Elements as ElementsCell, Static as StaticCell, Cursor, Started}
use Rattle.dep_nodes.specs.declared.dependence_graph.GraphNode.{GraphNode}
use Rattle.dep_nodes.specs.Nodes.{node, node_named, sites_of}
use Rattle.dep_nodes.specs.OneForm.{plain_cell}
use Rattle.dep_nodes.specs.OnceLists.{IsOnceEach}
use Rattle.dep_nodes.specs.GrowingGraphs.{HasIdsInside, HasAccess}
use Rattle.dependence.specs.declared.facts.InstKey.{InstKey}
use Rattle.dependence.specs.declared.facts.FactCell.TheVariants.{Field as FieldOf, Elements, Static}
use Rattle.dependence.specs.declared.facts.Fact.{Fact}
use Rattle.dependence.specs.WideGraph.{resolved_at}
use Rattle.dependence.specs.FlowGraph.{AnInstance, AnObject}
use Rattle.dependence.specs.HeapDependence.{HeapCell, kept, cursor, started, MayRead, MayWrite}
use Rattle.dependence.specs.DependenceEdges.{IsGraphNode, IsGraphEdge, IsGraphFlow}

-- ---- what names stand for

abbrev pub object_named : ObjName → AnObject
object_named object = record { site = object.site; context = sites_of object.sites }

abbrev pub cell_named : Cell → HeapCell
cell_named (FieldCell f object) = kept (FieldOf f (object_named object))
cell_named (ElementsCell object) = kept (Elements (object_named object))
cell_named (StaticCell f) = kept (Static f)
cell_named (Cursor method) = cursor method
cell_named (Started object) = started (object_named object)

-- the method that a node of a call resolves to
abbrev pub resolved_for : Program → ℕ → NodeKind → Option ℕ
resolved_for program m (Call pc) = resolved_at program m pc
resolved_for program m (RetVal pc) = resolved_at program m pc
resolved_for program m (Arg pc k) = resolved_at program m pc
resolved_for program m _ = None

-- the row with that number has the name of that node
abbrev pub IsNamed : List GraphNode → ℕ → AnInstance → NodeKind → Type 0
IsNamed rows k i n = (row : GraphNode) × (slice_get rows k ≡ Some row) × (node_named row.name ≡ node (record { method = i.method; context = i.context }) n)

-- ---- the graph

module _ (program : Program) (labels : Labels) (policy : ContextPolicy) (facts : Fact (List ℕ) → Type 0) (H : ℕ → ℕ → ℕ → Type 0) where
  pub record IsProgramGraph (rows : List GraphNode) : Type 0 where
    pub each_node : (i : InstKey (List ℕ)) (n : NodeKind) → IsGraphNode program labels policy facts H i n → (k : ℕ) × IsNamed rows k i n
    pub only_nodes : (k : ℕ) (i : InstKey (List ℕ)) (n : NodeKind) → IsNamed rows k i n → IsGraphNode program labels policy facts H i n
    pub once : (j k : ℕ) (i : InstKey (List ℕ)) (n : NodeKind) → IsNamed rows j i n → IsNamed rows k i n → j ≡ k
    -- every list has each item once, with numbers of nodes alone and cells in the one form of their names, so that its length counts
    pub inside : HasIdsInside rows
    pub lists_once : (k : ℕ) (row : GraphNode) → slice_get rows k ≡ Some row → IsOnceEach row.edges × IsOnceEach row.flows × IsOnceEach row.accesses
    pub plain : (k : ℕ) (access : Access) → HasAccess rows k access → plain_cell access.cell ≡ access.cell
    pub resolved : (k : ℕ) (row : GraphNode) → slice_get rows k ≡ Some row → row.name.resolved ≡ resolved_for program row.name.method row.name.kind
    pub edges : (k l : ℕ) (row : GraphNode) (i j : InstKey (List ℕ)) (a b : NodeKind) (kind : EdgeKind) → IsNamed rows k i a → IsNamed rows l j b
        → slice_get rows l ≡ Some row → Contains row.edges (k, kind) ↔ IsGraphEdge program labels policy facts H i a kind j b
    pub flows : (k l : ℕ) (row : GraphNode) (i j : InstKey (List ℕ)) (a b : NodeKind) → IsNamed rows k i a → IsNamed rows l j b
        → slice_get rows k ≡ Some row → Contains row.flows l ↔ IsGraphFlow program labels policy facts H i a j b
    pub reads : (k : ℕ) (i : InstKey (List ℕ)) (n : NodeKind) (cell : Cell) → IsNamed rows k i n → plain_cell cell ≡ cell
        → HasAccess rows k (record { cell = cell; write = false }) ↔ MayRead program labels policy facts H i n (cell_named cell)
    pub writes : (k : ℕ) (i : InstKey (List ℕ)) (n : NodeKind) (cell : Cell) → IsNamed rows k i n → plain_cell cell ≡ cell
        → HasAccess rows k (record { cell = cell; write = true }) ↔ MayWrite program labels policy facts H i n (cell_named cell)

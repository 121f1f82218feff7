-- The dependence graph of a program (after Horwitz, Reps and Binkley 1990; its nodes, edges and rules are this project's
-- own), in its part for plain code: one instance, no object.
use Rattle.std.specs.Prelude.{◌≡◌, ℕ, Bool, true, false, [], Option, Some, None}
use Rattle.jo_prog.specs.declared.operations.Operation.TheVariants.{Return}
use Rattle.jo_prog.specs.declared.program.Program.{Program}
use Rattle.jo_prog.specs.declared.labels.Label.{Label}
use Rattle.jo_prog.specs.declared.labels.Label.TheVariants.{Source, Sink}
use Rattle.jo_prog.specs.declared.labels.Labels.{Labels}
use Rattle.jo_prog.specs.Labels.{label_of}
use Rattle.jo_prog.specs.Program.{method_at, operation_at, callee_at}
use Rattle.jo_prog.specs.Constants.{takes_arguments}
use Rattle.dependence.specs.declared.flow.Place.{Place}
use Rattle.dep_nodes.specs.declared.kinds.NodeKind.{NodeKind}
use Rattle.dep_nodes.specs.declared.kinds.NodeKind.TheVariants.{Instr, Call, RetVal, Arg, Param, Kind, Thrown}
use Rattle.dep_nodes.specs.declared.kinds.EdgeKind.{EdgeKind}
use Rattle.dep_nodes.specs.declared.kinds.EdgeKind.TheVariants.{Data, Control, Out, Heap}
use Rattle.dep_nodes.specs.Nodes.{Instance, Node, node}
use Rattle.dependence.specs.Flow.{IsFlowNode, Reads, ArgumentPlace, FlowReaches, FlowControls}

-- a method in a context, which is a list of sites
-- the instances that derivations reach: the entry in the root context
pub data IsReached (labels : Labels) : Instance → Type 0 where
  at_entry : IsReached labels (record { method = labels.entry; context = [] })

-- the method that the call at a pc of an instance names has this label
abbrev pub label_at : Program → Labels → ℕ → ℕ → Option Label
label_at program labels m pc = label_of_callee (callee_at program m pc)
  where
    label_of_callee : Option ℕ → Option Label
    label_of_callee None = None
    label_of_callee (Some callee) = label_of labels callee

abbrev pub is_source : Option Label → Bool
is_source (Some (Source level)) = true
is_source _ = false

abbrev pub is_sink : Option Label → Bool
is_sink (Some (Sink level)) = true
is_sink _ = false

-- a node of the graph: one of the flow graph, an argument of one of its calls, an outcome, or the parameter of the entry
pub data IsNode (program : Program) (labels : Labels) : Node → Type 0 where
  of_flow : (i : Instance) (n : NodeKind) → IsReached labels i → IsFlowNode program i.method n → IsNode program labels (node i n)
  of_argument : (i : Instance) (pc a : ℕ) (v : Place) → IsReached labels i → IsFlowNode program i.method (Call pc) → ArgumentPlace program i.method pc a v
      → IsNode program labels (node i (Arg pc a))
  of_kind : (i : Instance) → IsReached labels i → IsNode program labels (node i Kind)
  of_thrown : (i : Instance) → IsReached labels i → IsNode program labels (node i Thrown)
  of_parameter : (i : Instance) → IsReached labels i → takes_arguments (method_at program i.method) ≡ true → IsNode program labels (node i (Param 0))

-- the node reads and writes the cursor of a source
pub data UsesCursor (program : Program) (labels : Labels) : ℕ → Node → Type 0 where
  at_result : (i : Instance) (pc source : ℕ) → IsReached labels i → IsFlowNode program i.method (RetVal pc) → callee_at program i.method pc ≡ Some source
      → is_source (label_of labels source) ≡ true → UsesCursor program labels source (node i (RetVal pc))

-- a dependence edge
pub data DependenceEdge (program : Program) (labels : Labels) : Node → EdgeKind → Node → Type 0 where
  -- a definition to a use of its place
  used : (i : Instance) (d n : NodeKind) (v : Place) → IsReached labels i → IsFlowNode program i.method d → FlowReaches program i.method v d n → Reads program i.method n v
      → DependenceEdge program labels (node i d) Data (node i n)
  -- an argument is read at its call
  passed : (i : Instance) (d : NodeKind) (pc a : ℕ) (v : Place) → IsReached labels i → IsFlowNode program i.method d → FlowReaches program i.method v d (Call pc)
      → ArgumentPlace program i.method pc a v → DependenceEdge program labels (node i d) Data (node i (Arg pc a))
  -- what a sink shows
  shown : (i : Instance) (pc : ℕ) (v : Place) → IsReached labels i → IsFlowNode program i.method (Call pc) → is_sink (label_at program labels i.method pc) ≡ true
      → ArgumentPlace program i.method pc 0 v → DependenceEdge program labels (node i (Arg pc 0)) Data (node i (Call pc))
  controlled : (i : Instance) (b n : NodeKind) → IsReached labels i → IsFlowNode program i.method b → FlowControls program i.method b n
      → DependenceEdge program labels (node i b) Control (node i n)
  -- each return to how the method ended
  ended : (i : Instance) (pc next : ℕ) → IsReached labels i → IsFlowNode program i.method (Instr pc) → operation_at program i.method pc ≡ Some (Return, next)
      → DependenceEdge program labels (node i (Instr pc)) Out (node i Kind)
  -- reads of one source follow one another
  next_input : (source : ℕ) (a b : Node) → UsesCursor program labels source a → UsesCursor program labels source b → DependenceEdge program labels a Heap b

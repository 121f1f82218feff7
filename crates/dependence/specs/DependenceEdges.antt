-- The dependence graph of a program by facts: its nodes, its edges by their words, and its flow edges (dependence graphs of programs
-- with procedures after Horwitz, Reps and Binkley 1990, forks after Giffhorn and Snelting 2015; nodes and edges are this project's own).
use Rattle.std.specs.Prelude.{◌≡◌, ◌⊎◌, ℕ, ◌<◌, Bool, true, false, ◌==◌, List, Option, Some, None}
use Rattle.jo_text.specs.declared.descriptors.FieldDesc.{FieldDesc}
use Rattle.jo_text.specs.declared.descriptors.MethodDesc.{MethodDesc}
use Rattle.jo_text.specs.Descriptors.{SpellsMethod}
use Rattle.jo_prog.specs.declared.program.Program.{Program}
use Rattle.jo_prog.specs.declared.program.Method.{Method}
use Rattle.jo_prog.specs.declared.labels.Labels.{Labels}
use Rattle.jo_prog.specs.Program.{method_at}
use Rattle.jo_prog.specs.Operations.{within}
use Rattle.jo_prog.specs.Sites.{opcode_of}
use Rattle.contexts.specs.Policies.{ContextPolicy}
use Rattle.dep_nodes.specs.declared.kinds.NodeKind.{NodeKind}
use Rattle.dep_nodes.specs.declared.kinds.NodeKind.TheVariants.{Entry, Exit, Instr, Call, RetVal, RetKind, Throw, Arg, Param, Kind, Value, Thrown}
use Rattle.dep_nodes.specs.declared.kinds.EdgeKind.{EdgeKind}
use Rattle.dep_nodes.specs.declared.kinds.EdgeKind.TheVariants.{Data, Control, Out, Arg as ArgEdge, Call as CallEdge, Ret, Heap, Fork as ForkEdge}
use Rattle.dependence.specs.declared.flow.Place.{Place}
use Rattle.dependence.specs.declared.facts.InstKey.{InstKey}
use Rattle.dependence.specs.declared.facts.Fact.{Fact}
use Rattle.dependence.specs.declared.facts.Fact.TheVariants.{Reached, Target, Fork}
use Rattle.dependence.specs.Dependence.{Controls}
use Rattle.dependence.specs.WideGraph.{StandsWith, is_return}
use Rattle.dependence.specs.NodePlaces.{CallAt, HasParameters, ArgumentPlace, Reads, named_by}
use Rattle.dependence.specs.FlowGraph.{AnInstance, EdgeOf}
use Rattle.dependence.specs.HeapDependence.{HasNode, FlowReachesIn, HeapEdge, label_called, is_sink_label}

-- a method gives a result
pub record GivesResult (program : Program) (m : ℕ) : Type 0 where
  pub method : Method
  pub is : method_at program m ≡ Some method
  pub desc : MethodDesc
  pub spells : SpellsMethod desc method.desc
  pub result : FieldDesc
  pub gives : desc.result ≡ Some result

-- an instruction that may throw by itself, or a call: a node from which an exception edge leads to the Throw of its own pc
pub data ThrowsAt (pc : ℕ) : NodeKind → Type 0 where
  insn : ThrowsAt pc (Instr pc)
  call : ThrowsAt pc (Call pc)

-- ireturn and areturn, among those that the profile leaves out
abbrev pub gives_value : ℕ → Bool
gives_value op = within 172 176 op

module _ (program : Program) (labels : Labels) (policy : ContextPolicy) (facts : Fact (List ℕ) → Type 0) (H : ℕ → ℕ → ℕ → Type 0) where
  -- ---- nodes

  -- a node of the flow graph of an instance that runs, an argument of one of its calls, a parameter, an outcome
  pub data IsGraphNode : InstKey (List ℕ) → NodeKind → Type 0 where
    of_flow : (i : InstKey (List ℕ)) (n : NodeKind) → HasNode program labels policy facts H i n → IsGraphNode i n
    of_argument : (i : InstKey (List ℕ)) (pc k : ℕ) (v : Place) → HasNode program labels policy facts H i (Call pc) → ArgumentPlace program i.method (H i.method) pc k v
        → IsGraphNode i (Arg pc k)
    of_parameter : (i : InstKey (List ℕ)) (count k : ℕ) → facts (Reached i) → HasParameters program i.method count → k < count → IsGraphNode i (Param k)
    of_kind : (i : InstKey (List ℕ)) → facts (Reached i) → IsGraphNode i Kind
    of_thrown : (i : InstKey (List ℕ)) → facts (Reached i) → IsGraphNode i Thrown
    of_value : (i : InstKey (List ℕ)) → facts (Reached i) → GivesResult program i.method → IsGraphNode i Value

  -- ---- edges by their words

  -- the call has a receiver, or shows its argument: then what it does depends on its first argument
  abbrev pub UsesFirst : AnInstance → ℕ → Type 0
  UsesFirst i pc =
      ((call : CallAt program i.method pc) × ((opcode_of call.insn == 184) ≡ false)) ⊎ (is_sink_label (label_called program labels i.method pc) ≡ true)

  pub data EdgeByWord : InstKey (List ℕ) → NodeKind → EdgeKind → InstKey (List ℕ) → NodeKind → Type 0 where
    -- a definition to a use of its place; arguments are read at their call
    used : (i : InstKey (List ℕ)) (d n : NodeKind) (v : Place) → FlowReachesIn program labels policy facts H i v d n → Reads program i.method (H i.method) n v
        → EdgeByWord i (named_by d v) Data i n
    passed : (i : InstKey (List ℕ)) (d : NodeKind) (pc k : ℕ) (v : Place) → FlowReachesIn program labels policy facts H i v d (Call pc)
        → ArgumentPlace program i.method (H i.method) pc k v → EdgeByWord i (named_by d v) Data i (Arg pc k)
    -- what raises an exception, and what a call is made on or shows
    raised : (i : InstKey (List ℕ)) (pc : ℕ) (n : NodeKind) → ThrowsAt pc n → EdgeOf program facts (H i.method) i n (Throw pc) → EdgeByWord i n Data i (Throw pc)
    asked : (i : InstKey (List ℕ)) (pc : ℕ) → UsesFirst i pc → EdgeByWord i (Arg pc 0) Data i (Call pc)
    controlled : (i : InstKey (List ℕ)) (b n : NodeKind) → Controls (EdgeOf program facts (H i.method) i) (λ n. n ≡ Exit) b n → EdgeByWord i b Control i n
    -- how an instance ends
    gives : (i : InstKey (List ℕ)) (pc : ℕ) → StandsWith program i.method pc gives_value → EdgeByWord i (Instr pc) Out i Value
    ends : (i : InstKey (List ℕ)) (pc : ℕ) → StandsWith program i.method pc is_return → EdgeByWord i (Instr pc) Out i Kind
    ends_by_throwing : (i : InstKey (List ℕ)) (pc : ℕ) → EdgeOf program facts (H i.method) i (Throw pc) Exit → EdgeByWord i (Throw pc) Out i Kind
    throws : (i : InstKey (List ℕ)) (pc : ℕ) → EdgeOf program facts (H i.method) i (Throw pc) Exit → EdgeByWord i (Throw pc) Out i Thrown
    -- calls, and what comes back
    gives_argument : (i j : InstKey (List ℕ)) (pc k : ℕ) → facts (Target i pc j) → EdgeByWord i (Arg pc k) ArgEdge j (Param k)
    calls : (i j : InstKey (List ℕ)) (pc : ℕ) → facts (Target i pc j) → EdgeByWord i (Call pc) CallEdge j Entry
    comes_back : (i j : InstKey (List ℕ)) (pc : ℕ) → facts (Target i pc j) → EdgeByWord j Kind Ret i (RetKind pc)
    brings_value : (i j : InstKey (List ℕ)) (pc : ℕ) → facts (Target i pc j) → EdgeByWord j Value Ret i (RetVal pc)
    brings_exception : (i j : InstKey (List ℕ)) (pc : ℕ) → facts (Target i pc j) → EdgeByWord j Thrown Ret i (Throw pc)
    -- what is kept outside of places
    through_heap : (i j : InstKey (List ℕ)) (a b : NodeKind) → HeapEdge program labels policy facts H i a j b → EdgeByWord i a Heap j b
    -- new threads
    starts : (i j : InstKey (List ℕ)) (pc : ℕ) → facts (Fork i pc j) → EdgeByWord i (Call pc) ForkEdge j Entry
    starts_on : (i j : InstKey (List ℕ)) (pc : ℕ) → facts (Fork i pc j) → EdgeByWord i (Arg pc 0) ForkEdge j (Param 0)

  -- a dependence edge stands between nodes of the graph
  pub record IsGraphEdge (i : InstKey (List ℕ)) (a : NodeKind) (kind : EdgeKind) (j : InstKey (List ℕ)) (b : NodeKind) : Type 0 where
    pub by_word : EdgeByWord i a kind j b
    pub from : IsGraphNode i a
    pub to : IsGraphNode j b

  -- ---- flow edges

  -- those of each instance, and from the end of a target in the same thread to how the call ended
  pub data IsGraphFlow : InstKey (List ℕ) → NodeKind → InstKey (List ℕ) → NodeKind → Type 0 where
    within_instance : (i : InstKey (List ℕ)) (a b : NodeKind) → facts (Reached i) → EdgeOf program facts (H i.method) i a b → IsGraphFlow i a i b
    behind_call : (i j : InstKey (List ℕ)) (pc : ℕ) → facts (Target i pc j) → IsGraphNode j Exit → IsGraphNode i (RetKind pc) → IsGraphFlow j Exit i (RetKind pc)

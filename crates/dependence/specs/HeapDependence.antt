-- Which cells a node of a flow graph may write and read, by facts: fields of objects, elements of arrays, static fields, the cursors
-- of inputs and the flags of started threads (heap dependence by points-to sets is standard; the cells are this project's own).
use Rattle.std.specs.Prelude.{◌≡◌, ℕ, Bool, true, false, ◌==◌, List, Option, Some, None}
use Rattle.jo_ids.specs.declared.ObjKey.{ObjKey}
use Rattle.jo_prog.specs.declared.program.Program.{Program}
use Rattle.jo_prog.specs.declared.labels.Label.{Label}
use Rattle.jo_prog.specs.declared.labels.Label.TheVariants.{Source, Sink}
use Rattle.jo_prog.specs.declared.labels.Labels.{Labels}
use Rattle.jo_prog.specs.Labels.{label_of}
use Rattle.contexts.specs.Policies.{ContextPolicy}
use Rattle.dep_nodes.specs.declared.kinds.NodeKind.{NodeKind}
use Rattle.dep_nodes.specs.declared.kinds.NodeKind.TheVariants.{Instr, Call, RetVal, Arg}
use Rattle.dependence.specs.declared.flow.Place.{Place}
use Rattle.dependence.specs.declared.facts.InstKey.{InstKey}
use Rattle.dependence.specs.declared.facts.FactCell.{FactCell}
use Rattle.dependence.specs.declared.facts.FactCell.TheVariants.{Field as FieldOf, Elements, Static}
use Rattle.dependence.specs.declared.facts.Fact.{Fact}
use Rattle.dependence.specs.declared.facts.Fact.TheVariants.{Reached, Holds}
use Rattle.dependence.specs.Dependence.{Reaches}
use Rattle.dependence.specs.WideGraph.{resolved_at, resolved_field_at, StandsWith}
use Rattle.dependence.specs.NodePlaces.{Writes, named_by}
use Rattle.dependence.specs.FlowGraph.{AnInstance, AnObject, BasePlace, IsNodeOf, EdgeOf}
use Rattle.dependence.specs.FactRules.{CallsOn, is_array_load, is_array_store}

-- what threads share: what holds objects, the cursor of a source, and whether the thread of an object was started
pub data HeapCell : Type 0 where
  kept : FactCell (List ℕ) → HeapCell
  cursor : ℕ → HeapCell
  started : ObjKey (List ℕ) → HeapCell

-- ---- what a native method is to the policy

abbrev pub label_if : Labels → Option ℕ → Option Label
label_if labels None = None
label_if labels (Some m) = label_of labels m

-- the label of the method that the call at a pc of a method resolves to
abbrev pub label_called : Program → Labels → ℕ → ℕ → Option Label
label_called program labels m pc = label_if labels (resolved_at program m pc)

abbrev pub is_source_label : Option Label → Bool
is_source_label (Some (Source level)) = true
is_source_label _ = false

abbrev pub is_sink_label : Option Label → Bool
is_sink_label (Some (Sink level)) = true
is_sink_label _ = false

module _ (program : Program) (labels : Labels) (policy : ContextPolicy) (facts : Fact (List ℕ) → Type 0) (H : ℕ → ℕ → ℕ → Type 0) where
  -- the instance runs, and its flow graph has the node
  pub record HasNode (i : InstKey (List ℕ)) (n : NodeKind) : Type 0 where
    pub reached : facts (Reached i)
    pub there : IsNodeOf program facts (H i.method) i n

  -- the definition of a place at a node arrives at another in the flow graph of an instance
  abbrev pub FlowReachesIn : AnInstance → Place → NodeKind → NodeKind → Type 0
  FlowReachesIn i v d n = Reaches (EdgeOf program facts (H i.method) i) (Writes program i.method (H i.method)) v d n

  -- the base of the instruction at a pc may be that object: some definition of it that arrives in the flow graph may be
  pub record MayAccess (i : InstKey (List ℕ)) (pc : ℕ) (o : ObjKey (List ℕ)) : Type 0 where
    pub place : Place
    pub is_base : BasePlace program i.method (H i.method) pc place
    pub d : NodeKind
    pub arrives : FlowReachesIn i place d (Instr pc)
    pub holds : facts (Holds i (named_by d place) o)

  -- the RetVal of a call of a source takes its next input
  pub record TakesInput (i : InstKey (List ℕ)) (pc source : ℕ) : Type 0 where
    pub there : HasNode i (RetVal pc)
    pub resolves : resolved_at program i.method pc ≡ Some source
    pub is_source : is_source_label (label_of labels source) ≡ true

  -- the call at a pc starts the thread of an object
  pub record MayStart (i : InstKey (List ℕ)) (pc : ℕ) (o : ObjKey (List ℕ)) : Type 0 where
    pub there : HasNode i (Call pc)
    pub holds : facts (Holds i (Arg pc 0) o)
    pub run : InstKey (List ℕ)
    pub starts : CallsOn program policy i pc o true run

  -- getfield, the loads of elements, getstatic; sources and starts of threads both read and write
  pub data MayRead : InstKey (List ℕ) → NodeKind → HeapCell → Type 0 where
    of_field : (i : InstKey (List ℕ)) (pc f : ℕ) (o : ObjKey (List ℕ)) → HasNode i (Instr pc) → StandsWith program i.method pc (λ op. op == 180)
        → resolved_field_at program i.method pc ≡ Some f → MayAccess i pc o → MayRead i (Instr pc) (kept (FieldOf f o))
    of_elements : (i : InstKey (List ℕ)) (pc : ℕ) (o : ObjKey (List ℕ)) → HasNode i (Instr pc) → StandsWith program i.method pc is_array_load
        → MayAccess i pc o → MayRead i (Instr pc) (kept (Elements o))
    of_static : (i : InstKey (List ℕ)) (pc f : ℕ) → HasNode i (Instr pc) → StandsWith program i.method pc (λ op. op == 178)
        → resolved_field_at program i.method pc ≡ Some f → MayRead i (Instr pc) (kept (Static f))
    of_input : (i : InstKey (List ℕ)) (pc source : ℕ) → TakesInput i pc source → MayRead i (RetVal pc) (cursor source)
    of_start : (i : InstKey (List ℕ)) (pc : ℕ) (o : ObjKey (List ℕ)) → MayStart i pc o → MayRead i (Call pc) (started o)

  -- putfield, the stores of elements, putstatic
  pub data MayWrite : InstKey (List ℕ) → NodeKind → HeapCell → Type 0 where
    to_field : (i : InstKey (List ℕ)) (pc f : ℕ) (o : ObjKey (List ℕ)) → HasNode i (Instr pc) → StandsWith program i.method pc (λ op. op == 181)
        → resolved_field_at program i.method pc ≡ Some f → MayAccess i pc o → MayWrite i (Instr pc) (kept (FieldOf f o))
    to_elements : (i : InstKey (List ℕ)) (pc : ℕ) (o : ObjKey (List ℕ)) → HasNode i (Instr pc) → StandsWith program i.method pc is_array_store
        → MayAccess i pc o → MayWrite i (Instr pc) (kept (Elements o))
    to_static : (i : InstKey (List ℕ)) (pc f : ℕ) → HasNode i (Instr pc) → StandsWith program i.method pc (λ op. op == 179)
        → resolved_field_at program i.method pc ≡ Some f → MayWrite i (Instr pc) (kept (Static f))
    takes_input : (i : InstKey (List ℕ)) (pc source : ℕ) → TakesInput i pc source → MayWrite i (RetVal pc) (cursor source)
    starts : (i : InstKey (List ℕ)) (pc : ℕ) (o : ObjKey (List ℕ)) → MayStart i pc o → MayWrite i (Call pc) (started o)

  -- a heap edge: from each node that may write a cell to each that may read it
  pub record HeapEdge (i : InstKey (List ℕ)) (a : NodeKind) (j : InstKey (List ℕ)) (b : NodeKind) : Type 0 where
    pub cell : HeapCell
    pub writes : MayWrite i a cell
    pub reads : MayRead j b cell

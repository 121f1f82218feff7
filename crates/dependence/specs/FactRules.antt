-- Which facts follow from which: what runs in which context, which objects a node or a cell may hold, what calls take, what may throw
-- and what may never end (points-to analysis on the fly with the call graph, in the tradition of Andersen 1994 and of Milanova, Rountev
-- and Ryder 2005; the rules are this project's own). They go over the wide graph of each method. H m pc height gives heights.
use Rattle.std.specs.Prelude.{◌≡◌, ◌⊎◌, ℕ, ◌<◌, Bool, true, false, ◌||◌, ◌==◌, List, [], ◌∷◌, length, Contains, Option, Some, None, slice_get, codes}
use Rattle.std.specs.Option.{is_some}
use Rattle.jo_ids.specs.Path.{Path}
use Rattle.jo_ids.specs.declared.ObjKey.{ObjKey}
use Rattle.jo_insn.specs.AccessFlags.{has_flag, static_flag}
use Rattle.jo_text.specs.declared.descriptors.MethodDesc.{MethodDesc}
use Rattle.jo_prog.specs.declared.program.Program.{Program}
use Rattle.jo_prog.specs.declared.program.Field.{Field}
use Rattle.jo_prog.specs.declared.program.Method.{Method}
use Rattle.jo_prog.specs.declared.program.TypeRef.{TypeRef}
use Rattle.jo_prog.specs.declared.program.Operand.{Operand}
use Rattle.jo_prog.specs.declared.program.Operand.TheVariants.{Text}
use Rattle.jo_prog.specs.declared.sites.Cause.{Cause}
use Rattle.jo_prog.specs.declared.calls.Taken.{Taken}
use Rattle.jo_prog.specs.declared.calls.Taken.TheVariants.{Code, Start}
use Rattle.jo_prog.specs.Operations.{within}
use Rattle.jo_prog.specs.Program.{method_at, operand_at}
use Rattle.jo_prog.specs.Calls.{receiver_class, run_of, taken_from, takes}
use Rattle.jo_prog.specs.Sites.{opcode_of, class_raised, sites_of, site_of}
use Rattle.contexts.specs.Policies.{ContextPolicy, receiver_at}
use Rattle.dep_nodes.specs.declared.kinds.NodeKind.{NodeKind}
use Rattle.dep_nodes.specs.declared.kinds.NodeKind.TheVariants.{Instr, Call, RetVal, Throw, Catch, Poll, XPoll, Arg, Param, Value, Thrown}
use Rattle.dependence.specs.declared.flow.Place.{Place}
use Rattle.dependence.specs.declared.facts.InstKey.{InstKey}
use Rattle.dependence.specs.declared.facts.FactCell.{FactCell}
use Rattle.dependence.specs.declared.facts.FactCell.TheVariants.{Field as FieldOf, Elements, Static}
use Rattle.dependence.specs.declared.facts.Fact.{Fact}
use Rattle.dependence.specs.declared.facts.Fact.TheVariants.{Reached, Holds, CellHolds, Target, Fork, Throws, Stalls}
use Rattle.dependence.specs.WideGraph.{insn_at, operand_of, pool_index, resolved_at, resolved_field_at, StandsWith, IsWideNode}
use Rattle.dependence.specs.NodePlaces.{CallAt, HasParameters, ArgumentPlace, Reads, WideReaches, named_by}
use Rattle.dependence.specs.MayBeNull.{is_move}
use Rattle.dependence.specs.FlowGraph.{AnInstance, AnObject, Fits, type_of_object, BasePlace, PlaceBelow, PlaceHolds, Raises, CatchesFirst, PassesAll}

-- ---- objects and instances that rules name

abbrev pub instance_at : ℕ → List ℕ → AnInstance
instance_at m context = record { method = m; context = context }

abbrev pub object_at : ℕ → List ℕ → AnObject
object_at site context = record { site = site; context = context }

-- all string constants are one object, and the entry's array is another: the first two sites
abbrev pub string_object : AnObject
string_object = object_at 0 []

abbrev pub args_object : AnObject
args_object = object_at 1 []

-- the number of the site at a pc: an allocation or a call, or an exception of a class that the machine makes there
abbrev pub SiteAt : Program → ℕ → ℕ → Option ℕ → ℕ → Type 0
SiteAt program m pc raised site = site_of (sites_of program.methods) m pc raised ≡ Some site

-- an object that an instance makes at a site
abbrev pub MadeBy : ContextPolicy → AnInstance → ℕ → AnObject → Type 0
MadeBy policy i site o = o ≡ object_at site (policy.heap i.context site)

-- ---- what stands at a pc of an instance

-- new, newarray and anewarray
abbrev pub makes_object : ℕ → Bool
makes_object op = within 187 189 op

abbrev pub is_text : Option Operand → Bool
is_text (Some (Text text)) = true
is_text _ = false

-- ldc and ldc_w of a String
abbrev pub LoadsText : Program → ℕ → ℕ → Type 0
LoadsText program m pc = StandsWith program m pc (λ op. within 18 19 op) × (is_text (operand_of program m (insn_at program m pc)) ≡ true)

-- the loads and stores of array elements, by their opcodes
abbrev pub is_array_load : ℕ → Bool
is_array_load op = within 46 53 op

abbrev pub is_array_store : ℕ → Bool
is_array_store op = within 79 86 op

-- a static field of type String with a first value
pub record IsTextField (program : Program) (f : ℕ) : Type 0 where
  pub field : Field
  pub found : slice_get program.fields f ≡ Some field
  pub is_static : has_flag static_flag field.flags ≡ true
  pub desc : field.desc ≡ codes "Ljava/lang/String;"
  pub has_value : is_text field.constant ≡ true

-- the instance runs, and Entry reaches the node in its wide graph
pub record RunsAt (program : Program) (facts : Fact (List ℕ) → Type 0) (i : InstKey (List ℕ)) (n : NodeKind) : Type 0 where
  pub reached : facts (Reached i)
  pub there : IsWideNode program i.method n

-- the base of the instruction at a pc may be an object
pub record BaseHolds (program : Program) (facts : Fact (List ℕ) → Type 0) (H : ℕ → ℕ → Type 0) (i : InstKey (List ℕ)) (pc : ℕ) (o : ObjKey (List ℕ)) : Type 0 where
  pub place : Place
  pub is_base : BasePlace program i.method H pc place
  pub holds : PlaceHolds program facts H i pc place o

-- so may what lies on top of the stack
pub record TopHolds (program : Program) (facts : Fact (List ℕ) → Type 0) (H : ℕ → ℕ → Type 0) (i : InstKey (List ℕ)) (pc : ℕ) (o : ObjKey (List ℕ)) : Type 0 where
  pub place : Place
  pub is_top : PlaceBelow program i.method H pc 1 place
  pub holds : PlaceHolds program facts H i pc place o

-- a place that a move reads may be an object
pub record MovedHolds (program : Program) (facts : Fact (List ℕ) → Type 0) (H : ℕ → ℕ → Type 0) (i : InstKey (List ℕ)) (pc : ℕ) (o : ObjKey (List ℕ)) : Type 0 where
  pub place : Place
  pub is_read : Reads program i.method H (Instr pc) place
  pub holds : PlaceHolds program facts H i pc place o

-- and so may an argument of a call
pub record ArgumentHolds (program : Program) (facts : Fact (List ℕ) → Type 0) (H : ℕ → ℕ → Type 0) (i : InstKey (List ℕ)) (pc k : ℕ) (o : ObjKey (List ℕ)) : Type 0 where
  pub place : Place
  pub is_argument : ArgumentPlace program i.method H pc k place
  pub holds : PlaceHolds program facts H i pc place o

-- ---- what calls take

-- what is taken is that method with code; or it is Thread.start, and the method is the `run` that the class selects
abbrev pub TakesSo : Program → Bool → Taken → ℕ → ℕ → Type 0
TakesSo program false taken class method = taken ≡ Code method
TakesSo program true taken class method = (taken ≡ Start) × (run_of program class ≡ Code method)

-- the call at a pc takes a static method with code
pub record CallsStatic (program : Program) (policy : ContextPolicy) (i : InstKey (List ℕ)) (pc : ℕ) (target : InstKey (List ℕ)) : Type 0 where
  pub call : CallAt program i.method pc
  pub is_static : (opcode_of call.insn == 184) ≡ true
  pub resolved : ℕ
  pub resolves : resolved_at program i.method pc ≡ Some resolved
  pub method : ℕ
  pub has_code : taken_from program (Some resolved) ≡ Code method
  pub site : ℕ
  pub is_site : SiteAt program i.method pc None site
  pub is : target ≡ instance_at method (policy.enter i.context site None)

-- the call at a pc takes a method with code for an object as its receiver, or starts a thread that runs it
pub record CallsOn (program : Program) (policy : ContextPolicy) (i : InstKey (List ℕ)) (pc : ℕ) (o : ObjKey (List ℕ)) (fork : Bool) (target : InstKey (List ℕ)) : Type 0 where
  pub call : CallAt program i.method pc
  pub is_instance : (opcode_of call.insn == 184) ≡ false
  pub named : Fits program o call.ref.owner
  pub own : TypeRef
  pub is_own : type_of_object program o ≡ Some own
  pub current : Method
  pub is_current : method_at program i.method ≡ Some current
  pub resolved : ℕ
  pub resolves : resolved_at program i.method pc ≡ Some resolved
  pub method : ℕ
  pub takes_it : TakesSo program fork (takes program (opcode_of call.insn) current.class resolved (receiver_class own)) (receiver_class own) method
  pub site : ℕ
  pub is_site : SiteAt program i.method pc None site
  pub is : target ≡ instance_at method (policy.enter i.context site (Some (receiver_at o.site o.context)))

-- an instance method has its receiver as its first parameter
abbrev pub IsReceiver : Program → ℕ → ℕ → Type 0
IsReceiver program m k = (k ≡ 0) × ((method : Method) × (method_at program m ≡ Some method) × (has_flag static_flag method.flags ≡ false))

-- a call has a target, which runs in the same thread or in a new one
abbrev pub IsTarget : (Fact (List ℕ) → Type 0) → AnInstance → ℕ → AnInstance → Type 0
IsTarget facts i pc j = facts (Target i pc j) ⊎ facts (Fork i pc j)

-- a target in the same thread of some call of an instance
abbrev pub CallsInThread : (Fact (List ℕ) → Type 0) → AnInstance → AnInstance → Type 0
CallsInThread facts i j = (pc : ℕ) × facts (Target i pc j)

-- ---- the rules

-- A fact follows from others by one rule, in a program with this entry.
pub data ByRule (program : Program) (policy : ContextPolicy) (H : ℕ → ℕ → ℕ → Type 0) (entry : ℕ) (facts : Fact (List ℕ) → Type 0) : Fact (List ℕ) → Type 0 where
  -- the program: its entry runs, on an array of strings where it has a parameter, and fields have their first values
  enters : (i : InstKey (List ℕ)) → i ≡ instance_at entry [] → ByRule program policy H entry facts (Reached i)
  is_given : (i : InstKey (List ℕ)) (count : ℕ) → i ≡ instance_at entry [] → HasParameters program entry count → 0 < count
      → ByRule program policy H entry facts (Holds i (Param 0) args_object)
  begins_with : (f : ℕ) → IsTextField program f → ByRule program policy H entry facts (CellHolds (Static f) string_object)
  -- what makes objects
  makes : (i : InstKey (List ℕ)) (pc site : ℕ) (o : ObjKey (List ℕ)) → RunsAt program facts i (Instr pc) → StandsWith program i.method pc makes_object
      → SiteAt program i.method pc None site → MadeBy policy i site o → ByRule program policy H entry facts (Holds i (Instr pc) o)
  loads_text : (i : InstKey (List ℕ)) (pc : ℕ) → RunsAt program facts i (Instr pc) → LoadsText program i.method pc
      → ByRule program policy H entry facts (Holds i (Instr pc) string_object)
  -- what hands objects on; checkcast drops none
  moves : (i : InstKey (List ℕ)) (pc : ℕ) (o : ObjKey (List ℕ)) → RunsAt program facts i (Instr pc) → StandsWith program i.method pc is_move
      → MovedHolds program facts (H i.method) i pc o → ByRule program policy H entry facts (Holds i (Instr pc) o)
  passes : (i : InstKey (List ℕ)) (pc k : ℕ) (o : ObjKey (List ℕ)) → RunsAt program facts i (Call pc)
      → ArgumentHolds program facts (H i.method) i pc k o → ByRule program policy H entry facts (Holds i (Arg pc k) o)
  -- loads
  loads_field : (i : InstKey (List ℕ)) (pc f : ℕ) (base o : ObjKey (List ℕ)) → RunsAt program facts i (Instr pc) → StandsWith program i.method pc (λ op. op == 180)
      → resolved_field_at program i.method pc ≡ Some f → BaseHolds program facts (H i.method) i pc base → facts (CellHolds (FieldOf f base) o)
      → ByRule program policy H entry facts (Holds i (Instr pc) o)
  loads_element : (i : InstKey (List ℕ)) (pc : ℕ) (base o : ObjKey (List ℕ)) → RunsAt program facts i (Instr pc) → StandsWith program i.method pc is_array_load
      → BaseHolds program facts (H i.method) i pc base → facts (CellHolds (Elements base) o) → ByRule program policy H entry facts (Holds i (Instr pc) o)
  loads_static : (i : InstKey (List ℕ)) (pc f : ℕ) (o : ObjKey (List ℕ)) → RunsAt program facts i (Instr pc) → StandsWith program i.method pc (λ op. op == 178)
      → resolved_field_at program i.method pc ≡ Some f → facts (CellHolds (Static f) o) → ByRule program policy H entry facts (Holds i (Instr pc) o)
  -- stores
  stores_field : (i : InstKey (List ℕ)) (pc f : ℕ) (base o : ObjKey (List ℕ)) → RunsAt program facts i (Instr pc) → StandsWith program i.method pc (λ op. op == 181)
      → resolved_field_at program i.method pc ≡ Some f → BaseHolds program facts (H i.method) i pc base → TopHolds program facts (H i.method) i pc o
      → ByRule program policy H entry facts (CellHolds (FieldOf f base) o)
  stores_element : (i : InstKey (List ℕ)) (pc : ℕ) (base o : ObjKey (List ℕ)) → RunsAt program facts i (Instr pc) → StandsWith program i.method pc is_array_store
      → BaseHolds program facts (H i.method) i pc base → TopHolds program facts (H i.method) i pc o → ByRule program policy H entry facts (CellHolds (Elements base) o)
  stores_static : (i : InstKey (List ℕ)) (pc f : ℕ) (o : ObjKey (List ℕ)) → RunsAt program facts i (Instr pc) → StandsWith program i.method pc (λ op. op == 179)
      → resolved_field_at program i.method pc ≡ Some f → TopHolds program facts (H i.method) i pc o → ByRule program policy H entry facts (CellHolds (Static f) o)
  -- what is thrown at an instruction: an exception that the machine makes, or the operand of athrow
  raises : (i : InstKey (List ℕ)) (pc site : ℕ) (cause : Cause) (o : ObjKey (List ℕ)) → RunsAt program facts i (Throw pc) → Raises program facts (H i.method) i pc cause
      → SiteAt program i.method pc (Some (class_raised cause)) site → MadeBy policy i site o → ByRule program policy H entry facts (Holds i (Throw pc) o)
  throws : (i : InstKey (List ℕ)) (pc : ℕ) (o : ObjKey (List ℕ)) → RunsAt program facts i (Throw pc) → StandsWith program i.method pc (λ op. op == 191)
      → TopHolds program facts (H i.method) i pc o → ByRule program policy H entry facts (Holds i (Throw pc) o)
  -- calls
  calls_static : (i j : InstKey (List ℕ)) (pc : ℕ) → RunsAt program facts i (Call pc) → CallsStatic program policy i pc j
      → ByRule program policy H entry facts (Target i pc j)
  calls_on : (i j : InstKey (List ℕ)) (pc : ℕ) (o : ObjKey (List ℕ)) → RunsAt program facts i (Call pc) → facts (Holds i (Arg pc 0) o)
      → CallsOn program policy i pc o false j → ByRule program policy H entry facts (Target i pc j)
  starts : (i j : InstKey (List ℕ)) (pc : ℕ) (o : ObjKey (List ℕ)) → RunsAt program facts i (Call pc) → facts (Holds i (Arg pc 0) o)
      → CallsOn program policy i pc o true j → ByRule program policy H entry facts (Fork i pc j)
  -- what a target is given: as its receiver an object for which the call takes it
  is_called : (i j : InstKey (List ℕ)) (pc : ℕ) → facts (Reached i) → IsTarget facts i pc j → ByRule program policy H entry facts (Reached j)
  is_given_receiver : (i j : InstKey (List ℕ)) (pc k : ℕ) (o : ObjKey (List ℕ)) (fork : Bool) → facts (Reached i) → IsTarget facts i pc j → IsReceiver program j.method k
      → facts (Holds i (Arg pc k) o) → CallsOn program policy i pc o fork j → ByRule program policy H entry facts (Holds j (Param k) o)
  is_given_argument : (i j : InstKey (List ℕ)) (pc k : ℕ) (o : ObjKey (List ℕ)) → facts (Reached i) → IsTarget facts i pc j → (IsReceiver program j.method k → ⊥)
      → facts (Holds i (Arg pc k) o) → ByRule program policy H entry facts (Holds j (Param k) o)
  -- results
  returns : (i : InstKey (List ℕ)) (pc : ℕ) (o : ObjKey (List ℕ)) → RunsAt program facts i (Instr pc) → StandsWith program i.method pc (λ op. op == 176)
      → TopHolds program facts (H i.method) i pc o → ByRule program policy H entry facts (Holds i Value o)
  comes_back : (i j : InstKey (List ℕ)) (pc : ℕ) (o : ObjKey (List ℕ)) → facts (Reached i) → facts (Target i pc j) → facts (Holds j Value o)
      → ByRule program policy H entry facts (Holds i (RetVal pc) o)
  -- exceptions: the first row that the object's class fits, else the caller
  is_caught : (i : InstKey (List ℕ)) (pc k : ℕ) (o : ObjKey (List ℕ)) → facts (Reached i) → facts (Holds i (Throw pc) o) → CatchesFirst program i.method pc k o
      → ByRule program policy H entry facts (Holds i (Catch k) o)
  leaves : (i : InstKey (List ℕ)) (pc : ℕ) (o : ObjKey (List ℕ)) → facts (Reached i) → facts (Holds i (Throw pc) o) → PassesAll program i.method pc o
      → ByRule program policy H entry facts (Holds i Thrown o)
  ends_so : (i : InstKey (List ℕ)) (pc : ℕ) (o : ObjKey (List ℕ)) → facts (Reached i) → facts (Holds i (Throw pc) o) → PassesAll program i.method pc o
      → ByRule program policy H entry facts (Throws i)
  comes_out : (i j : InstKey (List ℕ)) (pc : ℕ) (o : ObjKey (List ℕ)) → facts (Reached i) → facts (Target i pc j) → facts (Holds j Thrown o)
      → ByRule program policy H entry facts (Holds i (Throw pc) o)
  -- what may never end: a loop, a call of what may never end, a cycle of calls
  loops : (i : InstKey (List ℕ)) (pc target : ℕ) → RunsAt program facts i (Poll pc target) → ByRule program policy H entry facts (Stalls i)
  loops_caught : (i : InstKey (List ℕ)) (pc k : ℕ) → RunsAt program facts i (XPoll pc k) → ByRule program policy H entry facts (Stalls i)
  waits : (i j : InstKey (List ℕ)) (pc : ℕ) → facts (Reached i) → facts (Target i pc j) → facts (Stalls j) → ByRule program policy H entry facts (Stalls i)
  recurs : (i j : InstKey (List ℕ)) → facts (Reached i) → CallsInThread facts i j → Path (CallsInThread facts) j i → ByRule program policy H entry facts (Stalls i)

-- ---- the facts of a program

-- each fact of a list follows from those behind it
pub data IsDerivation (program : Program) (policy : ContextPolicy) (H : ℕ → ℕ → ℕ → Type 0) (entry : ℕ) : List (Fact (List ℕ)) → Type 0 where
  nothing : IsDerivation program policy H entry []
  more : (fact : Fact (List ℕ)) (facts : List (Fact (List ℕ))) → ByRule program policy H entry (Contains facts) fact → IsDerivation program policy H entry facts
      → IsDerivation program policy H entry (fact ∷ facts)

-- some derivation holds it
pub record Derivable (program : Program) (policy : ContextPolicy) (H : ℕ → ℕ → ℕ → Type 0) (entry : ℕ) (fact : Fact (List ℕ)) : Type 0 where
  pub facts : List (Fact (List ℕ))
  pub derivation : IsDerivation program policy H entry facts
  pub there : Contains facts fact

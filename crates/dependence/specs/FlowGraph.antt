-- The flow graph of an instance, by given facts: the wide graph without the exception edges that no fact asks for (this project's
-- own). Facts speak of contexts as lists of sites. What may be raised is said positively: by some definition, or some held object.
use Rattle.std.specs.Prelude.{◌≡◌, ◌≢◌, ◌⊎◌, ℕ, ◌+◌, ◌-◌, ◌<◌, ◌≤◌, Bool, true, false, not, ◌==◌, if◌then◌else◌, ℤ, pos, int_lt, List, [], ◌∷◌, Contains, Option, Some, None, slice_get, option_and_then}
use Rattle.std.specs.Ordering.{int_eq}
use Rattle.jo_ids.specs.Path.{Path}
use Rattle.jo_ids.specs.declared.ObjKey.{ObjKey}
use Rattle.jo_text.specs.declared.descriptors.FieldDesc.{FieldDesc}
use Rattle.jo_text.specs.declared.descriptors.Base.{Base}
use Rattle.jo_text.specs.declared.descriptors.Base.TheVariants.{Byte, Char, Int as IntBase, Short, Boolean, Class as OfName}
use Rattle.jo_insn.specs.declared.instructions.Insn.{Insn}
use Rattle.jo_insn.specs.declared.instructions.Insn.TheVariants.{Array as ArrayInsn}
use Rattle.jo_prog.specs.declared.program.Program.{Program}
use Rattle.jo_prog.specs.declared.program.Class.{Class}
use Rattle.jo_prog.specs.declared.program.Method.{Method}
use Rattle.jo_prog.specs.declared.program.Row.{Row}
use Rattle.jo_prog.specs.declared.program.TypeRef.{TypeRef}
use Rattle.jo_prog.specs.declared.program.TypeRef.TheVariants.{Class as OfClass, Array as OfArray}
use Rattle.jo_prog.specs.declared.program.Operand.{Operand}
use Rattle.jo_prog.specs.declared.program.Operand.TheVariants.{OfType}
use Rattle.jo_prog.specs.declared.sites.Site.{Site}
use Rattle.jo_prog.specs.declared.sites.Site.TheVariants.{Text, Args, Alloc, Call as CallSite, Raise}
use Rattle.jo_prog.specs.declared.sites.Cause.{Cause}
use Rattle.jo_prog.specs.declared.sites.Cause.TheVariants.{ZeroDivisor, NullBase, FailingCast, WrongElement, NegativeLength, BadIndex, SecondStart, MissingInterface}
use Rattle.jo_prog.specs.declared.calls.Taken.TheVariants.{Start}
use Rattle.jo_prog.specs.PreludeClasses.{string_class, string_name}
use Rattle.jo_prog.specs.Operations.{within}
use Rattle.jo_prog.specs.Program.{method_at, class_at}
use Rattle.jo_prog.specs.Types.{type_fits}
use Rattle.jo_prog.specs.Calls.{receiver_class, takes}
use Rattle.jo_prog.specs.Sites.{opcode_of, may_raise, is_array_access, sites_of}
use Rattle.dep_nodes.specs.declared.kinds.NodeKind.{NodeKind}
use Rattle.dep_nodes.specs.declared.kinds.NodeKind.TheVariants.{Entry, Exit, Instr, Call, RetKind, Throw, Catch, XPoll, Arg}
use Rattle.dependence.specs.declared.flow.Place.{Place}
use Rattle.dependence.specs.declared.flow.Place.TheVariants.{Stack}
use Rattle.dependence.specs.declared.facts.InstKey.{InstKey}
use Rattle.dependence.specs.declared.facts.Fact.{Fact}
use Rattle.dependence.specs.declared.facts.Fact.TheVariants.{Holds, Target, Throws, Stalls}
use Rattle.dependence.specs.WideGraph.{insn_at, row_at, operand_of, resolved_at, is_call, node_of_insn, StandsWith, WideEdge, Covers}
use Rattle.dependence.specs.NodePlaces.{CallAt, argument_count, named_by, WideReaches}
use Rattle.dependence.specs.MayBeNull.{MayBeNull, constant_at}

-- ---- instances, objects and facts, with contexts as lists of sites

abbrev pub AnInstance : Type 0
AnInstance = InstKey (List ℕ)

abbrev pub AnObject : Type 0
AnObject = ObjKey (List ℕ)

abbrev pub Facts : Type 1
Facts = Fact (List ℕ) → Type 0

-- ---- the type of an object, by its site

abbrev pub element_base : ℕ → Option Base
element_base kind =
    if kind == 4 then Some Boolean
    else if kind == 5 then Some Char
    else if kind == 8 then Some Byte
    else if kind == 9 then Some Short
    else if kind == 10 then Some IntBase
    else None

abbrev pub array_with : ℕ → Option Base → Option TypeRef
array_with dims None = None
array_with dims (Some base) = Some (OfArray (record { dims = dims; base = base }))

-- the array type whose elements have a type (4.3.2)
abbrev pub array_over : Program → TypeRef → Option TypeRef
array_over program (OfArray desc) = Some (OfArray (record { dims = desc.dims + 1; base = desc.base }))
array_over program (OfClass c) = of_class (class_at program c)
  where
    of_class : Option Class → Option TypeRef
    of_class None = None
    of_class (Some class) = array_with 1 (Some (OfName class.name))

abbrev pub type_in : Option Operand → Option TypeRef
type_in (Some (OfType type)) = Some type
type_in _ = None

-- what new (187), newarray (188) and anewarray (189) make
abbrev pub type_made : Program → ℕ → Option (Insn × ℕ) → Option TypeRef
type_made program m None = None
type_made program m (Some (ArrayInsn kind, next)) = array_with 1 (element_base kind)
type_made program m (Some (insn, next)) =
    if opcode_of insn == 187 then type_in (operand_of program m (Some (insn, next)))
    else option_and_then (array_over program) (type_in (operand_of program m (Some (insn, next))))

-- the string constants, the entry's array of strings, an allocation, and an exception that the machine raises
abbrev pub type_of_site : Program → Option Site → Option TypeRef
type_of_site program None = None
type_of_site program (Some Text) = Some (OfClass string_class)
type_of_site program (Some Args) = array_with 1 (Some (OfName string_name))
type_of_site program (Some (Alloc method pc)) = type_made program method (insn_at program method pc)
type_of_site program (Some (CallSite method pc)) = None
type_of_site program (Some (Raise method pc class)) = Some (OfClass class)

abbrev pub type_of_object : Program → AnObject → Option TypeRef
type_of_object program o = type_of_site program (slice_get (sites_of program.methods) o.site)

-- the type of an object is a subtype
abbrev pub Fits : Program → AnObject → TypeRef → Type 0
Fits program o type = (own : TypeRef) × (type_of_object program o ≡ Some own) × (type_fits program own type ≡ true)

abbrev pub FailsToFit : Program → AnObject → TypeRef → Type 0
FailsToFit program o type = (own : TypeRef) × (type_of_object program o ≡ Some own) × (type_fits program own type ≡ false)

-- ---- what an instruction asks of its operands

-- the instruction at a pc with its opcode and the height there
pub record Standing (program : Program) (m : ℕ) (H : ℕ → ℕ → Type 0) (pc : ℕ) : Type 0 where
  pub insn : Insn
  pub next : ℕ
  pub is : insn_at program m pc ≡ Some (insn, next)
  pub height : ℕ
  pub has_height : H pc height

-- How far below the top the base stands, counted from 1: the array of a load, of a store and of arraylength, the object of getfield
-- and putfield, the operand of athrow. That of a call is its first argument.
abbrev pub base_depth : ℕ → ℕ
base_depth op =
    if within 46 53 op then 2
    else if within 79 86 op then 3
    else if op == 181 then 2
    else 1

-- the place of the base of the instruction at a pc
pub data BasePlace (program : Program) (m : ℕ) (H : ℕ → ℕ → Type 0) (pc : ℕ) : Place → Type 0 where
  of_insn : (at : Standing program m H pc) (v : Place) → is_call (opcode_of at.insn) ≡ false → v ≡ Stack (at.height - base_depth (opcode_of at.insn)) → BasePlace program m H pc v
  of_call : (at : Standing program m H pc) (call : CallAt program m pc) (v : Place) → v ≡ Stack (at.height - argument_count (opcode_of call.insn) call.desc) → BasePlace program m H pc v

-- the place so far below the top at a pc, counted from 1
abbrev pub PlaceBelow : Program → ℕ → (ℕ → ℕ → Type 0) → ℕ → ℕ → Place → Type 0
PlaceBelow program m H pc depth v = (at : Standing program m H pc) × (v ≡ Stack (at.height - depth))

-- a definition of a place arrives at the instruction at a pc
abbrev pub Arrives : Program → ℕ → (ℕ → ℕ → Type 0) → ℕ → Place → NodeKind → Type 0
Arrives program m H pc v d = (at : Standing program m H pc) × WideReaches program m H v d (node_of_insn pc at.insn)

-- a place holds an object at a pc of an instance: some definition that arrives does
pub record PlaceHolds (program : Program) (facts : Fact (List ℕ) → Type 0) (H : ℕ → ℕ → Type 0) (i : InstKey (List ℕ)) (pc : ℕ) (v : Place) (o : ObjKey (List ℕ)) : Type 0 where
  pub d : NodeKind
  pub arrives : Arrives program i.method H pc v d
  pub holds : facts (Holds i (named_by d v) o)

-- ---- which exceptions may be raised

abbrev pub is_not_zero : ℤ → Bool
is_not_zero z = not (int_eq z (pos 0))

abbrev pub is_not_negative : ℤ → Bool
is_not_negative z = not (int_lt z (pos 0))

-- no int constant, or one for which the test fails
abbrev pub IsUnlike : Option ℤ → (ℤ → Bool) → Type 0
IsUnlike None good = Unit {0}
IsUnlike (Some z) good = good z ≡ false

-- an object is no element of an array: the array type over its type is no subtype of the array's (arrays are covariant, 4.10.1.2)
pub record IsNoElement (program : Program) (array value : ObjKey (List ℕ)) : Type 0 where
  pub desc : FieldDesc
  pub array_type : type_of_object program array ≡ Some (OfArray desc)
  pub own : TypeRef
  pub value_type : type_of_object program value ≡ Some own
  pub over : TypeRef
  pub is_over : array_over program own ≡ Some over
  pub fails : type_fits program over (OfArray desc) ≡ false

-- the receiver's type is below the class that the call names, and the call takes Thread.start for it
pub record TakesStart (program : Program) (m pc : ℕ) (call : CallAt program m pc) (o : ObjKey (List ℕ)) : Type 0 where
  pub named : Fits program o call.ref.owner
  pub own : TypeRef
  pub is_own : type_of_object program o ≡ Some own
  pub method : Method
  pub is_method : method_at program m ≡ Some method
  pub resolved : ℕ
  pub resolves : resolved_at program m pc ≡ Some resolved
  pub starts : takes program (opcode_of call.insn) method.class resolved (receiver_class own) ≡ Start

-- The instruction at a pc may raise the exception of a cause, by what its operands may be in the instance.
pub data Raises (program : Program) (facts : Fact (List ℕ) → Type 0) (H : ℕ → ℕ → Type 0) (i : InstKey (List ℕ)) (pc : ℕ) : Cause → Type 0 where
  null_base : (v : Place) (d : NodeKind) → StandsWith program i.method pc (may_raise NullBase) → BasePlace program i.method H pc v
      → Arrives program i.method H pc v d → MayBeNull program i.method H d v → Raises program facts H i pc NullBase
  zero_divisor : (v : Place) (d : NodeKind) → StandsWith program i.method pc (may_raise ZeroDivisor) → PlaceBelow program i.method H pc 1 v
      → Arrives program i.method H pc v d → IsUnlike (constant_at program i.method d) is_not_zero → Raises program facts H i pc ZeroDivisor
  negative_length : (v : Place) (d : NodeKind) → StandsWith program i.method pc (may_raise NegativeLength) → PlaceBelow program i.method H pc 1 v
      → Arrives program i.method H pc v d → IsUnlike (constant_at program i.method d) is_not_negative → Raises program facts H i pc NegativeLength
  bad_index : StandsWith program i.method pc (may_raise BadIndex) → Raises program facts H i pc BadIndex
  failing_cast : (v : Place) (o : ObjKey (List ℕ)) (type : TypeRef) → StandsWith program i.method pc (may_raise FailingCast) → PlaceBelow program i.method H pc 1 v
      → PlaceHolds program facts H i pc v o → type_in (operand_of program i.method (insn_at program i.method pc)) ≡ Some type → FailsToFit program o type
      → Raises program facts H i pc FailingCast
  wrong_element : (v w : Place) (array value : ObjKey (List ℕ)) → StandsWith program i.method pc (may_raise WrongElement)
      → PlaceBelow program i.method H pc 3 v → PlaceHolds program facts H i pc v array → PlaceBelow program i.method H pc 1 w → PlaceHolds program facts H i pc w value
      → IsNoElement program array value → Raises program facts H i pc WrongElement
  second_start : (v : Place) (o : ObjKey (List ℕ)) (call : CallAt program i.method pc) → StandsWith program i.method pc (may_raise SecondStart)
      → BasePlace program i.method H pc v → PlaceHolds program facts H i pc v o → TakesStart program i.method pc call o → Raises program facts H i pc SecondStart
  missing_interface : (v : Place) (o : ObjKey (List ℕ)) (call : CallAt program i.method pc) → StandsWith program i.method pc (may_raise MissingInterface)
      → BasePlace program i.method H pc v → PlaceHolds program facts H i pc v o → FailsToFit program o call.ref.owner → Raises program facts H i pc MissingInterface

-- ---- which rows catch

-- a row over a pc catches an object: its class, or every object
abbrev pub RowFits : Program → Option TypeRef → ObjKey (List ℕ) → Type 0
RowFits program None o = Unit {0}
RowFits program (Some type) o = Fits program o type

abbrev pub Catches : Program → ℕ → ℕ → ℕ → ObjKey (List ℕ) → Type 0
Catches program m pc k o = (row : Row) × (row_at program m k ≡ Some row) × (row.start ≤ pc) × (pc < row.end) × RowFits program row.catches o

-- row k is the first over a pc that catches the object (2.10)
pub record CatchesFirst (program : Program) (m pc k : ℕ) (o : ObjKey (List ℕ)) : Type 0 where
  pub catches : Catches program m pc k o
  pub first : (j : ℕ) → j < k → Catches program m pc j o → ⊥

-- no row over a pc catches the object
abbrev pub PassesAll : Program → ℕ → ℕ → ObjKey (List ℕ) → Type 0
PassesAll program m pc o = (k : ℕ) → Catches program m pc k o → ⊥

-- ---- the edges that are kept

-- what an edge to Throw from the instruction itself asks for
abbrev pub MayThrowAt : Program → (Fact (List ℕ) → Type 0) → (ℕ → ℕ → Type 0) → InstKey (List ℕ) → ℕ → Type 0
MayThrowAt program facts H i pc = ((cause : Cause) × Raises program facts H i pc cause) ⊎ StandsWith program i.method pc (λ op. op == 191)

-- a target that runs in the same thread ends so
abbrev pub TargetEnds : (Fact (List ℕ) → Type 0) → InstKey (List ℕ) → ℕ → (InstKey (List ℕ) → Fact (List ℕ)) → Type 0
TargetEnds facts i pc ends = (j : InstKey (List ℕ)) × facts (Target i pc j) × facts (ends j)

-- the condition of an edge, by its kind; an edge of another kind has none
abbrev pub KeptFrom : Program → (Fact (List ℕ) → Type 0) → (ℕ → ℕ → Type 0) → InstKey (List ℕ) → NodeKind → NodeKind → Type 0
KeptFrom program facts H i (Instr pc) b = to_throw b
  where
    to_throw : NodeKind → Type 0
    to_throw (Throw p) = MayThrowAt program facts H i pc
    to_throw _ = Unit {0}
KeptFrom program facts H i (Call pc) b = to_throw b
  where
    to_throw : NodeKind → Type 0
    to_throw (Throw p) = MayThrowAt program facts H i pc
    to_throw _ = Unit {0}
KeptFrom program facts H i (RetKind pc) b = back b
  where
    back : NodeKind → Type 0
    back (Throw p) = TargetEnds facts i pc Throws
    back Exit = TargetEnds facts i pc Stalls
    back _ = Unit {0}
KeptFrom program facts H i (Throw pc) b = on b
  where
    on : NodeKind → Type 0
    on (Catch k) = (o : ObjKey (List ℕ)) × facts (Holds i (Throw pc) o) × CatchesFirst program i.method pc k o
    on (XPoll p k) = (o : ObjKey (List ℕ)) × facts (Holds i (Throw pc) o) × CatchesFirst program i.method pc k o
    on Exit = (o : ObjKey (List ℕ)) × facts (Holds i (Throw pc) o) × PassesAll program i.method pc o
    on _ = Unit {0}
KeptFrom program facts H i _ b = Unit {0}

-- a wide edge whose condition holds
pub record FlowStep (program : Program) (facts : Fact (List ℕ) → Type 0) (H : ℕ → ℕ → Type 0) (i : InstKey (List ℕ)) (a b : NodeKind) : Type 0 where
  pub wide : WideEdge program i.method a b
  pub kept : KeptFrom program facts H i a b

-- the flow graph has the nodes that Entry then reaches
abbrev pub IsNodeOf : Program → (Fact (List ℕ) → Type 0) → (ℕ → ℕ → Type 0) → InstKey (List ℕ) → NodeKind → Type 0
IsNodeOf program facts H i n = Path (FlowStep program facts H i) Entry n

pub record EdgeOf (program : Program) (facts : Fact (List ℕ) → Type 0) (H : ℕ → ℕ → Type 0) (i : InstKey (List ℕ)) (a b : NodeKind) : Type 0 where
  pub step : FlowStep program facts H i a b
  pub there : IsNodeOf program facts H i a

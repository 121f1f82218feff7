-- What makes an instruction raise an exception, use by use: all that raises by an operand raises by the base of the instruction (this
-- project's own form).
use Rattle.std.specs.Prelude.{◌≡◌, ◌↔◌, ◌⊎◌, ℕ, Bool, true, List, [], Contains, Some, slice_get, IsSomeAnd}
use Rattle.jo_ids.specs.declared.ObjKey.{ObjKey}
use Rattle.jo_ids.specs.Rows.{has_number}
use Rattle.jo_insn.specs.declared.instructions.Insn.{Insn}
use Rattle.jo_prog.specs.declared.program.Program.{Program}
use Rattle.jo_prog.specs.declared.program.TypeRef.{TypeRef}
use Rattle.jo_prog.specs.declared.sites.Cause.TheVariants.{ZeroDivisor, NullBase, FailingCast, NegativeLength, SecondStart, MissingInterface}
use Rattle.jo_prog.specs.declared.program.Method.{Method}
use Rattle.jo_prog.specs.declared.calls.Taken.TheVariants.{Start}
use Rattle.jo_prog.specs.Program.{method_at}
use Rattle.jo_prog.specs.Types.{type_fits}
use Rattle.jo_prog.specs.Calls.{receiver_class, takes}
use Rattle.jo_prog.specs.Sites.{opcode_of, may_raise}
use Rattle.dep_nodes.specs.declared.kinds.NodeKind.{NodeKind}
use Rattle.dependence.specs.declared.flow.Place.{Place}
use Rattle.dependence.specs.declared.flows.FlowRow.{FlowRow}
use Rattle.dependence.specs.declared.flows.Use.{Use}
use Rattle.dependence.specs.declared.facts.Fact.{Fact}
use Rattle.dependence.specs.declared.facts.Fact.TheVariants.{Holds}
use Rattle.dependence.specs.FlowData.{IsUse}
use Rattle.dependence.specs.GraphsAsData.{kind_at}
use Rattle.dependence.specs.WideGraph.{insn_at, operand_of, is_call, node_of_insn}
use Rattle.dependence.specs.NodePlaces.{CallAt, named_by}
use Rattle.dependence.specs.MayBeNull.{MayBeNull, constant_at}
use Rattle.dependence.specs.FlowGraph.{AnInstance, AnObject, BasePlace, FailsToFit, TakesStart, IsUnlike, is_not_zero, is_not_negative, type_in, MayThrowAt}
use Rattle.instance_flows.specs.NodeTests.{standing_by, always_raises}

-- a method by itself: what is asked of it depends on no context
abbrev pub alone : ℕ → AnInstance
alone m = record { method = m; context = [] }

-- what stands at a pc, and names a method where it is a call
pub record IsCallWhereCalling (program : Program) (m pc : ℕ) (insn : Insn) : Type 0 where
  pub next : ℕ
  pub stands : insn_at program m pc ≡ Some (insn, next)
  pub calls : is_call (opcode_of insn) ≡ true → CallAt program m pc

-- a call of the resolved method takes Thread.start for a receiver of that type, which fits what the call names
pub record TakesStartOf (program : Program) (m op : ℕ) (named : TypeRef) (resolved : ℕ) (own : TypeRef) : Type 0 where
  pub fits : type_fits program own named ≡ true
  pub method : Method
  pub is_method : method_at program m ≡ Some method
  pub starts : takes program op method.class resolved (receiver_class own) ≡ Start

-- ---- an object at the base

-- a cast to a type that it doesn't fit
pub record FailsCast (program : Program) (m pc op : ℕ) (o : ObjKey (List ℕ)) : Type 0 where
  pub may : may_raise FailingCast op ≡ true
  pub type : TypeRef
  pub named : type_in (operand_of program m (insn_at program m pc)) ≡ Some type
  pub fails : FailsToFit program o type

-- a call that starts its thread, or of an interface that its class doesn't implement
pub record StartsAgain (program : Program) (m pc op : ℕ) (o : ObjKey (List ℕ)) : Type 0 where
  pub may : may_raise SecondStart op ≡ true
  pub call : CallAt program m pc
  pub starts : TakesStart program m pc call o

pub record LacksInterface (program : Program) (m pc op : ℕ) (o : ObjKey (List ℕ)) : Type 0 where
  pub may : may_raise MissingInterface op ≡ true
  pub call : CallAt program m pc
  pub fails : FailsToFit program o call.ref.owner

abbrev pub ObjectRaises : Program → ℕ → ℕ → ℕ → AnObject → Type 0
ObjectRaises program m pc op o = FailsCast program m pc op o ⊎ (StartsAgain program m pc op o ⊎ LacksInterface program m pc op o)

-- ---- a definition of the base

-- an object that is held as that definition
pub record HoldsRaising (program : Program) (facts : Fact (List ℕ) → Type 0) (m pc op : ℕ) (d : NodeKind) (v : Place) : Type 0 where
  pub o : ObjKey (List ℕ)
  pub holds : facts (Holds (alone m) (named_by d v) o)
  pub raises : ObjectRaises program m pc op o

abbrev pub NullRaises : Program → (ℕ → ℕ → Type 0) → ℕ → ℕ → NodeKind → Place → Type 0
NullRaises program H m op d v = (may_raise NullBase op ≡ true) × MayBeNull program m H d v

-- null, or an int that the instruction can't take
abbrev pub OperandRaises : Program → (ℕ → ℕ → Type 0) → ℕ → ℕ → NodeKind → Place → Type 0
OperandRaises program H m op d v =
    NullRaises program H m op d v
    ⊎ (((may_raise ZeroDivisor op ≡ true) × IsUnlike (constant_at program m d) is_not_zero)
    ⊎ ((may_raise NegativeLength op ≡ true) × IsUnlike (constant_at program m d) is_not_negative))

abbrev pub ValueRaises : Program → (Fact (List ℕ) → Type 0) → (ℕ → ℕ → Type 0) → ℕ → ℕ → ℕ → NodeKind → Place → Type 0
ValueRaises program facts H m pc op d v = OperandRaises program H m op d v ⊎ HoldsRaising program facts m pc op d v

-- ---- uses by number

-- the use is at the node of the instruction at a pc
pub record UseAt (program : Program) (m : ℕ) (wide : List FlowRow) (u : Use) (pc : ℕ) (insn : Insn) : Type 0 where
  pub next : ℕ
  pub stands : insn_at program m pc ≡ Some (insn, next)
  pub node : kind_at wide u.node ≡ Some (node_of_insn pc insn)
  pub is_use : IsUse wide u

-- the definition of the use makes its node raise an exception
pub record UseRaises (program : Program) (facts : Fact (List ℕ) → Type 0) (H : ℕ → ℕ → Type 0) (m : ℕ) (wide : List FlowRow) (u : Use) : Type 0 where
  pub pc : ℕ
  pub insn : Insn
  pub at : UseAt program m wide u pc insn
  pub base : BasePlace program m H pc u.place
  pub d : NodeKind
  pub defines : kind_at wide u.from ≡ Some d
  pub raises : ValueRaises program facts H m pc (opcode_of insn) d u.place

-- ---- nodes by number

abbrev pub AlwaysAt : List FlowRow → ℕ → Type 0
AlwaysAt wide n = IsSomeAnd (slice_get wide n) (λ row. always_raises (standing_by row.node.kind row.node.insn) ≡ true)

-- the set has the nodes that raise an exception always, or by one of these uses
abbrev pub AreRaisingBy : Program → (Fact (List ℕ) → Type 0) → (ℕ → ℕ → Type 0) → ℕ → List FlowRow → List Use → List Bool → Type 0
AreRaisingBy program facts H m wide uses raising =
    (n : ℕ) → (has_number raising n ≡ true) ↔ (AlwaysAt wide n ⊎ ((u : Use) × Contains uses u × (u.node ≡ n) × UseRaises program facts H m wide u))

-- the set has those instructions that may throw at their own pc
pub record AreRaising (program : Program) (facts : Fact (List ℕ) → Type 0) (H : ℕ → ℕ → Type 0) (m : ℕ) (wide : List FlowRow) (raising : List Bool) : Type 0 where
  pub each : (n pc next : ℕ) (insn : Insn) → insn_at program m pc ≡ Some (insn, next) → kind_at wide n ≡ Some (node_of_insn pc insn)
      → (has_number raising n ≡ true) ↔ MayThrowAt program facts H (alone m) pc

-- What a call takes, and what its targets are given, call by call (this project's own form).
use Rattle.std.specs.Prelude.{◌≡◌, ◌⊎◌, ℕ, ◌<◌, ◌==◌, if◌then◌else◌, Bool, true, false, not, List, Contains, Option, Some, None, option_map, slice_get}
use Rattle.jo_ids.specs.declared.ObjKey.{ObjKey}
use Rattle.jo_insn.specs.AccessFlags.{has_flag, static_flag}
use Rattle.jo_prog.specs.declared.program.Program.{Program}
use Rattle.jo_prog.specs.declared.program.Method.{Method}
use Rattle.jo_prog.specs.declared.program.MemberRef.{MemberRef}
use Rattle.contexts.specs.Policies.{ContextPolicy, receiver_at}
use Rattle.dep_nodes.specs.declared.kinds.NodeKind.TheVariants.{Call, Arg, Param}
use Rattle.dependence.specs.declared.flow.Place.{Place}
use Rattle.dependence.specs.declared.flow.Place.TheVariants.{Stack}
use Rattle.dependence.specs.declared.facts.InstKey.{InstKey}
use Rattle.dependence.specs.declared.facts.Fact.{Fact}
use Rattle.dependence.specs.declared.facts.Fact.TheVariants.{Holds, Target, Fork}
use Rattle.dependence.specs.declared.facts.Target.{Target as TargetNumber}
use Rattle.dependence.specs.FactRules.{IsReceiver, IsTarget}
use Rattle.dependence.specs.declared.flows.FlowNode.{FlowNode}
use Rattle.dependence.specs.declared.flows.FlowRow.{FlowRow}
use Rattle.dependence.specs.WideGraph.{operand_of}
use Rattle.method_views.specs.Standing.{ref_in}
use Rattle.jo_insn.specs.declared.instructions.Insn.{Insn}
use Rattle.jo_prog.specs.Sites.{opcode_of}
use Rattle.fact_rules.specs.Adds.{FromBelow}
use Rattle.fact_rules.specs.declared.callees.Callee.{Callee}
use Rattle.fact_rules.specs.Callees.{RunsFor, entered, static_callee}

-- a call has a target, which runs in the same thread or in a new one
abbrev pub call_so : {C : Type 0} → Bool → InstKey C → ℕ → InstKey C → Fact C
call_so false i pc j = Target i pc j
call_so true i pc j = Fork i pc j

-- a method has a receiver
abbrev pub is_on_receiver : Option Method → Bool
is_on_receiver None = false
is_on_receiver (Some method) = not (has_flag static_flag method.flags)

-- its first parameter is the receiver
abbrev pub receives : Option Method → ℕ → Bool
receives method k = if k == 0 then is_on_receiver method else false

-- one of the targets has that number
abbrev pub HasNumber : List TargetNumber → ℕ → Type 0
HasNumber targets j = (t : TargetNumber) × Contains targets t × (t.instance ≡ j)

-- places of the stack lie below that height
abbrev pub LieBelow : List Place → ℕ → Type 0
LieBelow places end = (h : ℕ) → Contains places (Stack h) → h < end

-- what is run without an object
abbrev pub StaticGivesIf : Program → ContextPolicy → InstKey (List ℕ) → ℕ → Option Callee → Fact (List ℕ) → Type 0
StaticGivesIf program policy i pc None g = ⊥
StaticGivesIf program policy i pc (Some callee) g = (j : InstKey (List ℕ)) × (entered program policy i pc callee.method None ≡ Some j) × (g ≡ Target i pc j)

module _ (program : Program) (facts : Fact (List ℕ) → Type 0) (i : InstKey (List ℕ)) (pc : ℕ) where
  -- where the target is known, it is given the object as its receiver
  abbrev pub ReceiverGives : ObjKey (List ℕ) → InstKey (List ℕ) → Fact (List ℕ) → Type 0
  ReceiverGives o j g = IsTarget facts i pc j × IsReceiver program j.method 0 × (g ≡ Holds j (Param 0) o)

  abbrev pub EntryGives : ObjKey (List ℕ) → Bool → InstKey (List ℕ) → Fact (List ℕ) → Type 0
  EntryGives o fork j g = (g ≡ call_so fork i pc j) ⊎ ReceiverGives o j g

  -- the arguments but the receiver, target by target
  abbrev pub ArgumentGives : InstKey (List ℕ) → ℕ → Fact (List ℕ) → Type 0
  ArgumentGives j k g = (IsReceiver program j.method k → ⊥) × ((o : ObjKey (List ℕ)) × facts (Holds i (Arg pc k) o) × (g ≡ Holds j (Param k) o))

  abbrev pub TargetsGive : ℕ → Fact (List ℕ) → Type 0
  TargetsGive end g = (j : InstKey (List ℕ)) × IsTarget facts i pc j × FromBelow end (ArgumentGives j) g

  abbrev pub AllTargetsGive : Fact (List ℕ) → Type 0
  AllTargetsGive g = (j : InstKey (List ℕ)) × IsTarget facts i pc j × ((k : ℕ) × ArgumentGives j k g)

  module _ (policy : ContextPolicy) where
    -- what the call runs for an object
    abbrev pub CalleeGives : ObjKey (List ℕ) → Callee → Fact (List ℕ) → Type 0
    CalleeGives o callee g = (j : InstKey (List ℕ)) × (entered program policy i pc callee.method (Some (receiver_at o.site o.context)) ≡ Some j) × EntryGives o callee.fork j g

    abbrev pub CalleeGivesIf : ObjKey (List ℕ) → Option Callee → Fact (List ℕ) → Type 0
    CalleeGivesIf o None g = ⊥
    CalleeGivesIf o (Some callee) g = CalleeGives o callee g

    abbrev pub ObjectGives : ℕ → MemberRef → Option ℕ → ObjKey (List ℕ) → Fact (List ℕ) → Type 0
    ObjectGives op ref resolved o g = (callee : Callee) × RunsFor program i.method op ref resolved o callee × CalleeGives o callee g

    abbrev pub ObjectsGive : ℕ → MemberRef → Option ℕ → Fact (List ℕ) → Type 0
    ObjectsGive op ref resolved g = (o : ObjKey (List ℕ)) × facts (Holds i (Arg pc 0) o) × ObjectGives op ref resolved o g

    -- a call but invokestatic (184) takes an object
    abbrev pub OnObjectsGive : ℕ → MemberRef → Option ℕ → Fact (List ℕ) → Type 0
    OnObjectsGive op ref resolved g = (op == 184 ≡ false) × ObjectsGive op ref resolved g

    abbrev pub CallGivesFor : ℕ → MemberRef → Option ℕ → Fact (List ℕ) → Type 0
    CallGivesFor op ref resolved g = StaticGivesIf program policy i pc (static_callee program op ref.desc resolved) g ⊎ OnObjectsGive op ref resolved g

    -- by what stands at the call
    abbrev pub CallGivesBy : ℕ → Option MemberRef → Option ℕ → Fact (List ℕ) → Type 0
    CallGivesBy op None resolved g = ⊥
    CallGivesBy op (Some ref) resolved g = CallGivesFor op ref resolved g

    abbrev pub InsnGives : Option Insn → Option ℕ → Fact (List ℕ) → Type 0
    InsnGives None resolved g = ⊥
    InsnGives (Some insn) resolved g = CallGivesBy (opcode_of insn) (ref_in (operand_of program i.method (Some (insn, 0)))) resolved g

-- what a node of the wide graph gives
pub record NodeGives (program : Program) (facts : Fact (List ℕ) → Type 0) (i : InstKey (List ℕ)) (policy : ContextPolicy) (wide : List FlowRow) (n : ℕ) (g : Fact (List ℕ)) : Type 0 where
  pub node : FlowNode
  pub at : option_map (λ row. row.node) (slice_get wide n) ≡ Some node
  pub pc : ℕ
  pub is_call : node.kind ≡ Call pc
  pub gives : InsnGives program facts i pc policy node.insn node.method g ⊎ AllTargetsGive program facts i pc g

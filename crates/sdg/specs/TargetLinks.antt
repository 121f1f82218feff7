-- The edges and flow edges between a call and its targets, by the numbers of instances (this project's own form).
use Rattle.std.specs.Prelude.{◌≡◌, ◌⊎◌, ℕ, Bool, true, false, List, Contains, Option, Some, None}
use Rattle.dep_nodes.specs.declared.kinds.NodeKind.{NodeKind}
use Rattle.dep_nodes.specs.declared.kinds.NodeKind.TheVariants.{Entry, Exit, Call, RetVal, RetKind, Throw, Arg, Param, Kind, Value, Thrown}
use Rattle.dep_nodes.specs.declared.kinds.EdgeKind.TheVariants.{Arg as ArgEdge, Call as CallEdge, Ret, Fork as ForkEdge}
use Rattle.dependence.specs.declared.facts.Target.{Target}
use Rattle.fact_sets.specs.declared.numbered.NumberedFact.{NumberedFact}
use Rattle.fact_sets.specs.declared.numbered.NumberedFact.TheVariants.{Calls as IsCalled}
use Rattle.sdg.specs.declared.instance_nodes.InstanceNode.{InstanceNode}
use Rattle.sdg.specs.Links.{by_word, by_flow, Link, link}

abbrev pub node_at : ℕ → NodeKind → InstanceNode
node_at i kind = record { instance = i; kind = kind }

-- from a node of a call and to it, where instance j is a target in the same thread
abbrev pub CallLink : ℕ → NodeKind → ℕ → Link InstanceNode → Type 0
CallLink i (Call pc) j l = l ≡ link (node_at i (Call pc)) (by_word CallEdge) (node_at j Entry)
CallLink i (Arg pc k) j l = l ≡ link (node_at i (Arg pc k)) (by_word ArgEdge) (node_at j (Param k))
CallLink i (RetVal pc) j l = l ≡ link (node_at j Value) (by_word Ret) (node_at i (RetVal pc))
CallLink i (RetKind pc) j l =
    (l ≡ link (node_at j Kind) (by_word Ret) (node_at i (RetKind pc))) ⊎ (l ≡ link (node_at j Exit) by_flow (node_at i (RetKind pc)))
CallLink i (Throw pc) j l = l ≡ link (node_at j Thrown) (by_word Ret) (node_at i (Throw pc))
CallLink i _ j l = ⊥

-- from a node of a call, where instance j is a target in a new thread
abbrev pub ForkLink : ℕ → NodeKind → ℕ → Link InstanceNode → Type 0
ForkLink i (Call pc) j l = l ≡ link (node_at i (Call pc)) (by_word ForkEdge) (node_at j Entry)
ForkLink i (Arg pc k) j l = (k ≡ 0) × (l ≡ link (node_at i (Arg pc k)) (by_word ForkEdge) (node_at j (Param 0)))
ForkLink i _ j l = ⊥

-- of a target in a new thread or not
abbrev pub ThreadLink : ℕ → NodeKind → ℕ → Bool → Link InstanceNode → Type 0
ThreadLink i kind j true l = ForkLink i kind j l
ThreadLink i kind j false l = CallLink i kind j l

abbrev pub TargetLink : InstanceNode → Target → Link InstanceNode → Type 0
TargetLink node target l = ThreadLink node.instance node.kind target.instance target.fork l

-- the pc of a node of a call
abbrev pub call_pc : NodeKind → Option ℕ
call_pc (Call pc) = Some pc
call_pc (Arg pc k) = Some pc
call_pc (RetVal pc) = Some pc
call_pc (RetKind pc) = Some pc
call_pc (Throw pc) = Some pc
call_pc _ = None

-- the targets that facts give to the call at a pc
abbrev pub IsTargetAt : List NumberedFact → ℕ → ℕ → Target → Type 0
IsTargetAt facts i pc target = Contains facts (IsCalled (record { instance = i; pc = pc }) target.instance target.fork)

-- from a node of a call and to it, for some target of the call
pub record LinkAt (facts : List NumberedFact) (node : InstanceNode) (l : Link InstanceNode) : Type 0 where
  pub pc : ℕ
  pub is_call : call_pc node.kind ≡ Some pc
  pub target : Target
  pub is_target : IsTargetAt facts node.instance pc target
  pub links : TargetLink node target l

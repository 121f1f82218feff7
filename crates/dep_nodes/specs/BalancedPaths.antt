-- Matched paths as a grammar of brackets (after Reps, Horwitz, Sagiv and Rosay 1994): nothing, an edge that neither begins nor
-- ends a call, a path between the begin of a call and a return to it, and one path behind another.
use Rattle.std.specs.Prelude.{◌≡◌, Bool, true, false, Some}
use Rattle.dep_nodes.specs.declared.kinds.EdgeKind.{EdgeKind}
use Rattle.dep_nodes.specs.declared.kinds.EdgeKind.TheVariants.{Data, Control, Out, Arg, Call, Ret}
use Rattle.dep_nodes.specs.Nodes.{Node, CallSite}
use Rattle.dep_nodes.specs.Chains.{begun_call, ended_call}

-- words of edges that neither begin nor end a call
abbrev pub stays_level : EdgeKind → Bool
stays_level Data = true
stays_level Control = true
stays_level Out = true
stays_level _ = false

abbrev pub begins_call : EdgeKind → Bool
begins_call Arg = true
begins_call Call = true
begins_call _ = false

pub data Balanced {N : Type 0} (name : N → Node) (E : N → EdgeKind → N → Type 0) : N → N → Type 0 where
  nothing : (n : N) → Balanced name E n n
  level : (kind : EdgeKind) (a b : N) → stays_level kind ≡ true → E a kind b → Balanced name E a b
  over : (kind : EdgeKind) (call : CallSite) (a b c d : N) → begins_call kind ≡ true → E a kind b → begun_call (name a) ≡ Some call → Balanced name E b c → E c Ret d → ended_call (name d) ≡ Some call → Balanced name E a d
  both : (a b c : N) → Balanced name E a b → Balanced name E b c → Balanced name E a c

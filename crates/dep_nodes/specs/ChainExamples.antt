-- Chains by hand through a method that is called at two pcs, over all edges that there may be.
use Rattle.std.specs.Prelude.{ℕ, List, [], ◌∷◌}
use Rattle.dep_nodes.specs.declared.kinds.NodeKind.TheVariants.{Entry, Value, Call as CallNode, RetVal}
use Rattle.dep_nodes.specs.declared.kinds.EdgeKind.{EdgeKind}
use Rattle.dep_nodes.specs.declared.kinds.EdgeKind.TheVariants.{Control, Call, Ret}
use Rattle.dep_nodes.specs.declared.chains.Word.TheVariants.{Edge}
use Rattle.dep_nodes.specs.Nodes.{Node, Instance, CallSite, node}
use Rattle.dep_nodes.specs.Chains.{Link}

abbrev pub AnyEdge : Node → EdgeKind → Node → Type 0
AnyEdge from kind to = Unit {0}

abbrev pub caller : Instance
caller = record { method = 1; context = [] }

abbrev pub callee : Instance
callee = record { method = 2; context = [] }

abbrev pub called_at : ℕ → CallSite
called_at pc = record { caller = caller; pc = pc }

abbrev pub call_node : ℕ → Node
call_node pc = node caller (CallNode pc)

abbrev pub along : EdgeKind → Node → Link
along kind to = record { word = Edge kind; to = to }

-- into the method, through it, and back to behind the call at that pc
abbrev pub in_and_back_to : ℕ → List Link
in_and_back_to pc = along Call (node callee Entry) ∷ along Control (node callee Value) ∷ along Ret (node caller (RetVal pc)) ∷ []

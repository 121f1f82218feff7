-- The two phases of a search backwards along valid chains (after Horwitz, Reps and Binkley 1990). In the first what
-- follows holds whatever calls are open: from a criterion one goes back to callers, and never into a callee. In the
-- second what follows holds where no call is open: one goes back into callees, and to no caller but by a `pass`. A heap
-- or a fork edge forgets the open calls, so the first phase begins anew before it.
use Rattle.std.specs.Prelude.{◌≡◌, Bool, true, false, List, [], Option, Some, None}
use Rattle.dep_nodes.specs.declared.kinds.EdgeKind.{EdgeKind}
use Rattle.dep_nodes.specs.declared.kinds.EdgeKind.TheVariants.{Data, Control, Out, Arg, Call, Ret, Heap, Fork}
use Rattle.dep_nodes.specs.declared.chains.Word.{Word}
use Rattle.dep_nodes.specs.declared.chains.Word.TheVariants.{Edge, Pass}
use Rattle.dep_nodes.specs.Nodes.{Node, CallSite}
use Rattle.dep_nodes.specs.Chains.{goes_in, comes_out, IsPassOver}
use Rattle.slicer.specs.declared.finds.Phase.{Phase}
use Rattle.slicer.specs.declared.finds.Phase.TheVariants.{First, Second}

-- before the begin of a call, at a node where values go into one or not
abbrev pub before_call : Bool → Phase → Option Phase
before_call false phase = None
before_call true First = Some First
before_call true Second = None

-- before a return, to a node where a call comes out or not
abbrev pub before_return : Bool → Option Phase
before_return false = None
before_return true = Some Second

-- the phase at the beginning of an edge, where that at its end is given; none where the edge is not gone back
abbrev pub phase_before : EdgeKind → Node → Node → Phase → Option Phase
phase_before Data from to phase = Some phase
phase_before Control from to phase = Some phase
phase_before Out from to phase = Some phase
phase_before Arg from to phase = before_call (goes_in from.kind) phase
phase_before Call from to phase = before_call (goes_in from.kind) phase
phase_before Ret from to phase = before_return (comes_out to.kind)
phase_before Heap from to phase = Some First
phase_before Fork from to phase = Some First

-- a step with this word, between nodes in these phases
abbrev pub LeadsOver : {N : Type 0} → (N → Node) → (N → EdgeKind → N → Type 0)
    → N → Phase → Word → N → Phase → Type 0
LeadsOver name E from before (Edge kind) to phase =
    E from kind to × (phase_before kind (name from) (name to) phase ≡ Some before)
LeadsOver name E from before Pass to phase = IsPassOver name E from to × (before ≡ phase)

-- the calls that may be open at a place of that phase
abbrev pub MayBeOpen : Phase → List CallSite → Type 0
MayBeOpen First calls = Unit {0}
MayBeOpen Second calls = calls ≡ []

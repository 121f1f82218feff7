-- Valid chains over any edges (after Horwitz, Reps and Binkley 1990; the automaton and `pass` are this project's own). An
-- automaton keeps the list of open calls: a return that finds an open call closes the last one, which must be its own, and
-- one that finds none goes on to a caller; a heap or a fork edge forgets the open calls. Chains are said once over any type
-- of nodes that have names, since a graph may give two numbers one name; where the nodes are their names, they are below.
use Rattle.std.specs.Prelude.{◌≡◌, ◌≢◌, Bool, true, false, ◌&&◌, ◌==◌, List, [], ◌∷◌, Option, Some, None, if◌then◌else◌}
use Rattle.std.specs.Str.{bytes_eq}
use Rattle.std.specs.List.{AllByRecursion}
use Rattle.dep_nodes.specs.declared.kinds.NodeKind.{NodeKind}
use Rattle.dep_nodes.specs.declared.kinds.NodeKind.TheVariants.{Call as CallNode, RetVal, RetKind, Throw, Arg as ArgNode}
use Rattle.dep_nodes.specs.declared.kinds.EdgeKind.{EdgeKind}
use Rattle.dep_nodes.specs.declared.kinds.EdgeKind.TheVariants.{Data, Control, Out, Arg, Call, Ret, Heap, Fork}
use Rattle.dep_nodes.specs.declared.chains.Word.{Word}
use Rattle.dep_nodes.specs.declared.chains.Word.TheVariants.{Edge, Pass}
use Rattle.dep_nodes.specs.Nodes.{Node, CallSite, call_site}

abbrev pub same_site : CallSite → CallSite → Bool
same_site a b = (a.caller.method == b.caller.method) && (bytes_eq a.caller.context b.caller.context && (a.pc == b.pc))

-- ---- the ends of calls

-- where values go into a call, and how it comes out of one
abbrev pub goes_in : NodeKind → Bool
goes_in (ArgNode pc i) = true
goes_in (CallNode pc) = true
goes_in _ = false

abbrev pub comes_out : NodeKind → Bool
comes_out (RetVal pc) = true
comes_out (RetKind pc) = true
comes_out (Throw pc) = true
comes_out _ = false

-- the call that begins at a node, where values go in there
abbrev pub begun_call : Node → Option CallSite
begun_call n = if goes_in n.kind then call_site n else None

-- the call that ends at a node, where it comes out there
abbrev pub ended_call : Node → Option CallSite
ended_call n = if comes_out n.kind then call_site n else None

-- ---- the automaton

-- the open calls behind the begin of a call
abbrev pub opened : List CallSite → Option CallSite → Option (List CallSite)
opened calls None = None
opened calls (Some call) = Some (call ∷ calls)

-- the open calls behind a return to a call
abbrev pub closed : List CallSite → CallSite → Option (List CallSite)
closed [] call = Some []
closed (last ∷ calls) call = if same_site last call then Some calls else None

abbrev pub returned : List CallSite → Option CallSite → Option (List CallSite)
returned calls None = None
returned calls (Some call) = closed calls call

-- The open calls behind an edge, where it may stand there. The call of an `arg` or `call` edge is where it begins, at an Arg
-- or a Call; that of a `ret` edge is where it ends, at a RetVal, RetKind or Throw. Any other end is none.
abbrev pub adv : List CallSite → Node → EdgeKind → Node → Option (List CallSite)
adv calls from Data to = Some calls
adv calls from Control to = Some calls
adv calls from Out to = Some calls
adv calls from Arg to = opened calls (begun_call from)
adv calls from Call to = opened calls (begun_call from)
adv calls from Ret to = returned calls (ended_call to)
adv calls from Heap to = Some []
adv calls from Fork to = Some []

-- ---- matched paths

-- a step of a chain, to its end
pub record LinkTo (N : Type 0) : Type 0 where
  pub word : Word
  pub to : N

-- a word of edges that stay within a call and what it calls: none that forgets open calls, no return that finds none open
abbrev pub StaysWithin : List CallSite → EdgeKind → Type 0
StaysWithin calls Heap = ⊥
StaysWithin calls Fork = ⊥
StaysWithin calls Ret = calls ≢ []
StaysWithin calls _ = Unit {0}

-- a path from a node where these calls are open to one where none is
pub data MatchedOver {N : Type 0} (name : N → Node) (E : N → EdgeKind → N → Type 0) : List CallSite → N → N → Type 0 where
  arrived : (n : N) → MatchedOver name E [] n n
  onwards : (calls next : List CallSite) (kind : EdgeKind) (a b c : N) → E a kind b → StaysWithin calls kind → adv calls (name a) kind (name b) ≡ Some next → MatchedOver name E next b c → MatchedOver name E calls a c

-- the links of a matched path, or of the rest of one
abbrev pub path_links_over : {N : Type 0} (name : N → Node) (E : N → EdgeKind → N → Type 0) (calls : List CallSite) (a b : N) → MatchedOver name E calls a b → List (LinkTo N)
path_links_over name E calls a b (arrived n) = []
path_links_over name E calls a b (onwards before next kind x y z along stays opens path) = record { word = Edge kind; to = y } ∷ path_links_over name E next y z path

-- a matched path, which leaves no call open
abbrev pub IsMatchedOver : {N : Type 0} → (N → Node) → (N → EdgeKind → N → Type 0) → N → N → Type 0
IsMatchedOver name E a b = MatchedOver name E [] a b

-- ---- chains

-- a `pass` step stands for a matched path from where a call goes in to where the same call comes out
pub record IsPassOver {N : Type 0} (name : N → Node) (E : N → EdgeKind → N → Type 0) (from to : N) : Type 0 where
  pub begin : goes_in (name from).kind ≡ true
  pub end : comes_out (name to).kind ≡ true
  pub same_call : call_site (name from) ≡ call_site (name to)
  pub path : MatchedOver name E [] from to

-- a step with this word leads on, with these open calls before and behind it
abbrev pub StepsOnOver : {N : Type 0} → (N → Node) → (N → EdgeKind → N → Type 0) → List CallSite → N → Word → N → List CallSite → Type 0
StepsOnOver name E calls from (Edge kind) to next = E from kind to × (adv calls (name from) kind (name to) ≡ Some next)
StepsOnOver name E calls from Pass to next = IsPassOver name E from to × (next ≡ calls)

-- the steps lead on from a node where these calls are open
abbrev pub IsChainOver : {N : Type 0} → (N → Node) → (N → EdgeKind → N → Type 0) → List CallSite → N → List (LinkTo N) → Type 0
IsChainOver name E calls from [] = Unit {0}
IsChainOver name E calls from (link ∷ links) = (next : List CallSite) × StepsOnOver name E calls from link.word link.to next × IsChainOver name E next link.to links

-- the steps lead on from a node where the first calls are open, and leave the second open
abbrev pub LeavesOpenOver : {N : Type 0} → (N → Node) → (N → EdgeKind → N → Type 0) → List CallSite → N → List (LinkTo N) → List CallSite → Type 0
LeavesOpenOver name E calls from [] left = left ≡ calls
LeavesOpenOver name E calls from (link ∷ links) left = (next : List CallSite) × StepsOnOver name E calls from link.word link.to next × LeavesOpenOver name E next link.to links left

abbrev pub pass_to : {N : Type 0} → N → LinkTo N
pass_to to = record { word = Pass; to = to }

-- where a chain ends
abbrev pub end_of : {N : Type 0} → N → List (LinkTo N) → N
end_of from [] = from
end_of from (link ∷ links) = end_of link.to links

-- a valid chain leads from one node to another
abbrev pub HasChainOver : {N : Type 0} → (N → Node) → (N → EdgeKind → N → Type 0) → N → N → Type 0
HasChainOver {N} name E from to = (links : List (LinkTo N)) × IsChainOver name E [] from links × (end_of from links ≡ to)

-- ---- chains of edges alone

abbrev pub IsEdge : {N : Type 0} → LinkTo N → Type 0
IsEdge link = (kind : EdgeKind) × (link.word ≡ Edge kind)

-- a valid chain without a `pass` step leads from one node to another
abbrev pub HasEdgeChainOver : {N : Type 0} → (N → Node) → (N → EdgeKind → N → Type 0) → N → N → Type 0
HasEdgeChainOver {N} name E from to = (links : List (LinkTo N)) × IsChainOver name E [] from links × (end_of from links ≡ to) × AllByRecursion IsEdge links

-- ---- nodes that are their names

abbrev pub itself : Node → Node
itself n = n

abbrev pub Link : Type 0
Link = LinkTo Node

abbrev pub Matched : (Node → EdgeKind → Node → Type 0) → List CallSite → Node → Node → Type 0
Matched E = MatchedOver itself E

abbrev pub path_links : (E : Node → EdgeKind → Node → Type 0) (calls : List CallSite) (a b : Node) → Matched E calls a b → List Link
path_links E = path_links_over itself E

abbrev pub IsMatched : (Node → EdgeKind → Node → Type 0) → Node → Node → Type 0
IsMatched E = IsMatchedOver itself E

abbrev pub IsPass : (Node → EdgeKind → Node → Type 0) → Node → Node → Type 0
IsPass E = IsPassOver itself E

abbrev pub StepsOn : (Node → EdgeKind → Node → Type 0) → List CallSite → Node → Word → Node → List CallSite → Type 0
StepsOn E = StepsOnOver itself E

abbrev pub IsChainFrom : (Node → EdgeKind → Node → Type 0) → List CallSite → Node → List Link → Type 0
IsChainFrom E = IsChainOver itself E

abbrev pub LeavesOpen : (Node → EdgeKind → Node → Type 0) → List CallSite → Node → List Link → List CallSite → Type 0
LeavesOpen E = LeavesOpenOver itself E

-- a valid chain from a node
abbrev pub IsValidChain : (Node → EdgeKind → Node → Type 0) → Node → List Link → Type 0
IsValidChain E from links = IsChainFrom E [] from links

abbrev pub HasChain : (Node → EdgeKind → Node → Type 0) → Node → Node → Type 0
HasChain E = HasChainOver itself E

abbrev pub HasEdgeChain : (Node → EdgeKind → Node → Type 0) → Node → Node → Type 0
HasEdgeChain E = HasEdgeChainOver itself E

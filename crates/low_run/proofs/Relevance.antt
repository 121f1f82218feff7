-- Relevance: the nodes from which a valid chain leads to what an observer may see.
use Rattle.std.proofs.Common.{◌≡◌, ℕ, Bool, true, false, cond, List, [], ◌∷◌, Some, refl, ap}
use Rattle.std.proofs.lemmas.Bool.{false≢true}
use Rattle.jo_prog.specs.declared.labels.Labels.{Labels}
use Rattle.jo_prog.specs.declared.program.Program.{Program}
use Rattle.jo_prog.specs.Labels.{flows, reaches, misses}
use Rattle.dep_nodes.specs.declared.kinds.EdgeKind.{EdgeKind}
use Rattle.dep_nodes.specs.declared.kinds.EdgeKind.TheVariants.{Data, Control, Out, Arg as ArgEdge, Call as CallEdge, Ret, Heap, Fork}
use Rattle.dep_nodes.specs.declared.chains.Word.TheVariants.{Edge as AnEdge}
use Rattle.dep_nodes.specs.Nodes.{Node, CallSite}
use Rattle.dep_nodes.specs.Chains.{Link, adv, IsChainFrom, end_of}
use Rattle.dependence.specs.Graph.{DependenceEdge}
use Rattle.low_run.specs.ByEdges.{HiddenByEdges, ObservedByEdges, CleanByEdges}

-- ---- nodes

-- the words of edges that leave the open calls as they are, and those that forget them
abbrev pub stays_within : EdgeKind → Bool
stays_within Data = true
stays_within Control = true
stays_within Out = true
stays_within _ = false

abbrev pub goes_far : EdgeKind → Bool
goes_far Heap = true
goes_far Fork = true
goes_far _ = false

-- What the observer may see is relevant, and with a node all that leads to it. No edge of plain code opens or closes a call.
pub data IsRelevant (program : Program) (labels : Labels) (observer : ℕ) : Node → Type 0 where
  at_end : (n : Node) → ObservedByEdges program labels observer n → IsRelevant program labels observer n
  within : (a b : Node) (word : EdgeKind) → stays_within word ≡ true → DependenceEdge program labels a word b → IsRelevant program labels observer b → IsRelevant program labels observer a
  far : (a b : Node) (word : EdgeKind) → goes_far word ≡ true → DependenceEdge program labels a word b → IsRelevant program labels observer b → IsRelevant program labels observer a

opens_within : (calls : List CallSite) (a b : Node) (word : EdgeKind) → stays_within word ≡ true → adv calls a word b ≡ Some calls
opens_within calls a b Data is = refl
opens_within calls a b Control is = refl
opens_within calls a b Out is = refl
opens_within calls a b ArgEdge is = absurd (false≢true is)
opens_within calls a b CallEdge is = absurd (false≢true is)
opens_within calls a b Ret is = absurd (false≢true is)
opens_within calls a b Heap is = absurd (false≢true is)
opens_within calls a b Fork is = absurd (false≢true is)

opens_far : (calls : List CallSite) (a b : Node) (word : EdgeKind) → goes_far word ≡ true → adv calls a word b ≡ Some []
opens_far calls a b Heap is = refl
opens_far calls a b Fork is = refl
opens_far calls a b Data is = absurd (false≢true is)
opens_far calls a b Control is = absurd (false≢true is)
opens_far calls a b Out is = absurd (false≢true is)
opens_far calls a b ArgEdge is = absurd (false≢true is)
opens_far calls a b CallEdge is = absurd (false≢true is)
opens_far calls a b Ret is = absurd (false≢true is)

-- from a relevant node a chain leads to what the observer may see, whatever calls are open
relevant_chain : (program : Program) (labels : Labels) (observer : ℕ) (n : Node) → IsRelevant program labels observer n → (calls : List CallSite)
    → (links : List Link) × IsChainFrom (DependenceEdge program labels) calls n links × ObservedByEdges program labels observer (end_of n links)
relevant_chain program labels observer n (at_end k seen) calls = ([], tt, seen)
relevant_chain program labels observer n (within a b word is edge rest) calls =
    let r = relevant_chain program labels observer b rest calls in
    ((record { word = AnEdge word; to = b }) ∷ r.0, (calls, (edge, opens_within calls a b word is), r.1), r.2)
relevant_chain program labels observer n (far a b word is edge rest) calls =
    let r = relevant_chain program labels observer b rest [] in
    ((record { word = AnEdge word; to = b }) ∷ r.0, ([], (edge, opens_far calls a b word is), r.1), r.2)

-- for a clean program no hidden node is relevant
pub hidden_irrelevant : (program : Program) (labels : Labels) (observer : ℕ) (n : Node) → CleanByEdges program labels observer → HiddenByEdges program labels observer n → IsRelevant program labels observer n → ⊥
hidden_irrelevant program labels observer n clean hidden relevant =
    let r = relevant_chain program labels observer n relevant [] in
    clean n r.0 (record { start = hidden; chain = r.1; finish = r.2 })

-- a level that doesn't miss the observer reaches it
pub reaches_else : (labels : Labels) (observer level : ℕ) → (misses labels observer (Some level) ≡ true → ⊥) → reaches labels observer (Some level) ≡ true
reaches_else labels observer level free = by_flow (flows labels level observer) refl free
  where
    by_flow : (b : Bool) → flows labels level observer ≡ b → (misses labels observer (Some level) ≡ true → ⊥) → flows labels level observer ≡ true
    by_flow true e none = e
    by_flow false e none = absurd (none (ap (λ (x : Bool). cond x false true) e))

-- Illegal chains along the dependence edges of a program, with no graph as data: for a graph of the program these are those
-- of Verdict.
use Rattle.std.specs.Prelude.{◌≡◌, ℕ, true, List, Contains}
use Rattle.jo_prog.specs.declared.program.Program.{Program}
use Rattle.jo_prog.specs.declared.labels.Labels.{Labels}
use Rattle.jo_prog.specs.Labels.{reaches, misses, shown_at, brings, lets_out}
use Rattle.dep_nodes.specs.declared.kinds.NodeKind.TheVariants.{Call, RetVal, Arg}
use Rattle.dep_nodes.specs.Nodes.{Instance, Node, node}
use Rattle.dep_nodes.specs.Chains.{Link, IsValidChain, end_of}
use Rattle.dependence.specs.Flow.{IsFlowNode}
use Rattle.dependence.specs.Graph.{IsReached, label_at, DependenceEdge}

-- what the observer may not depend on: the result of a source whose level doesn't flow to it, and that of a release whose
-- `to` doesn't
pub data HiddenByEdges (program : Program) (labels : Labels) (observer : ℕ) : Node → Type 0 where
  result : (i : Instance) (pc : ℕ) → IsReached labels i → IsFlowNode program i.method (RetVal pc) → misses labels observer (brings (label_at program labels i.method pc)) ≡ true
      → HiddenByEdges program labels observer (node i (RetVal pc))

-- what the observer may see: the call of a sink whose level flows to it, that of a release whose `to` does, and the argument
-- of a release whose `from` does
pub data ObservedByEdges (program : Program) (labels : Labels) (observer : ℕ) : Node → Type 0 where
  call : (i : Instance) (pc : ℕ) → IsReached labels i → IsFlowNode program i.method (Call pc) → reaches labels observer (shown_at (label_at program labels i.method pc)) ≡ true
      → ObservedByEdges program labels observer (node i (Call pc))
  let_out : (i : Instance) (pc : ℕ) → IsReached labels i → IsFlowNode program i.method (Call pc) → reaches labels observer (lets_out (label_at program labels i.method pc)) ≡ true
      → ObservedByEdges program labels observer (node i (Arg pc 0))

-- a valid chain from what the observer may not depend on to what it may see
pub record IllegalByEdges (program : Program) (labels : Labels) (observer : ℕ) (from : Node) (links : List Link) : Type 0 where
  pub start : HiddenByEdges program labels observer from
  pub chain : IsValidChain (DependenceEdge program labels) from links
  pub finish : ObservedByEdges program labels observer (end_of from links)

abbrev pub CleanByEdges : Program → Labels → ℕ → Type 0
CleanByEdges program labels observer = (from : Node) (links : List Link) → IllegalByEdges program labels observer from links → ⊥

-- no observer has an illegal chain
abbrev pub AllCleanByEdges : Program → Labels → Type 0
AllCleanByEdges program labels = (observer : ℕ) → Contains labels.observers observer → CleanByEdges program labels observer

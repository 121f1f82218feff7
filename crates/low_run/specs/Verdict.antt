-- What makes a graph clean for an observer, by the graph and the labels alone: no illegal chain (after Hammer and Snelting
-- 2009; the three ends and the rule that a release counts as a source of level `to` are this project's own), and no
-- conflict. A conflict is of two nodes that run at the same time, one of them in a thread that a fork starts. Whether two
-- nodes do isn't defined over graphs yet: a graph is clean only where it has no fork edge, and then no two nodes do.
use Rattle.std.specs.Prelude.{◌≡◌, ◌⊎◌, ℕ, ◌<◌, true, List, Option, Some, Contains, slice_get, option_and_then}
use Rattle.jo_prog.specs.declared.program.Program.{Program}
use Rattle.jo_prog.specs.declared.labels.Label.{Label}
use Rattle.jo_prog.specs.declared.labels.Labels.{Labels}
use Rattle.jo_prog.specs.Labels.{label_of, reaches, misses, shown_at, brings, lets_out}
use Rattle.dep_nodes.specs.declared.kinds.NodeKind.TheVariants.{Call, RetVal, Arg}
use Rattle.dep_nodes.specs.declared.graphs.NodeName.{NodeName}
use Rattle.dep_nodes.specs.declared.graphs.Graph.{Graph}
use Rattle.dep_nodes.specs.Nodes.{Node}
use Rattle.dep_nodes.specs.Graphs.{GraphEdge, HasName, HasNoFork}
use Rattle.dep_nodes.specs.Chains.{Link, IsValidChain, end_of}
use Rattle.dependence.specs.GraphData.{IsDependenceGraph}
use Rattle.chain_report.specs.Report.{chain_text}

-- the label of the method that a node's instruction names
abbrev pub label_resolved : Labels → Option ℕ → Option Label
label_resolved labels resolved = option_and_then (label_of labels) resolved

-- the name is of what the observer may not depend on: the result of a source whose level doesn't flow to it, or that of a
-- release whose `to` doesn't
abbrev pub Hides : Labels → ℕ → NodeName → Type 0
Hides labels observer name = (pc : ℕ) × (name.kind ≡ RetVal pc) × (misses labels observer (brings (label_resolved labels name.resolved)) ≡ true)

-- the name is of what the observer may see: the call of a sink whose level flows to it, that of a release whose `to` does,
-- or the argument of a release whose `from` does
abbrev pub Shows : Labels → ℕ → NodeName → Type 0
Shows labels observer name =
    ((pc : ℕ) × (name.kind ≡ Call pc) × (reaches labels observer (shown_at (label_resolved labels name.resolved)) ≡ true))
    ⊎ ((pc : ℕ) × (name.kind ≡ Arg pc 0) × (reaches labels observer (lets_out (label_resolved labels name.resolved)) ≡ true))

abbrev pub IsHidden : Graph → Labels → ℕ → Node → Type 0
IsHidden graph labels observer n = (name : NodeName) × HasName graph n name × Hides labels observer name

abbrev pub IsObserved : Graph → Labels → ℕ → Node → Type 0
IsObserved graph labels observer n = (name : NodeName) × HasName graph n name × Shows labels observer name

-- a valid chain of the graph from what the observer may not depend on to what it may see
pub record IllegalChain (graph : Graph) (labels : Labels) (observer : ℕ) (from : Node) (links : List Link) : Type 0 where
  pub start : IsHidden graph labels observer from
  pub chain : IsValidChain (GraphEdge graph) from links
  pub finish : IsObserved graph labels observer (end_of from links)

pub record Clean (graph : Graph) (labels : Labels) (observer : ℕ) : Type 0 where
  pub no_chain : (from : Node) (links : List Link) → IllegalChain graph labels observer from links → ⊥
  pub no_conflict : HasNoFork graph

-- the graph is clean for each observer
abbrev pub CleanForAll : Graph → Labels → Type 0
CleanForAll graph labels = (observer : ℕ) → Contains labels.observers observer → Clean graph labels observer

-- the observers before this one have no illegal chain in the graph, and it has one, which the text reports
pub record Reports (program : Program) (labels : Labels) (graph : Graph) (text : List ℕ) : Type 0 where
  pub place : ℕ
  pub observer : ℕ
  pub observer_at : slice_get labels.observers place ≡ Some observer
  pub earlier : (k l : ℕ) → k < place → slice_get labels.observers k ≡ Some l → (from : Node) (links : List Link) → IllegalChain graph labels l from links → ⊥
  pub from : Node
  pub links : List Link
  pub illegal : IllegalChain graph labels observer from links
  pub text_is : text ≡ chain_text program labels observer from links

-- ---- the verdict on a program

-- the program's dependence graph is clean for each observer
abbrev pub HasCleanGraph : Program → Labels → Type 0
HasCleanGraph program labels = (graph : Graph) × IsDependenceGraph program labels graph × CleanForAll graph labels

-- the text reports on the program's dependence graph
abbrev pub HasReport : Program → Labels → List ℕ → Type 0
HasReport program labels text = (graph : Graph) × IsDependenceGraph program labels graph × Reports program labels graph text

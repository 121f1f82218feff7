-- Which nodes of a graph an observer may not depend on, and which it may see, by the label of the method that a node's
-- instruction names.
use Rattle.std.specs.Prelude.{ℕ, suc, Bool, false, ◌==◌, ◌&&◌, if◌then◌else◌, List, [], ◌∷◌, Option, Contains}
use Rattle.jo_prog.specs.declared.labels.Label.{Label}
use Rattle.jo_prog.specs.declared.labels.Labels.{Labels}
use Rattle.jo_prog.specs.Labels.{reaches, misses, shown_at, brings, lets_out}
use Rattle.dep_nodes.specs.declared.kinds.NodeKind.{NodeKind}
use Rattle.dep_nodes.specs.declared.kinds.NodeKind.TheVariants.{Call, RetVal, Arg}
use Rattle.dep_nodes.specs.declared.graphs.NodeName.{NodeName}
use Rattle.dep_nodes.specs.declared.chains.Chain.{Chain}
use Rattle.dep_nodes.specs.declared.graphs.Graph.{Graph}
use Rattle.dep_nodes.specs.Graphs.{IsWalk, walk_end}
use Rattle.low_run.specs.Verdict.{label_resolved}
use Rattle.low_run.specs.declared.refusals.Side.{Side}
use Rattle.low_run.specs.declared.refusals.Side.TheVariants.{Hidden, Observed}

-- a node of this kind, whose call names a method with this label, is on the side
abbrev pub is_kind_on : Side → Labels → ℕ → Option Label → NodeKind → Bool
is_kind_on Hidden labels observer label (RetVal pc) = misses labels observer (brings label)
is_kind_on Hidden labels observer label _ = false
is_kind_on Observed labels observer label (Call pc) = reaches labels observer (shown_at label)
is_kind_on Observed labels observer label (Arg pc i) = (i == 0) && reaches labels observer (lets_out label)
is_kind_on Observed labels observer label _ = false

abbrev pub is_on : Side → Labels → ℕ → NodeName → Bool
is_on side labels observer name = is_kind_on side labels observer (label_resolved labels name.resolved) name.kind

-- the numbers of the nodes that pass a test, where the nodes have numbers from a first one on
abbrev pub places_from : (NodeName → Bool) → ℕ → List NodeName → List ℕ
places_from test first [] = []
places_from test first (name ∷ names) = if test name then first ∷ places_from test (suc first) names else places_from test (suc first) names

-- what the observer may not depend on, and what it may see
abbrev pub hidden_nodes : Labels → ℕ → Graph → List ℕ
hidden_nodes labels observer graph = places_from (is_on Hidden labels observer) 0 graph.nodes

abbrev pub observed_nodes : Labels → ℕ → Graph → List ℕ
observed_nodes labels observer graph = places_from (is_on Observed labels observer) 0 graph.nodes

-- a walk of the graph from the one to the other
pub record IsForbiddenWalk (labels : Labels) (graph : Graph) (observer : ℕ) (chain : Chain) : Type 0 where
  pub start : Contains (hidden_nodes labels observer graph) chain.start
  pub walk : IsWalk graph chain.start chain.steps
  pub finish : Contains (observed_nodes labels observer graph) (walk_end chain.start chain.steps)

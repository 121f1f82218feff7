-- What a search has found of a graph, and what a slicer says of it.
use Rattle.std.specs.Prelude.{◌≡◌, ◌↔◌, ℕ, ◌+◌, ◌<◌, List, [], ◌++◌, Some, length, map, All, Contains, slice_index_or}
use Rattle.dep_nodes.specs.declared.kinds.EdgeKind.{EdgeKind}
use Rattle.dep_nodes.specs.declared.chains.Word.{Word}
use Rattle.dep_nodes.specs.declared.chains.Word.TheVariants.{Edge, Pass}
use Rattle.dep_nodes.specs.declared.chains.Step.{Step}
use Rattle.dep_nodes.specs.declared.chains.Chain.{Chain}
use Rattle.dep_nodes.specs.declared.dependence_graph.GraphNode.{GraphNode}
use Rattle.dep_nodes.specs.Chains.{LinkTo, end_of}
use Rattle.dep_nodes.specs.GrowingGraphs.{HasEdge}
use Rattle.dep_nodes.specs.NumberedChains.{name_at, IsNumberedChain, HasNumberedChain, AreSummaries}
use Rattle.slicer.specs.declared.finds.Phase.{Phase}
use Rattle.slicer.specs.declared.finds.Phase.TheVariants.{First}
use Rattle.slicer.specs.declared.finds.Place.{Place}
use Rattle.slicer.specs.declared.finds.Way.{Way}
use Rattle.slicer.specs.declared.finds.Way.TheVariants.{Criterion, Step as AStep}
use Rattle.slicer.specs.declared.finds.Found.{Found}
use Rattle.slicer.specs.Finds.{place, place_at, HasPlace, HasNode}
use Rattle.slicer.specs.Phases.{phase_before, LeadsOver}

-- what contracts see of a slicer: the summary edges by their ends, the graph's count of nodes, what was found
pub record Slices : Type 0 where
  pub summaries : List (List ℕ)
  pub count : ℕ
  pub found : List Found

-- ---- steps between places

abbrev pub Leads : List GraphNode → Place → Word → Place → Type 0
Leads nodes from word to =
    LeadsOver (name_at nodes) (HasEdge nodes) from.node from.phase word to.node to.phase

-- the phase at the beginning of an edge of the graph to a place
abbrev pub IsPhaseBefore : List GraphNode → ℕ → EdgeKind → Place → Phase → Type 0
IsPhaseBefore nodes from kind to phase =
    phase_before kind (name_at nodes from) (name_at nodes to.node) to.phase ≡ Some phase

-- ---- what is found

abbrev pub criterion : ℕ → Found
criterion node = record { place = place node First; way = Criterion }

-- the node is a criterion
abbrev pub IsCriterion : List Found → ℕ → Type 0
IsCriterion found node = Contains found (criterion node)

-- the way from a place with that number: none at a criterion, else a step to what was found before
abbrev pub GoesOn : List GraphNode → List Found → ℕ → Place → Way → Type 0
GoesOn nodes found number from Criterion = from.phase ≡ First
GoesOn nodes found number from (AStep word next) =
    (next < number) × ((d : Found) → Leads nodes from word (place_at found next d))

abbrev pub GoesOnFrom : List GraphNode → List Found → ℕ → Found → Type 0
GoesOnFrom nodes found number item = GoesOn nodes found number item.place item.way

-- each way goes on
abbrev pub IsSearch : List GraphNode → List Found → Type 0
IsSearch nodes found =
    (number : ℕ) (d : Found) → number < length found → GoesOnFrom nodes found number (slice_index_or found number d)

-- whatever leads to a place that is found is found
abbrev pub IsClosed : List GraphNode → List Found → Type 0
IsClosed nodes found =
    (from to : Place) (word : Word) → Leads nodes from word to → HasPlace found to → HasPlace found from

-- the criteria alone are found, each in the first phase
pub record BeginsWith (criteria : List ℕ) (found : List Found) : Type 0 where
  pub only : All (λ item. (c : ℕ) × Contains criteria c × (item ≡ criterion c)) found
  pub each : (c : ℕ) → Contains criteria c → IsCriterion found c

-- the new list has more items at its end, which are such
abbrev pub Appends : (Found → Type 0) → List Found → List Found → Type 0
Appends P old new = (more : List Found) × (new ≡ old ++ more) × All P more

-- each step of the graph to the place with that number begins at a place that is found
abbrev pub AllStepsTo : List GraphNode → Place → List Found → Type 0
AllStepsTo nodes to found = (from : Place) (word : Word) → Leads nodes from word to → HasPlace found from

abbrev pub AllEdgesTo : List GraphNode → Place → List Found → Type 0
AllEdgesTo nodes to found = (from : Place) (kind : EdgeKind) → Leads nodes from (Edge kind) to → HasPlace found from

-- an edge to the place is gone back to a place that is found
abbrev pub EdgeIsFound : List GraphNode → ℕ × EdgeKind → Place → List Found → Type 0
EdgeIsFound nodes edge to found =
    (phase : Phase) → IsPhaseBefore nodes edge.0 edge.1 to phase → HasPlace found (place edge.0 phase)

-- a step of the graph to a place, which has that number
abbrev pub IsStepTo : List GraphNode → ℕ → Place → Found → Type 0
IsStepTo nodes number to item =
    (word : Word) × (item.way ≡ AStep word number) × Leads nodes item.place word to

-- a `pass` from one of the nodes to a place, which has that number
pub record IsPassTo (nodes : List ℕ) (number : ℕ) (to : Place) (item : Found) : Type 0 where
  pub way : item.way ≡ AStep Pass number
  pub phase : item.place.phase ≡ to.phase
  pub from : Contains nodes item.place.node

abbrev pub IsStep : Found → Type 0
IsStep item = (word : Word) × (next : ℕ) × (item.way ≡ AStep word next)

-- ---- what a slicer says

-- a valid chain leads to one of the criteria
abbrev pub HasChainToOneOf : List GraphNode → List ℕ → ℕ → Type 0
HasChainToOneOf nodes criteria node = (c : ℕ) × Contains criteria c × HasNumberedChain nodes node c

-- exactly the nodes with such a chain are found
abbrev pub IsSlice : List GraphNode → List ℕ → List Found → Type 0
IsSlice nodes criteria found = (n : ℕ) → HasNode found n ↔ HasChainToOneOf nodes criteria n

-- the slicer was made for the graph
pub record IsSlicerOf (nodes : List GraphNode) (slicer : Slices) : Type 0 where
  pub count : slicer.count ≡ length nodes
  pub summaries : AreSummaries nodes slicer.summaries
  pub search : IsSearch nodes slicer.found

abbrev pub link_of_step : Step → LinkTo ℕ
link_of_step step = record { word = step.word; to = step.to }

abbrev pub step_links : List Step → List (LinkTo ℕ)
step_links steps = map link_of_step steps

-- the steps are a valid chain from the node to a criterion, fewer than twice as many as the graph has nodes
pub record AreStepsToCriterion (nodes : List GraphNode) (found : List Found) (from : ℕ) (steps : List Step)
    : Type 0 where
  pub valid : IsNumberedChain nodes [] from (step_links steps)
  pub ends : IsCriterion found (end_of from (step_links steps))
  pub short : length steps < length nodes + length nodes

pub record IsChainToCriterion (nodes : List GraphNode) (found : List Found) (from : ℕ) (chain : Chain)
    : Type 0 where
  pub start : chain.start ≡ from
  pub steps : AreStepsToCriterion nodes found from chain.steps

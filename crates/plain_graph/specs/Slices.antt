-- What a slicer has marked: each marked node leads on, by its mark, to a node that is marked too and nearer to a criterion.
use Rattle.std.specs.Prelude.{◌≡◌, ◌↔◌, ℕ, ◌+◌, ◌<◌, Bool, true, false, not, List, length, Contains, slice_index_or, slice_get, Some, count_by}
use Rattle.dep_nodes.specs.declared.kinds.EdgeKind.{EdgeKind}
use Rattle.dep_nodes.specs.declared.graphs.Edge.{Edge}
use Rattle.dep_nodes.specs.declared.chains.Step.{Step}
use Rattle.dep_nodes.specs.declared.chains.Word.TheVariants.{Edge as AnEdge}
use Rattle.dep_nodes.specs.declared.graphs.Graph.{Graph}
use Rattle.plain_graph.specs.declared.slicer.Mark.{Mark}
use Rattle.plain_graph.specs.declared.slicer.Mark.TheVariants.{Unmarked, Criterion, Next}
use Rattle.plain_graph.specs.declared.slicer.Slicer.{Slicer}
use Rattle.dep_nodes.specs.Graphs.{EdgeAt, WalksTo}

-- the mark of a node; a number that is none of a node has none
abbrev pub mark_at : List Mark → ℕ → Mark
mark_at marks n = slice_index_or marks n Unmarked

abbrev pub is_marked : Mark → Bool
is_marked Unmarked = false
is_marked Criterion = true
is_marked (Next step distance) = true

abbrev pub IsMarkedAt : List Mark → ℕ → Type 0
IsMarkedAt marks n = is_marked (mark_at marks n) ≡ true

-- a bound on the steps from a node with that mark
abbrev pub distance_of : Mark → ℕ
distance_of (Next step distance) = distance
distance_of _ = 0

-- the step goes along an edge of the graph
abbrev pub IsStepFrom : Graph → ℕ → Step → Type 0
IsStepFrom graph from step = (kind : EdgeKind) × (step.word ≡ AnEdge kind) × EdgeAt graph from kind step.to

-- the mark of a node leads on
abbrev pub LeadsOn : Graph → List Mark → ℕ → Mark → Type 0
LeadsOn graph marks n Unmarked = Unit {0}
LeadsOn graph marks n Criterion = Unit {0}
LeadsOn graph marks n (Next step distance) = IsStepFrom graph n step × IsMarkedAt marks step.to × (distance_of (mark_at marks step.to) < distance)

abbrev pub is_unmarked : Mark → Bool
is_unmarked mark = not (is_marked mark)

abbrev pub unmarked_count : List Mark → ℕ
unmarked_count marks = count_by is_unmarked marks

-- one mark a node, each leads on, and no distance is above the number of the other marked nodes
pub record IsMarking (graph : Graph) (marks : List Mark) : Type 0 where
  pub same_length : length marks ≡ length graph.nodes
  pub lead_on : (n : ℕ) → LeadsOn graph marks n (mark_at marks n)
  pub short : (n : ℕ) → IsMarkedAt marks n → distance_of (mark_at marks n) + unmarked_count marks < length graph.nodes

-- old marks stay, and no new one is a criterion's
pub record OnlyGrows (old new : List Mark) : Type 0 where
  pub kept : (n : ℕ) → IsMarkedAt old n → mark_at new n ≡ mark_at old n
  pub criteria : (n : ℕ) → mark_at new n ≡ Criterion → mark_at old n ≡ Criterion

-- where the end of an edge is marked, so is its begin
abbrev pub IsClosedAt : List Mark → Edge → Type 0
IsClosedAt marks e = IsMarkedAt marks e.to → IsMarkedAt marks e.from

-- the marks are closed at each edge of the graph
abbrev pub IsClosed : Graph → List Mark → Type 0
IsClosed graph marks = (i j : ℕ) (kind : EdgeKind) → EdgeAt graph i kind j → IsMarkedAt marks j → IsMarkedAt marks i

-- the edges are between nodes of the graph
abbrev pub HasEdgesInside : Graph → Type 0
HasEdgesInside graph = (i j : ℕ) (kind : EdgeKind) → EdgeAt graph i kind j → (i < length graph.nodes) × (j < length graph.nodes)

abbrev pub AreInside : Graph → List ℕ → Type 0
AreInside graph numbers = (n : ℕ) → Contains numbers n → n < length graph.nodes

-- exactly the criteria have a criterion's mark
abbrev pub AreMarkedAs : List Mark → List ℕ → Type 0
AreMarkedAs marks criteria = (n : ℕ) → (mark_at marks n ≡ Criterion) ↔ Contains criteria n

-- the mark is none or a criterion's
abbrev pub HasNoStep : Mark → Type 0
HasNoStep (Next step distance) = ⊥
HasNoStep _ = Unit {0}

-- the slicer was made for a graph with that many nodes
abbrev pub FitsGraph : Slicer → Graph → Type 0
FitsGraph slicer graph = length slicer.marks.items ≡ length graph.nodes

abbrev pub IsMarked : Slicer → ℕ → Type 0
IsMarked slicer n = IsMarkedAt slicer.marks.items n

-- the slicer has marked exactly the nodes of the graph from which a walk leads to a criterion
pub record IsSliceOf (slicer : Slicer) (graph : Graph) (criteria : List ℕ) : Type 0 where
  pub marking : IsMarking graph slicer.marks.items
  pub criteria_marked : AreMarkedAs slicer.marks.items criteria
  pub marked : (n : ℕ) → IsMarked slicer n ↔ WalksTo graph criteria n

-- the number stands among these, and no walk leads to a criterion from one before it
abbrev pub IsFirstWith : Graph → List ℕ → List ℕ → ℕ → Type 0
IsFirstWith graph criteria numbers n = (k : ℕ) × (slice_get numbers k ≡ Some n) × ((j m : ℕ) → j < k → slice_get numbers j ≡ Some m → WalksTo graph criteria m → ⊥)

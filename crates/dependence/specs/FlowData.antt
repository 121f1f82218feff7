-- A flow graph as data: the nodes of a method in order, each with its successors and the places that it reads and writes
-- (control-flow graphs are standard; this form is this project's own). The relations of paths apply to it by number.
use Rattle.std.specs.Prelude.{◌≡◌, ℕ, ◌^◌, ◌<◌, List, [], Some, length, Contains, slice_get, slice_set, option_map, IsSomeAnd}
use Rattle.std.specs.List.{AllByRecursion}
use Rattle.jo_ids.specs.Path.{Path}
use Rattle.dep_nodes.specs.declared.kinds.NodeKind.TheVariants.{Exit}
use Rattle.dep_nodes.specs.OnceLists.{IsOnceEach}
use Rattle.dep_nodes.specs.GrowingGraphs.{AppendsNew}
use Rattle.dependence.specs.declared.flow.Place.{Place}
use Rattle.dependence.specs.declared.flows.FlowNode.{FlowNode}
use Rattle.dependence.specs.declared.flows.FlowRow.{FlowRow}
use Rattle.dependence.specs.declared.flows.Use.{Use}
use Rattle.dependence.specs.Dependence.{Reaches, Controls}
use Rattle.dependence.specs.Listed.{ListsExactly}

-- ---- what the data says

-- an edge leads from the first node to the second
abbrev pub EdgeIn : List FlowRow → ℕ → ℕ → Type 0
EdgeIn flow a b = IsSomeAnd (slice_get flow a) (λ row. Contains row.successors b)

abbrev pub ReadsIn : List FlowRow → ℕ → Place → Type 0
ReadsIn flow n v = IsSomeAnd (slice_get flow n) (λ row. Contains row.reads v)

abbrev pub WritesIn : List FlowRow → ℕ → Place → Type 0
WritesIn flow n v = IsSomeAnd (slice_get flow n) (λ row. Contains row.writes v)

abbrev pub IsExitIn : List FlowRow → ℕ → Type 0
IsExitIn flow n = IsSomeAnd (slice_get flow n) (λ row. row.node.kind ≡ Exit)

-- the definition of a place at node d arrives at node n
abbrev pub ReachesIn : List FlowRow → Place → ℕ → ℕ → Type 0
ReachesIn flow v d n = Reaches (EdgeIn flow) (WritesIn flow) v d n

-- node b controls node n
abbrev pub ControlsIn : List FlowRow → ℕ → ℕ → Type 0
ControlsIn flow b n = Controls (EdgeIn flow) (IsExitIn flow) b n

-- node u.node reads the place, and its definition at u.from arrives there
abbrev pub IsUse : List FlowRow → Use → Type 0
IsUse flow u = ReadsIn flow u.node u.place × ReachesIn flow u.place u.from u.node

-- ---- what is asked of them

-- exactly the uses with the definitions that reach them
abbrev pub AreUses : List FlowRow → List Use → Type 0
AreUses flow uses = ListsExactly (IsUse flow) uses

-- exactly the pairs of control dependence
abbrev pub AreControls : List FlowRow → List (ℕ × ℕ) → Type 0
AreControls flow pairs = ListsExactly (λ (pair : ℕ × ℕ). ControlsIn flow pair.0 pair.1) pairs

-- ---- how it grows

-- the node has successors below that count, each once
pub record IsInside (count : ℕ) (row : FlowRow) : Type 0 where
  pub inside : AllByRecursion (λ to. to < count) row.successors
  pub once : IsOnceEach row.successors

-- edges lead to nodes of the graph, and each node has a number of 32 bits
pub record IsFlow (flow : List FlowRow) (count : ℕ) : Type 0 where
  pub few : count < 2 ^ 32
  pub rows : AllByRecursion (IsInside (length flow)) flow

-- a node without successors and places
abbrev pub bare : FlowNode → FlowRow
bare node = record { node = node; successors = []; reads = []; writes = [] }

-- the node has the successor besides, and everything else is as before
abbrev pub AddsSuccessor : List FlowRow → List FlowRow → ℕ → ℕ → Type 0
AddsSuccessor old new from to =
    IsSomeAnd (slice_get old from) (λ row. (next : List ℕ) × AppendsNew row.successors to next × (new ≡ slice_set old from (record row { successors = next })))

abbrev pub AddsRead : List FlowRow → List FlowRow → ℕ → Place → Type 0
AddsRead old new n place =
    IsSomeAnd (slice_get old n) (λ row. (places : List Place) × AppendsNew row.reads place places × (new ≡ slice_set old n (record row { reads = places })))

abbrev pub AddsWrite : List FlowRow → List FlowRow → ℕ → Place → Type 0
AddsWrite old new n place =
    IsSomeAnd (slice_get old n) (λ row. (places : List Place) × AppendsNew row.writes place places × (new ≡ slice_set old n (record row { writes = places })))

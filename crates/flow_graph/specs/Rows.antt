-- A wide graph as rows, one for each node in the order of their numbers (this project's own form).
use Rattle.std.specs.Prelude.{◌≡◌, ◌⊎◌, ℕ, List, [], ◌∷◌, ◌++◌, Contains, Option, Some, slice_get}
use Rattle.std.specs.List.{AllZip}
use Rattle.jo_prog.specs.declared.program.Program.{Program}
use Rattle.dep_nodes.specs.declared.kinds.NodeKind.{NodeKind}
use Rattle.dep_nodes.specs.OnceLists.{IsOnceEach}
use Rattle.dependence.specs.declared.flows.FlowRow.{FlowRow}
use Rattle.dependence.specs.WideGraph.{WideStep}
use Rattle.dependence.specs.NodePlaces.{Writes}
use Rattle.dependence.specs.GraphsAsData.{ListsRead, pc_kept, node_with}
use Rattle.flow_graph.specs.Adding.{HasThose}
use Rattle.flow_graph.specs.NodeUses.{HeightIs}

-- one of these nodes has the number
abbrev pub IsNumberAmong : List NodeKind → List NodeKind → ℕ → Type 0
IsNumberAmong nodes kinds number = (n : NodeKind) × Contains kinds n × (slice_get nodes number ≡ Some n)

-- the number of the node is added, if one of these nodes is it
abbrev pub AddsNumber : List NodeKind → NodeKind → List ℕ → List ℕ → Type 0
AddsNumber nodes kind old new =
    ((number : ℕ) × (slice_get nodes number ≡ Some kind) × (new ≡ old ++ number ∷ [])) ⊎ ((Contains nodes kind → ⊥) × (new ≡ old))

-- a step leads to the node with the number
abbrev pub StepsTo : Program → ℕ → List NodeKind → NodeKind → ℕ → Type 0
StepsTo program m nodes kind number = (n : NodeKind) × WideStep program m kind n × (slice_get nodes number ≡ Some n)

pub record IsRowOf (program : Program) (m : ℕ) (typed : List (Option ℕ)) (nodes : List NodeKind) (kind : NodeKind) (row : FlowRow) : Type 0 where
  pub node : row.node ≡ node_with program m kind (pc_kept kind)
  pub successors : HasThose (StepsTo program m nodes kind) row.successors
  pub once : IsOnceEach row.successors
  pub reads : HasThose (ListsRead program m (HeightIs typed) kind) row.reads
  pub writes : HasThose (Writes program m (HeightIs typed) kind) row.writes

abbrev pub AreRowsOf : Program → ℕ → List (Option ℕ) → List NodeKind → List FlowRow → Type 0
AreRowsOf program m typed nodes rows = AllZip (IsRowOf program m typed nodes) nodes rows

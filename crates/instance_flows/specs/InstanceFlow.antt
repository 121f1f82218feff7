-- The flow graph of an instance as data.
use Rattle.std.specs.Prelude.{◌≡◌, ◌↔◌, ℕ, List, Option, Some, slice_get}
use Rattle.jo_prog.specs.declared.program.Program.{Program}
use Rattle.jo_prog.specs.TypingPaths.{HasHeightAt}
use Rattle.dependence.specs.declared.flows.FlowRow.{FlowRow}
use Rattle.dependence.specs.declared.facts.InstKey.{InstKey}
use Rattle.dependence.specs.declared.facts.Fact.{Fact}
use Rattle.dependence.specs.NodePlaces.{Writes}
use Rattle.dependence.specs.FlowGraph.{IsNodeOf, EdgeOf}
use Rattle.dependence.specs.GraphsAsData.{IsDataOf, ListsRead, pc_kept, node_with, IsWideGraph}
use Rattle.flow_graph.specs.NodeUses.{HeightIs}
use Rattle.fact_sets.specs.FactLists.{FactLists, IsInstance}
use Rattle.fact_sets.specs.Seen.{TellsApart, Known, instance_seen}

-- the data is the flow graph of an instance by these facts
pub record IsFlowGraph (program : Program) (facts : Fact (List ℕ) → Type 0) (H : ℕ → ℕ → Type 0) (i : InstKey (List ℕ)) (flow : List FlowRow) : Type 0 where
  pub graph : IsDataOf (IsNodeOf program facts H i) (EdgeOf program facts H i) (ListsRead program i.method H) (Writes program i.method H) flow
  pub nodes : (k : ℕ) (row : FlowRow) → slice_get flow k ≡ Some row → row.node ≡ node_with program i.method row.node.kind (pc_kept row.node.kind)

-- the heights are those that typing paths give
abbrev pub AreHeightsOf : Program → ℕ → List (Option ℕ) → Type 0
AreHeightsOf program m typed = (pc height : ℕ) → HeightIs typed pc height ↔ HasHeightAt program m pc height

-- the wide graph of the method of the instance with that number, and its heights
abbrev pub IsWideOf : {C : Type 0} → Program → FactLists C → List (Option ℕ) → ℕ → List FlowRow → Type 0
IsWideOf {C} program lists typed n wide = (key : InstKey C) → IsInstance lists.instances n key → IsWideGraph program key.method (HeightIs typed) wide

abbrev pub IsTypingOf : {C : Type 0} → Program → FactLists C → ℕ → List (Option ℕ) → Type 0
IsTypingOf {C} program lists n typed = (key : InstKey C) → IsInstance lists.instances n key → AreHeightsOf program key.method typed

-- the flow graph of the instance with that number by the facts that are kept, however contexts are seen as lists of sites
abbrev pub IsFlowOf : {C : Type 0} → Program → FactLists C → ℕ → List FlowRow → Type 0
IsFlowOf {C} program lists n flow =
    (key : InstKey C) (list : C → List ℕ) → IsInstance lists.instances n key → TellsApart list
    → IsFlowGraph program (Known list lists) (HasHeightAt program key.method) (instance_seen list key) flow

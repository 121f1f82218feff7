-- How the nodes of a wide graph are found from Entry on (this project's own), and what answers there are.
use Rattle.std.specs.Prelude.{◌≡◌, ◌↔◌, ◌⊎◌, ℕ, ◌<◌, List, ◌++◌, Contains, Some, slice_get}
use Rattle.jo_ids.specs.declared.LimitKind.TheVariants.{M6}
use Rattle.jo_prog.specs.declared.program.Program.{Program}
use Rattle.dep_nodes.specs.declared.kinds.NodeKind.{NodeKind}
use Rattle.dep_nodes.specs.declared.kinds.NodeKind.TheVariants.{Entry}
use Rattle.dep_nodes.specs.OnceLists.{IsOnceEach}
use Rattle.dependence.specs.WideGraph.{WideStep, IsWideNode}
use Rattle.dependence.specs.GraphsAsData.{HasMoreNodes}
use Rattle.flow_graph.specs.declared.wide.FlowFault.{FlowFault}
use Rattle.flow_graph.specs.declared.wide.FlowFault.TheVariants.{Limit, Memory}

-- the list has the nodes of the wide graph, each once
pub record AreWideNodes (program : Program) (m : ℕ) (nodes : List NodeKind) : Type 0 where
  pub each : (n : NodeKind) → Contains nodes n ↔ IsWideNode program m n
  pub once : IsOnceEach nodes

-- there is Entry, all that is there is reached, and what follows the first nodes is there
pub record Explores (program : Program) (m : ℕ) (nodes : List NodeKind) (done : ℕ) : Type 0 where
  pub begins : Contains nodes Entry
  pub reached : (n : NodeKind) → Contains nodes n → IsWideNode program m n
  pub closed : (i : ℕ) (a b : NodeKind) → i < done → slice_get nodes i ≡ Some a → WideStep program m a b → Contains nodes b

-- the new list goes on behind the old one, and has besides the items of a list
pub record AddsAll {A : Type 0} (xs old new : List A) : Type 0 where
  pub each : (x : A) → Contains new x ↔ (Contains old x ⊎ Contains xs x)
  pub more : List A
  pub grows : new ≡ old ++ more

-- the wide graph of the method has more nodes than the limit, or memory was wanting
abbrev pub IsLimitOf : Program → ℕ → FlowFault → Type 0
IsLimitOf program m (Limit kind) = (kind ≡ M6) × HasMoreNodes program m 16384
IsLimitOf program m Memory = Unit {0}

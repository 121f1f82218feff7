-- The flow graphs of all instances, and what their nodes access by number (this project's own form).
use Rattle.std.specs.Prelude.{◌≡◌, ℕ, ◌+◌, ◌<◌, ◌≤◌, List, length, Contains, Option, Some, slice_get}
use Rattle.jo_prog.specs.declared.program.Program.{Program}
use Rattle.jo_prog.specs.declared.labels.Labels.{Labels}
use Rattle.dependence.specs.declared.facts.InstKey.{InstKey}
use Rattle.dependence.specs.FlowData.{AreUses}
use Rattle.fact_sets.specs.declared.numbered.NumberedFact.TheVariants.{Reached as IsReached}
use Rattle.fact_sets.specs.FactLists.{FactLists, IsInstance}
use Rattle.fact_sets.specs.Seen.{Known, instance_seen}
use Rattle.heap_deps.specs.declared.flow_sets.InstanceFlow.{InstanceFlow}
use Rattle.heap_deps.specs.Items.{Item}
use Rattle.heap_deps.specs.Accesses.{KeepsNodes, InstanceMakes}

-- each instance has heights and a flow graph, whose nodes keep what stands at their pcs and are inside a graph with that many nodes
pub record AreInside {C : Type 0} (program : Program) (lists : FactLists C) (typings : List (List (Option ℕ))) (count : ℕ) (flows : List InstanceFlow) : Type 0 where
  pub same_count : length flows ≡ length lists.instances
  pub typed : (n : ℕ) (key : InstKey C) → IsInstance lists.instances n key → key.method < length typings
  pub nodes : (n : ℕ) (key : InstKey C) (own : InstanceFlow) → IsInstance lists.instances n key → slice_get flows n ≡ Some own → KeepsNodes program key.method own.flow
  pub uses : (n : ℕ) (own : InstanceFlow) → slice_get flows n ≡ Some own → AreUses own.flow own.uses
  pub inside : (n : ℕ) (own : InstanceFlow) → slice_get flows n ≡ Some own → own.first + length own.flow ≤ count

-- an access of a node of the instance with that number, which runs
pub record NumberMakes {C : Type 0} (program : Program) (labels : Labels) (list : C → List ℕ) (lists : FactLists C) (typings : List (List (Option ℕ))) (flows : List InstanceFlow) (n : ℕ) (x : Item) : Type 0 where
  pub reached : Contains lists.facts (IsReached n)
  pub key : InstKey C
  pub is : IsInstance lists.instances n key
  pub typed : List (Option ℕ)
  pub heights : slice_get typings key.method ≡ Some typed
  pub own : InstanceFlow
  pub flow : slice_get flows n ≡ Some own
  pub makes : InstanceMakes program labels (Known list lists) (instance_seen list key) typed own.flow own.uses own.first x

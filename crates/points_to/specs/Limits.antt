-- How many instances and objects a points-to analysis may have, and how many nodes the graph of a method (this project's own).
use Rattle.std.specs.Prelude.{◌≡◌, ◌⊎◌, ℕ, ◌<◌, List, Contains, length}
use Rattle.jo_ids.specs.declared.LimitKind.TheVariants.{M3, M4, M6}
use Rattle.jo_ids.specs.declared.ObjKey.{ObjKey}
use Rattle.jo_prog.specs.declared.program.Program.{Program}
use Rattle.dep_nodes.specs.OnceLists.{IsOnceEach}
use Rattle.dependence.specs.declared.facts.InstKey.{InstKey}
use Rattle.dependence.specs.declared.facts.FactCell.{FactCell}
use Rattle.dependence.specs.declared.facts.FactCell.TheVariants.{Field, Elements, Static}
use Rattle.dependence.specs.declared.facts.Fact.{Fact}
use Rattle.dependence.specs.declared.facts.Fact.TheVariants.{Reached, Holds, CellHolds}
use Rattle.dependence.specs.GraphsAsData.{HasMoreNodes}
use Rattle.flow_graph.specs.declared.wide.FlowFault.{FlowFault}
use Rattle.flow_graph.specs.declared.wide.FlowFault.TheVariants.{Limit as TooLarge, Memory as NoMemory}
use Rattle.points_to.specs.declared.faults.SolveFault.{SolveFault}
use Rattle.points_to.specs.declared.faults.SolveFault.TheVariants.{Limit, Memory}

-- the property holds of more things than that: so many differ
pub record HasMore {A : Type 0} (most : ℕ) (P : A → Type 0) : Type 0 where
  pub items : List A
  pub many : most < length items
  pub each : (x : A) → Contains items x → P x
  pub once : IsOnceEach items

-- ---- which objects a fact names

abbrev pub CellNames : FactCell (List ℕ) → ObjKey (List ℕ) → Type 0
CellNames (Field f base) o = o ≡ base
CellNames (Elements base) o = o ≡ base
CellNames (Static f) o = ⊥

abbrev pub NamesObject : Fact (List ℕ) → ObjKey (List ℕ) → Type 0
NamesObject (Holds i _ held) o = o ≡ held
NamesObject (CellHolds cell held) o = CellNames cell o ⊎ (o ≡ held)
NamesObject _ o = ⊥

-- ---- the limits

-- an instance runs
abbrev pub Runs : (Fact (List ℕ) → Type 0) → InstKey (List ℕ) → Type 0
Runs facts i = facts (Reached i)

-- a fact names the object
abbrev pub IsNamed : (Fact (List ℕ) → Type 0) → ObjKey (List ℕ) → Type 0
IsNamed facts o = (g : Fact (List ℕ)) × facts g × NamesObject g o

-- an instance runs whose method has a wide graph with more nodes than the limit
abbrev pub HasLargeGraph : Program → (Fact (List ℕ) → Type 0) → Type 0
HasLargeGraph program facts = (i : InstKey (List ℕ)) × facts (Reached i) × HasMoreNodes program i.method 16384

-- nothing is greater than its limit
pub record AreWithinLimits (program : Program) (facts : Fact (List ℕ) → Type 0) : Type 0 where
  pub few_instances : HasMore 20000 (Runs facts) → ⊥
  pub few_objects : HasMore 8192 (IsNamed facts) → ⊥
  pub small_graphs : HasLargeGraph program facts → ⊥

-- the quantity is greater than its limit, or memory was wanting
abbrev pub IsLimitOf : Program → (Fact (List ℕ) → Type 0) → SolveFault → Type 0
IsLimitOf program facts (Limit M3) = HasMore 20000 (Runs facts)
IsLimitOf program facts (Limit M4) = HasMore 8192 (IsNamed facts)
IsLimitOf program facts (Limit M6) = HasLargeGraph program facts
IsLimitOf program facts (Limit _) = ⊥
IsLimitOf program facts Memory = Unit {0}

-- why a method isn't looked up, as a fault of the whole
abbrev pub fault_of : FlowFault → SolveFault
fault_of (TooLarge kind) = Limit kind
fault_of NoMemory = Memory

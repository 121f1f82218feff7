-- Which edges from a node are kept, looked up once a node (this project's own form).
use Rattle.std.specs.Prelude.{◌≡◌, ◌↔◌, ℕ, Bool, true, List, Contains, Some, length}
use Rattle.jo_prog.specs.declared.program.Program.{Program}
use Rattle.dep_nodes.specs.declared.kinds.NodeKind.{NodeKind}
use Rattle.dep_nodes.specs.declared.kinds.NodeKind.TheVariants.{Exit, Instr, Call, Throw, Catch, XPoll}
use Rattle.dependence.specs.declared.flows.FlowRow.{FlowRow}
use Rattle.dependence.specs.declared.facts.Fact.{Fact}
use Rattle.dependence.specs.declared.facts.Fact.TheVariants.{Holds}
use Rattle.dependence.specs.FlowData.{EdgeIn}
use Rattle.dependence.specs.GraphsAsData.{kind_at}
use Rattle.dependence.specs.FlowGraph.{AnObject, CatchesFirst, PassesAll, MayThrowAt, KeptFrom}
use Rattle.instance_flows.specs.declared.keeping.Way.{Way}
use Rattle.instance_flows.specs.declared.keeping.Way.TheVariants.{Row, Out}
use Rattle.instance_flows.specs.declared.keeping.Keeps.{Keeps}
use Rattle.instance_flows.specs.declared.keeping.Keeps.TheVariants.{All, Raising, Ends, Ways}
use Rattle.instance_flows.specs.Raising.{alone}

-- how an exception leaves a pc: by the first row that catches it, or out of the method
abbrev pub IsWay : Program → ℕ → ℕ → Way → AnObject → Type 0
IsWay program m pc (Row k) o = CatchesFirst program m pc k o
IsWay program m pc Out o = PassesAll program m pc o

-- the edge to a node is kept
abbrev pub Allows : Keeps → NodeKind → Type 0
Allows All b = Unit {0}
Allows (Raising raises) (Throw p) = raises ≡ true
Allows (Raising raises) _ = Unit {0}
Allows (Ends throws stalls) (Throw p) = throws ≡ true
Allows (Ends throws stalls) Exit = stalls ≡ true
Allows (Ends throws stalls) _ = Unit {0}
Allows (Ways ways) (Catch k) = Contains ways (Row k)
Allows (Ways ways) (XPoll p k) = Contains ways (Row k)
Allows (Ways ways) Exit = Contains ways Out
Allows (Ways ways) _ = Unit {0}

-- whether the instruction at a node may throw at its own pc
abbrev pub RaisesAt : Program → (Fact (List ℕ) → Type 0) → (ℕ → ℕ → Type 0) → ℕ → NodeKind → Bool → Type 0
RaisesAt program facts H m (Instr pc) raises = (raises ≡ true) ↔ MayThrowAt program facts H (alone m) pc
RaisesAt program facts H m (Call pc) raises = (raises ≡ true) ↔ MayThrowAt program facts H (alone m) pc
RaisesAt program facts H m _ raises = Unit {0}

-- what is kept from a node of this kind is what the facts ask for
abbrev pub KeepsAt : Program → (Fact (List ℕ) → Type 0) → (ℕ → ℕ → Type 0) → ℕ → NodeKind → Keeps → Type 0
KeepsAt program facts H m kind keeps = (to : NodeKind) → Allows keeps to ↔ KeptFrom program facts H (alone m) kind to

-- an edge of the wide graph that the facts keep
pub record IsKeptEdge (program : Program) (facts : Fact (List ℕ) → Type 0) (H : ℕ → ℕ → Type 0) (m : ℕ) (wide : List FlowRow) (a b : ℕ) : Type 0 where
  pub edge : EdgeIn wide a b
  pub from : NodeKind
  pub is_from : kind_at wide a ≡ Some from
  pub to : NodeKind
  pub is_to : kind_at wide b ≡ Some to
  pub kept : KeptFrom program facts H (alone m) from to

-- the graph has exactly these edges
pub record AreKept (program : Program) (facts : Fact (List ℕ) → Type 0) (H : ℕ → ℕ → Type 0) (m : ℕ) (wide kept : List FlowRow) : Type 0 where
  pub same_length : length kept ≡ length wide
  pub edges : (a b : ℕ) → EdgeIn kept a b ↔ IsKeptEdge program facts H m wide a b

-- some object that may be thrown at a pc leaves it so
abbrev pub IsWayOf : Program → (Fact (List ℕ) → Type 0) → ℕ → ℕ → Way → Type 0
IsWayOf program facts m pc way = (o : AnObject) × facts (Holds (alone m) (Throw pc) o) × IsWay program m pc way o

-- an edge of the wide graph leads there, and is kept
pub record IsKeptEnd (wide : List FlowRow) (keeps : Keeps) (a b : ℕ) : Type 0 where
  pub edge : EdgeIn wide a b
  pub to : NodeKind
  pub is_to : kind_at wide b ≡ Some to
  pub allowed : Allows keeps to

-- one end to which the edges are kept
abbrev pub IsAllowedAt : List FlowRow → Keeps → ℕ → ℕ → Type 0
IsAllowedAt wide keeps end x = (x ≡ end) × ((to : NodeKind) × (kind_at wide x ≡ Some to) × Allows keeps to)

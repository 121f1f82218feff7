-- Facts that name only nodes of wide graphs, as those do that rules give (this project's own).
use Rattle.std.specs.Prelude.{ℕ}
use Rattle.jo_prog.specs.declared.program.Program.{Program}
use Rattle.jo_prog.specs.TypingPaths.{HasHeightAt}
use Rattle.dep_nodes.specs.declared.kinds.NodeKind.{NodeKind}
use Rattle.dep_nodes.specs.declared.kinds.NodeKind.TheVariants.{Call, Throw, Arg}
use Rattle.dependence.specs.declared.flow.Place.{Place}
use Rattle.dependence.specs.declared.facts.Fact.{Fact}
use Rattle.dependence.specs.declared.facts.Fact.TheVariants.{Holds, Target, Fork}
use Rattle.dependence.specs.WideGraph.{IsWideNode}
use Rattle.dependence.specs.NodePlaces.{ArgumentPlace}

-- a Throw that holds an object is a node of the wide graph, and an Arg is an argument of its call
abbrev pub IsThere : Program → ℕ → NodeKind → Type 0
IsThere program m (Throw pc) = IsWideNode program m (Throw pc)
IsThere program m (Arg pc k) = (v : Place) × ArgumentPlace program m (HasHeightAt program m) pc k v
IsThere program m _ = Unit {0}

-- and a call that has a target is a node of it
abbrev pub HasItsNodes : {C : Type 0} → Program → Fact C → Type 0
HasItsNodes program (Holds i kind o) = IsThere program i.method kind
HasItsNodes program (Target i pc j) = IsWideNode program i.method (Call pc)
HasItsNodes program (Fork i pc j) = IsWideNode program i.method (Call pc)
HasItsNodes program _ = Unit {0}

-- Derivable facts name nodes of wide graphs alone (this project's own).
use Rattle.std.specs.Prelude.{ℕ, List}
use Rattle.jo_prog.specs.declared.program.Program.{Program}
use Rattle.jo_prog.specs.TypingPaths.{HasHeightAt}
use Rattle.dep_nodes.specs.declared.kinds.NodeKind.{NodeKind}
use Rattle.dep_nodes.specs.declared.kinds.NodeKind.TheVariants.{Call, Throw, Arg}
use Rattle.dependence.specs.declared.flow.Place.{Place}
use Rattle.dependence.specs.declared.facts.Fact.{Fact}
use Rattle.dependence.specs.declared.facts.Fact.TheVariants.{Holds, Target, Fork}
use Rattle.dependence.specs.WideGraph.{IsWideNode}
use Rattle.dependence.specs.NodePlaces.{ArgumentPlace}

-- a Throw that holds an object is a node of the wide graph, and an Arg is an argument of its call
abbrev pub HolderIsThere : Program → ℕ → NodeKind → Type 0
HolderIsThere program m (Throw pc) = IsWideNode program m (Throw pc)
HolderIsThere program m (Arg pc k) = (v : Place) × ArgumentPlace program m (HasHeightAt program m) pc k v
HolderIsThere program m _ = Unit {0}

-- a call that has a target is a node of it, and so is the Throw to which an exception of a target in the same thread comes
abbrev pub NodesAreThere : Program → Fact (List ℕ) → Type 0
NodesAreThere program (Holds i kind o) = HolderIsThere program i.method kind
NodesAreThere program (Target i pc j) = IsWideNode program i.method (Call pc) × IsWideNode program i.method (Throw pc)
NodesAreThere program (Fork i pc j) = IsWideNode program i.method (Call pc)
NodesAreThere program _ = Unit {0}

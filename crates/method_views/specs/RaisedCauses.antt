-- Which exceptions the instructions of an instance may raise, as pairs (this project's own form).
use Rattle.std.specs.Prelude.{ℕ, List}
use Rattle.jo_prog.specs.declared.program.Program.{Program}
use Rattle.dep_nodes.specs.declared.kinds.NodeKind.TheVariants.{Throw}
use Rattle.dependence.specs.declared.facts.InstKey.{InstKey}
use Rattle.dependence.specs.declared.facts.Fact.{Fact}
use Rattle.dependence.specs.WideGraph.{IsWideNode}
use Rattle.dependence.specs.FlowGraph.{Raises}
use Rattle.method_views.specs.declared.raised.Raised.{Raised}

abbrev pub IsRaised : Program → (Fact (List ℕ) → Type 0) → (ℕ → ℕ → Type 0) → InstKey (List ℕ) → Raised → Type 0
IsRaised program facts H i r = IsWideNode program i.method (Throw r.pc) × Raises program facts H i r.pc r.cause

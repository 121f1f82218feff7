-- The edges and flow edges between calls and their targets, by themselves: those of the same names of EdgeByWord and IsGraphFlow.
use Rattle.std.specs.Prelude.{ℕ, List}
use Rattle.dep_nodes.specs.declared.kinds.NodeKind.TheVariants.{Entry, Exit, Call, RetVal, RetKind, Throw, Arg, Param, Kind, Value, Thrown}
use Rattle.dep_nodes.specs.declared.kinds.EdgeKind.TheVariants.{Arg as ArgEdge, Call as CallEdge, Ret, Fork as ForkEdge}
use Rattle.dependence.specs.declared.facts.InstKey.{InstKey}
use Rattle.dependence.specs.declared.facts.Fact.{Fact}
use Rattle.dependence.specs.declared.facts.Fact.TheVariants.{Target, Fork}
use Rattle.sdg.specs.Links.{by_word, by_flow, Link, link}
use Rattle.sdg.specs.NamedGraphs.{Spot, spot}

pub data ByTarget (facts : Fact (List ℕ) → Type 0) : Link Spot → Type 0 where
  gives_argument : (i j : InstKey (List ℕ)) (pc k : ℕ) → facts (Target i pc j) → ByTarget facts (link (spot i (Arg pc k)) (by_word ArgEdge) (spot j (Param k)))
  calls : (i j : InstKey (List ℕ)) (pc : ℕ) → facts (Target i pc j) → ByTarget facts (link (spot i (Call pc)) (by_word CallEdge) (spot j Entry))
  comes_back : (i j : InstKey (List ℕ)) (pc : ℕ) → facts (Target i pc j) → ByTarget facts (link (spot j Kind) (by_word Ret) (spot i (RetKind pc)))
  brings_value : (i j : InstKey (List ℕ)) (pc : ℕ) → facts (Target i pc j) → ByTarget facts (link (spot j Value) (by_word Ret) (spot i (RetVal pc)))
  brings_exception : (i j : InstKey (List ℕ)) (pc : ℕ) → facts (Target i pc j) → ByTarget facts (link (spot j Thrown) (by_word Ret) (spot i (Throw pc)))
  behind_call : (i j : InstKey (List ℕ)) (pc : ℕ) → facts (Target i pc j) → ByTarget facts (link (spot j Exit) by_flow (spot i (RetKind pc)))
  starts : (i j : InstKey (List ℕ)) (pc : ℕ) → facts (Fork i pc j) → ByTarget facts (link (spot i (Call pc)) (by_word ForkEdge) (spot j Entry))
  starts_on : (i j : InstKey (List ℕ)) (pc : ℕ) → facts (Fork i pc j) → ByTarget facts (link (spot i (Arg pc 0)) (by_word ForkEdge) (spot j (Param 0)))

-- Links as the dependence graph of a program has them.
use Rattle.std.specs.Prelude.{ℕ, List}
use Rattle.jo_prog.specs.declared.program.Program.{Program}
use Rattle.jo_prog.specs.declared.labels.Labels.{Labels}
use Rattle.contexts.specs.Policies.{ContextPolicy}
use Rattle.dep_nodes.specs.declared.kinds.EdgeKind.{EdgeKind}
use Rattle.dep_nodes.specs.declared.kinds.EdgeKind.TheVariants.{Arg, Call, Ret, Fork}
use Rattle.dependence.specs.declared.facts.Fact.{Fact}
use Rattle.dependence.specs.DependenceEdges.{IsGraphNode, EdgeByWord, IsGraphFlow}
use Rattle.sdg.specs.Links.{Tie, by_word, by_flow, Link}
use Rattle.sdg.specs.NamedGraphs.{Spot}

-- an edge by its word, or a flow edge where both nodes are there
abbrev pub TiedByRule : Program → Labels → ContextPolicy → (Fact (List ℕ) → Type 0) → (ℕ → ℕ → ℕ → Type 0) → Spot → Tie → Spot → Type 0
TiedByRule program labels policy facts H from (by_word word) to = EdgeByWord program labels policy facts H from.instance from.kind word to.instance to.kind
TiedByRule program labels policy facts H from by_flow to =
    IsGraphNode program labels policy facts H from.instance from.kind → IsGraphNode program labels policy facts H to.instance to.kind
    → IsGraphFlow program labels policy facts H from.instance from.kind to.instance to.kind

abbrev pub LinkByRule : Program → Labels → ContextPolicy → (Fact (List ℕ) → Type 0) → (ℕ → ℕ → ℕ → Type 0) → Link Spot → Type 0
LinkByRule program labels policy facts H l = TiedByRule program labels policy facts H l.from l.tie l.to

-- the words of edges between calls and their targets
abbrev pub IsTargetWord : EdgeKind → Type 0
IsTargetWord Arg = Unit {0}
IsTargetWord Call = Unit {0}
IsTargetWord Ret = Unit {0}
IsTargetWord Fork = Unit {0}
IsTargetWord _ = ⊥

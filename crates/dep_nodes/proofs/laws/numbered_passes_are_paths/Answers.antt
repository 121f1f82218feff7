use Rattle.dep_nodes.specs.GrowingGraphs.{HasEdge}
use Rattle.dep_nodes.specs.NumberedChains.{name_at}
use Rattle.dep_nodes.proofs.Passes.{edges_instead}
use Rattle.dep_nodes.proofs.laws.numbered_passes_are_paths.Goals as goal

pub returns : goal.returns
returns c = λ nodes from to chain. edges_instead (name_at nodes) (HasEdge nodes) from to chain

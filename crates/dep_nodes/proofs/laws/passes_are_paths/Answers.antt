use Rattle.dep_nodes.specs.Graphs.{GraphEdge}
use Rattle.dep_nodes.specs.Chains.{itself}
use Rattle.dep_nodes.proofs.Passes.{edges_instead}
use Rattle.dep_nodes.proofs.laws.passes_are_paths.Goals as goal

pub returns : goal.returns
returns c = λ graph from to chain. edges_instead itself (GraphEdge graph) from to chain

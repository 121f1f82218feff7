use Rattle.std.proofs.Common.{[]}
use Rattle.dep_nodes.proofs.ChainLemmas.{path_then}
use Rattle.dep_nodes.proofs.laws.matched_paths_compose.Goals as goal

pub returns : goal.returns
returns g c = record {
  paths = λ a b d first second. path_then g.N.Edges.name g.N.Edges.leads [] [] a b d first second;
  rests = λ calls under a b d first second. path_then g.N.Edges.name g.N.Edges.leads calls under a b d first second;
}

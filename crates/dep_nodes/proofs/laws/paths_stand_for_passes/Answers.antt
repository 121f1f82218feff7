use Rattle.std.proofs.Common.{[]}
use Rattle.dep_nodes.proofs.ChainLemmas.{path_edges, path_end, path_leaves, path_instead}
use Rattle.dep_nodes.proofs.laws.paths_stand_for_passes.Goals as goal

pub returns : goal.returns
returns g c = record {
  edges = λ from to path. path_edges g.N.Edges.name g.N.Edges.leads [] from to path;
  ends = λ from to path. path_end g.N.Edges.name g.N.Edges.leads [] from to path;
  leaves = λ calls from to path. path_leaves g.N.Edges.name g.N.Edges.leads [] calls from to path;
  chain = λ calls from to links more path chain. path_instead g.N.Edges.name g.N.Edges.leads calls from to links more path chain;
}

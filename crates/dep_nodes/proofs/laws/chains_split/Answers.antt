use Rattle.dep_nodes.proofs.ChainLemmas.{split_chain, left_once}
use Rattle.dep_nodes.proofs.laws.chains_split.Goals as goal

pub returns : goal.returns
returns g c = record {
  parts = λ calls from links more chain. split_chain g.N.Edges.name g.N.Edges.leads calls from links more chain;
  once = λ calls one two from links first second. left_once g.N.Edges.name g.N.Edges.leads calls one two from links first second;
}

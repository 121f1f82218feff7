use Rattle.dep_nodes.proofs.ChainLemmas.{append_chain}
use Rattle.dep_nodes.proofs.laws.chains_append.Goals as goal

pub returns : goal.returns
returns g c = λ calls left from links more first second. append_chain g.N.Edges.name g.N.Edges.leads calls left from links more first second

use Rattle.dep_nodes.proofs.BalancedLemmas.{matched_is_balanced}
use Rattle.dep_nodes.proofs.laws.matched_paths_are_balanced.Goals as goal

pub returns : goal.returns
returns g c = λ from to. matched_is_balanced g.N.Edges.name g.N.Edges.leads from to

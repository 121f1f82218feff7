use Rattle.plain_graph.proofs.ChainWalks.{edges_inside, no_fork}
use Rattle.plain_graph.proofs.laws.graphs_have_edges_inside.Goals as goal

pub returns-clause-inside : goal.returns-clause-inside
returns-clause-inside c = edges_inside

pub returns-clause-no_fork : goal.returns-clause-no_fork
returns-clause-no_fork c = no_fork

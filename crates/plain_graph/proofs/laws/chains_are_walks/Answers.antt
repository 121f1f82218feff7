use Rattle.plain_graph.proofs.ChainWalks.{chains_are_walks}
use Rattle.plain_graph.proofs.laws.chains_are_walks.Goals as goal

pub returns : goal.returns
returns c = λ program labels graph i j a b whole at to. chains_are_walks program labels graph whole i j a b at to

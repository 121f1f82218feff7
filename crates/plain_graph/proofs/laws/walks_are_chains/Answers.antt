use Rattle.plain_graph.proofs.ChainWalks.{walk_is_valid, walk_ends}
use Rattle.plain_graph.proofs.laws.walks_are_chains.Goals as goal

pub returns-clause-valid : goal.returns-clause-valid
returns-clause-valid c = λ program labels graph i a steps whole at walk. walk_is_valid program labels graph whole i a steps at walk

pub returns-clause-end : goal.returns-clause-end
returns-clause-end c = λ program labels graph i a steps whole at walk. walk_ends program labels graph whole i a steps at walk

use Rattle.std.proofs.Common.{[]}
use Rattle.plain_graph.proofs.ChainWalks.{chain_of_program}
use Rattle.plain_graph.proofs.laws.chains_are_of_the_program.Goals as goal

pub returns : goal.returns
returns c = λ program labels graph from links whole. chain_of_program program labels graph whole [] from links

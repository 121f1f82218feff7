use Rattle.control_dep.proofs.PairLemmas.{two_by_length}
use Rattle.control_dep.proofs.pairs.branches.Goals as goal

pub returns : goal.returns
returns c = two_by_length c.args.successors.now c.requires

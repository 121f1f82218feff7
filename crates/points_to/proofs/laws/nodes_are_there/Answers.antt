use Rattle.points_to.proofs.NodesThereLemmas.{derivable_nodes}
use Rattle.points_to.proofs.ClosureLemmas.{sound, complete, names_running}
use Rattle.points_to.proofs.laws.nodes_are_there.Goals as goal

pub returns : goal.returns
returns c = let a = sound in let b = complete in let d = names_running in λ program policy entry g derivable. derivable_nodes program policy entry g derivable

use Rattle.dependence.proofs.OpcodeLemmas.{writes_none}
use Rattle.dependence.proofs.laws.throwers_write_no_local.Goals as goal

pub returns : goal.returns
returns c = writes_none

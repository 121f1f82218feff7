use Rattle.step_laws.proofs.KeptLemmas.{written_kept}
use Rattle.step_laws.proofs.laws.written_cells_keep_typing.Goals as goal

pub returns : goal.returns
returns c = written_kept

use Rattle.kept_laws.proofs.PathLemmas.{prolonged}
use Rattle.kept_laws.proofs.laws.typing_paths_go_on.Goals as goal

pub returns : goal.returns
returns c = prolonged

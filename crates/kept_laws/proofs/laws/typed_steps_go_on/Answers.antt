use Rattle.kept_laws.proofs.WholeLemmas.{enabled_typed}
use Rattle.kept_laws.proofs.laws.typed_steps_go_on.Goals as goal

pub returns : goal.returns
returns c = enabled_typed

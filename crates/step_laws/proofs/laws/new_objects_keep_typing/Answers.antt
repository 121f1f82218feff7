use Rattle.step_laws.proofs.NewLemmas.{new_kept}
use Rattle.step_laws.proofs.laws.new_objects_keep_typing.Goals as goal

pub returns : goal.returns
returns c = new_kept

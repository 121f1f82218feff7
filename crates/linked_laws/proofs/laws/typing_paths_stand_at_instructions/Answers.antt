use Rattle.linked_laws.proofs.ReachLemmas.{reached_listed}
use Rattle.linked_laws.proofs.laws.typing_paths_stand_at_instructions.Goals as goal

pub returns : goal.returns
returns c = reached_listed

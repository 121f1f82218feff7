use Rattle.linked_laws.proofs.CallFaultLemmas.{calls_sound}
use Rattle.linked_laws.proofs.laws.calls_without_faults_are_sound.Goals as goal

pub returns : goal.returns
returns c = calls_sound

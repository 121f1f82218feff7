use Rattle.linked_laws.proofs.MethodLemmas.{sound_methods}
use Rattle.linked_laws.proofs.laws.methods_without_faults_are_sound.Goals as goal

pub returns : goal.returns
returns c = sound_methods

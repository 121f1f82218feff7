use Rattle.linked_laws.proofs.PoolLemmas.{sound_pools}
use Rattle.linked_laws.proofs.laws.linked_programs_have_sound_pools.Goals as goal

pub returns : goal.returns
returns c = λ files sound none. sound_pools files c.classes_fit.ensures sound none

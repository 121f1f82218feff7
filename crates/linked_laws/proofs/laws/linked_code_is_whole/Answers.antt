use Rattle.linked_laws.proofs.InsnFileLemmas.{sound_insns}
use Rattle.linked_laws.proofs.laws.linked_code_is_whole.Goals as goal

pub returns : goal.returns
returns c = sound_insns

use Rattle.linked_laws.proofs.SoundFiles.{read_is_sound}
use Rattle.linked_laws.proofs.laws.classes_are_sound.Goals as goal

pub returns : goal.returns
returns c = read_is_sound

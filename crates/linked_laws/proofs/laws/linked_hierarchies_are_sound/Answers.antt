use Rattle.linked_laws.proofs.FileLemmas.{hierarchy_of_files}
use Rattle.linked_laws.proofs.laws.linked_hierarchies_are_sound.Goals as goal

pub returns : goal.returns
returns c = hierarchy_of_files

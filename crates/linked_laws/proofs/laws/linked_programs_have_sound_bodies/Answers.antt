use Rattle.linked_laws.proofs.BodyFileLemmas.{bodies_of_files}
use Rattle.linked_laws.proofs.laws.linked_programs_have_sound_bodies.Goals as goal

pub returns : goal.returns
returns c = bodies_of_files

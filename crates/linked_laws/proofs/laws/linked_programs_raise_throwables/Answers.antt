use Rattle.linked_laws.proofs.FileLemmas.{raised_of_files}
use Rattle.linked_laws.proofs.laws.linked_programs_raise_throwables.Goals as goal

pub returns : goal.returns
returns c = raised_of_files

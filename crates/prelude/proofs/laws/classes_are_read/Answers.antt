use Rattle.prelude.proofs.EachRead.{files_read}
use Rattle.prelude.proofs.laws.classes_are_read.Goals as goal

pub returns : goal.returns
returns c = files_read

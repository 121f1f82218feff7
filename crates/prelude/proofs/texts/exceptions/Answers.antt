use Rattle.std.proofs.Common.{refl}
use Rattle.prelude.specs.Texts.{exceptions}
use Rattle.prelude.proofs.texts.exceptions.Goals as goal

pub returns-clause-rows : goal.returns-clause-rows
unfolding exceptions
returns-clause-rows c = refl

pub returns-clause-count : goal.returns-clause-count
returns-clause-count c = refl

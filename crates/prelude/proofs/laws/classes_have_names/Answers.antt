use Rattle.prelude.proofs.EachText.{classes_named}
use Rattle.prelude.proofs.laws.classes_have_names.Goals as goal

pub returns : goal.returns
returns c = classes_named

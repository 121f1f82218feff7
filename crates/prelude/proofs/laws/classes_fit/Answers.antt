use Rattle.prelude.proofs.PreludeLists.{all_fit}
use Rattle.prelude.proofs.laws.classes_fit.Goals as goal

pub returns : goal.returns
returns c = all_fit c.assembled_fits.ensures

use Rattle.class_pool.proofs.GrammarFits.{what_is_read_fits}
use Rattle.class_pool.proofs.laws.what_is_read_fits.Goals as goal

pub returns : goal.returns
returns c = what_is_read_fits

use Rattle.class_asm.proofs.ClassFits.{assembled_fits}
use Rattle.class_asm.proofs.laws.assembled_fits.Goals as goal

pub returns : goal.returns
returns c = assembled_fits

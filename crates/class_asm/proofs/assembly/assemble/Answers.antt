use Rattle.class_asm.proofs.ClassFits.{assembled_fits}
use Rattle.class_asm.proofs.assembly.assemble.Goals as goal

pub returns-in-Ok-clause-fits : goal.returns-in-Ok-clause-fits
returns-in-Ok-clause-fits c = assembled_fits c.args.text.now c.in-Ok.class c.in-Ok.ensures

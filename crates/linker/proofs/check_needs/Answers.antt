use Rattle.std.proofs.Common.{sym, ◌∙◌}
use Rattle.linker.proofs.ToldLemmas.{told_missing, none_missing}
use Rattle.linker.proofs.check_needs.Goals as goal

pub returns-in-Ok-None-clause-none : goal.returns-in-Ok-None-clause-none
returns-in-Ok-None-clause-none c =
    none_missing c.args.classes.now c.args.names.now c.requires.names c.requires.once (sym c.in-Ok-None.field-0-is ∙ c.in-Ok-None.ensures)

pub returns-in-Ok-Some-clause-fault : goal.returns-in-Ok-Some-clause-fault
returns-in-Ok-Some-clause-fault c =
    told_missing c.args.classes.now c.args.names.now c.in-Ok-Some.class c.requires.names c.requires.once (sym c.in-Ok-Some.field-0-is ∙ c.in-Ok-Some.ensures)

use Rattle.std.proofs.Common.{sym, ◌∙◌}
use Rattle.linker.proofs.ToldLemmas.{told_body, told_init, none_told}
use Rattle.linker.proofs.check_bodies.Goals as goal

pub returns-in-Some-clause-fault : goal.returns-in-Some-clause-fault
returns-in-Some-clause-fault c = told_body c.args.classes.now c.in-Some.class c.requires.none (sym c.in-Some.is ∙ c.interface_body.ensures)

pub returns-in-None-static_init-clause-none : goal.returns-in-None-static_init-clause-none
returns-in-None-static_init-clause-none c =
    none_told c.args.classes.now c.requires.none (sym c.in-None.is ∙ c.interface_body.ensures) (sym c.in-None-static_init.is ∙ c.static_init.ensures)

pub returns-in-Some-static_init-clause-fault : goal.returns-in-Some-static_init-clause-fault
returns-in-Some-static_init-clause-fault c =
    told_init c.args.classes.now c.in-Some-static_init.class c.requires.none (sym c.in-None.is ∙ c.interface_body.ensures) (sym c.in-Some-static_init.is ∙ c.static_init.ensures)

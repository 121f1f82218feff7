use Rattle.std.proofs.Common.{sym, subst}
use Rattle.jo_prog.specs.declared.program.Program.{Program}
use Rattle.hierarchy.specs.Hierarchies.{HasItsParents}
use Rattle.linker.specs.LinkOrder.{IsProgramAnswer, HasNoProgramFault}
use Rattle.linker.proofs.ParentsThere.{parents_there}
use Rattle.linker.proofs.ToldLemmas.{told_by_program, none_in_program}
use Rattle.linker.proofs.checked_program.Goals as goal

pub check_program-requires-clause-there : goal.check_program-requires-clause-there
check_program-requires-clause-there c = subst HasItsParents (sym c.in-Ok-program_among.ensures.program) (parents_there c.args.classes.now)

pub returns-in-Err-check_program-clause-fault : goal.returns-in-Err-check_program-clause-fault
returns-in-Err-check_program-clause-fault c =
    told_by_program c.args.classes.now c.in-Err-check_program.cause.code c.in-Err-check_program.cause.class c.in-Ok.ensures.none
    (subst (λ (p : Program). IsProgramAnswer p c.in-Err-check_program.cause.code c.in-Err-check_program.cause.class) c.in-Ok-program_among.ensures.program c.in-Err-check_program.ensures.fault)

pub check_bodies-requires-clause-none : goal.check_bodies-requires-clause-none
check_bodies-requires-clause-none c =
    none_in_program c.args.classes.now c.in-Ok.ensures.none (subst HasNoProgramFault c.in-Ok-program_among.ensures.program c.in-Ok-check_program.ensures.none)

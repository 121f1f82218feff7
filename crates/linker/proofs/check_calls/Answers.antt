use Rattle.std.proofs.Common.{subst}
use Rattle.program_faults.specs.BodyFaults.{IsNotImplemented}
use Rattle.program_faults.specs.FirstFaults.{IsFirstIfAny}
use Rattle.linker.proofs.ToldLemmas.{told_bodiless, none_of_program}
use Rattle.linker.proofs.check_calls.Goals as goal

pub returns-in-Ok-None-clause-none : goal.returns-in-Ok-None-clause-none
returns-in-Ok-None-clause-none c =
    none_of_program c.args.program.now c.requires.supers c.requires.members (subst (IsFirstIfAny (IsNotImplemented c.args.program.now)) c.in-Ok-None.field-0-is c.in-Ok-None.ensures)

pub returns-in-Ok-Some-clause-fault : goal.returns-in-Ok-Some-clause-fault
returns-in-Ok-Some-clause-fault c =
    told_bodiless c.args.program.now c.in-Ok-Some.class c.requires.supers c.requires.members
    (subst (IsFirstIfAny (IsNotImplemented c.args.program.now)) c.in-Ok-Some.field-0-is c.in-Ok-Some.ensures)

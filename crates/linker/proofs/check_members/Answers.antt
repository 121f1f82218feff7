use Rattle.std.proofs.Common.{subst}
use Rattle.program_faults.specs.MemberFaults.{LacksMember}
use Rattle.program_faults.specs.FirstFaults.{IsFirstIfAny}
use Rattle.linker.proofs.ToldLemmas.{told_member}
use Rattle.linker.proofs.check_members.Goals as goal

pub returns-in-Ok-Some-clause-fault : goal.returns-in-Ok-Some-clause-fault
returns-in-Ok-Some-clause-fault c =
    told_member c.args.program.now c.in-Ok-Some.class c.requires.supers (subst (IsFirstIfAny (LacksMember c.args.program.now)) c.in-Ok-Some.field-0-is c.in-Ok-Some.ensures)

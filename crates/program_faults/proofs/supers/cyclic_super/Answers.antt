use Rattle.std.proofs.Common.{ℕ, Option, sym, subst}
use Rattle.jo_prog.specs.Hierarchy.{IsAboveItself}
use Rattle.program_faults.specs.FirstFaults.{IsFirstIfAny}
use Rattle.program_faults.specs.SuperFaults.{HasMisplacedParent, IsSuperFault}
use Rattle.program_faults.proofs.FirstLemmas.{none_of_both, first_of_second}
use Rattle.program_faults.proofs.SuperLemmas.{no_cycle, earliest}
use Rattle.program_faults.proofs.supers.cyclic_super.Goals as goal

pub returns-in-None-clause-none : goal.returns-in-None-clause-none
returns-in-None-clause-none c =
    let program = c.args.program.now in
    none_of_both (IsAboveItself program) (HasMisplacedParent program) (λ k. no_cycle program k c.in-Ok.ensures.ok.no_cycle)
    (subst (λ (o : Option ℕ). IsFirstIfAny (HasMisplacedParent program) o) c.in-None.is c.misplaced_parent-misplaced.ensures)

pub returns-in-Some-clause-fault : goal.returns-in-Some-clause-fault
returns-in-Some-clause-fault c =
    let program = c.args.program.now in
    first_of_second (IsAboveItself program) (HasMisplacedParent program) c.in-Some.class (λ k. no_cycle program k c.in-Ok.ensures.ok.no_cycle)
    (subst (λ (o : Option ℕ). IsFirstIfAny (HasMisplacedParent program) o) c.in-Some.is c.misplaced_parent-misplaced.ensures)

pub returns-in-Err-clause-fault : goal.returns-in-Err-clause-fault
returns-in-Err-clause-fault c =
    subst (IsSuperFault c.args.program.now) (sym c.earlier_fault.ensures)
    (earliest c.args.program.now c.in-Err.fault c.misplaced_parent-misplaced.result c.in-Err.ensures.fault c.misplaced_parent-misplaced.ensures)

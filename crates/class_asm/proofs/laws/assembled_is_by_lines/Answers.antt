use Rattle.class_asm.proofs.TextsAgree.{says, faults}
use Rattle.class_asm.proofs.laws.assembled_is_by_lines.Goals as goal

pub returns-clause-class : goal.returns-clause-class
returns-clause-class c = λ text class. says text class

pub returns-clause-fault : goal.returns-clause-fault
returns-clause-fault c = λ text fault. faults text fault

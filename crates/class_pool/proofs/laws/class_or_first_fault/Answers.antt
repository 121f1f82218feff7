use Rattle.class_pool.proofs.FirstFaultClass.{class_or_fault, not_both, one_fault}
use Rattle.class_pool.proofs.laws.class_or_first_fault.Goals as goal

pub returns : goal.returns
returns c = record { either = class_or_fault; not_both = not_both; one = one_fault }

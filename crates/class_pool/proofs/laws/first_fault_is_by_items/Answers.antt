use Rattle.class_pool.proofs.FirstFaultClass.{first_fault}
use Rattle.class_pool.proofs.laws.first_fault_is_by_items.Goals as goal

pub returns : goal.returns
returns c = λ file f all. first_fault file all f

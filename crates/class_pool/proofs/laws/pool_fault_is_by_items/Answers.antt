use Rattle.jo_insn.proofs.Numbers.{are_bytes, bytes_behind}
use Rattle.class_pool.proofs.FirstFaultReferences.{pool_fault}
use Rattle.class_pool.proofs.laws.pool_fault_is_by_items.Goals as goal

pub returns : goal.returns
returns c = λ file f all. pool_fault file f (bytes_behind 8 file (are_bytes file all))

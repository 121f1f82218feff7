use Rattle.jo_insn.proofs.Numbers.{are_bytes}
use Rattle.class_pool.proofs.FirstFaultCode.{code_fault}
use Rattle.class_pool.proofs.laws.code_fault_is_by_items.Goals as goal

pub returns : goal.returns
returns c = λ size pool place count rest f all. code_fault size pool place count rest f (are_bytes rest all)

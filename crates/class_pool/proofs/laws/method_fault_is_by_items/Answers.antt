use Rattle.jo_insn.proofs.Numbers.{are_bytes}
use Rattle.class_pool.proofs.FirstFaultMethods.{method_fault}
use Rattle.class_pool.proofs.laws.method_fault_is_by_items.Goals as goal

pub returns : goal.returns
returns c = λ size pool rest f all. method_fault size pool rest f (are_bytes rest all)

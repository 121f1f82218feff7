use Rattle.jo_order.proofs.OrderLemmas.{one_fault, no_fault}
use Rattle.jo_order.proofs.laws.one_fault.Goals as goal

pub returns : goal.returns
returns c = record { fault = one_fault; order = no_fault }

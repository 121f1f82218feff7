use Rattle.class_dis.proofs.OperandsThere.{operands_there}
use Rattle.class_dis.proofs.laws.operands_are_there.Goals as goal

pub returns : goal.returns
returns c = operands_there

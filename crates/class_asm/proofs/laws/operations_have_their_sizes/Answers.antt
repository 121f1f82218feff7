use Rattle.class_asm.proofs.OperationSizes.{operations_have_their_sizes}
use Rattle.class_asm.proofs.laws.operations_have_their_sizes.Goals as goal

pub returns : goal.returns
returns c = operations_have_their_sizes

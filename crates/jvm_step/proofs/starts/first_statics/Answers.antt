use Rattle.std.proofs.Common.{arith}
use Rattle.std.proofs.lemmas.Grind.{common_steps}
use Rattle.jo_prog.specs.Machine.{first_statics}
use Rattle.jvm_step.proofs.starts.first_statics.Goals as goal

pub returns : goal.returns
unfolding first_statics
returns c = grind (arith, common_steps)

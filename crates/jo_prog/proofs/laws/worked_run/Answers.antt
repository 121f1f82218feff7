use Rattle.std.proofs.Common.{refl}
use Rattle.jo_insn.specs.Opcodes.{opcodes, row_of}
use Rattle.jo_insn.specs.Instructions.{decoded}
use Rattle.jo_prog.specs.Operations.{operation_of}
use Rattle.jo_prog.specs.Runs.{run_from}
use Rattle.jo_prog.proofs.laws.worked_run.Goals as goal

pub returns-clause-shown : goal.returns-clause-shown
unfolding opcodes row_of decoded operation_of run_from
returns-clause-shown c = refl

pub returns-clause-ended : goal.returns-clause-ended
unfolding opcodes row_of decoded operation_of run_from
returns-clause-ended c = refl

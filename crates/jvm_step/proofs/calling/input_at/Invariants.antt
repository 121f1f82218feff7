use Rattle.std.proofs.Common.{◌≡◌, drop}
use Rattle.jo_prog.specs.Machine.{input_at}
use Rattle.jvm_step.proofs.calling.input_at.Given as goal

abbrev pub invariant-loop-input : goal.invariant-loop-input
invariant-loop-input l = input_at (drop l.input-index l.inputs) l.source l.place ≡ input_at l.inputs l.source l.place

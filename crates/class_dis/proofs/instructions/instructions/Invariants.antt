use Rattle.std.proofs.Common.{◌-◌, length}
use Rattle.class_dis.proofs.InsnSteps.{FindsOn}
use Rattle.class_dis.proofs.instructions.instructions.Given as goal

abbrev pub invariant-loop-insn : goal.invariant-loop-insn
invariant-loop-insn l = FindsOn l.code l.insns l.pc

abbrev pub decreases-loop-insn : goal.decreases-loop-insn
decreases-loop-insn l = length l.code - l.pc

use Rattle.std.proofs.Common.{◌-◌, length}
use Rattle.jo_prog.proofs.InsnSteps.{FindsOn}
use Rattle.jo_prog.proofs.sites.instructions.Given as goal

abbrev pub invariant-loop-insn : goal.invariant-loop-insn
invariant-loop-insn l = FindsOn l.bytes l.insns l.pc

abbrev pub decreases-loop-insn : goal.decreases-loop-insn
decreases-loop-insn l = length l.bytes - l.pc

use Rattle.std.proofs.Common.{◌-◌, length}
use Rattle.class_read.proofs.InsnsRead.{ReadsOn}
use Rattle.class_read.proofs.instructions.instructions.Given as goal

abbrev pub invariant-loop-pc : goal.invariant-loop-pc
invariant-loop-pc l = ReadsOn l.place l.pool l.code l.insns l.pc

abbrev pub decreases-loop-pc : goal.decreases-loop-pc
decreases-loop-pc l = length l.code - l.pc

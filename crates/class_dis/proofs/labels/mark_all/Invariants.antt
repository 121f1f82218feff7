use Rattle.std.proofs.Common.{◌≡◌, drop}
use Rattle.jo_insn.specs.Marks.{marked}
use Rattle.class_dis.proofs.labels.mark_all.Given as goal

abbrev pub invariant-loop-pc : goal.invariant-loop-pc
invariant-loop-pc l = marked l.marks (drop l.pc-index l.pcs) ≡ marked l.fn.marks l.pcs

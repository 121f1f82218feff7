use Rattle.std.proofs.Common.{◌≡◌, drop}
use Rattle.std.specs.List.{list_all}
use Rattle.jo_insn.specs.Marks.{is_marked}
use Rattle.class_read.proofs.jumps.are_marked.Given as goal

abbrev pub invariant-loop-pc : goal.invariant-loop-pc
invariant-loop-pc l = list_all (is_marked l.starts) (drop l.pc-index l.pcs) ≡ list_all (is_marked l.starts) l.pcs

use Rattle.std.proofs.Common.{◌≡◌, drop}
use Rattle.jo_insn.specs.Marks.{is_marked}
use Rattle.class_read.specs.Starts.{rows_by}
use Rattle.class_read.proofs.jumps.check_rows.Given as goal

abbrev pub invariant-loop-k : goal.invariant-loop-k
invariant-loop-k l = rows_by (is_marked l.starts) l.pool l.size l.k (drop l.k l.rows) ≡ rows_by (is_marked l.starts) l.pool l.size 0 l.rows

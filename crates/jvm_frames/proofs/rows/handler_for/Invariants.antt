use Rattle.std.proofs.Common.{◌≡◌, drop}
use Rattle.jo_prog.specs.Rows.{row_from, row_for}
use Rattle.jvm_frames.proofs.rows.handler_for.Given as goal

abbrev pub invariant-loop-row : goal.invariant-loop-row
invariant-loop-row l = row_from l.program l.pc l.class l.row-index (drop l.row-index l.rows) ≡ row_for l.program l.rows l.pc l.class

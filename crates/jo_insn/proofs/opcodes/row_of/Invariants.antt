use Rattle.std.proofs.Common.{◌≡◌, ◌==◌, drop, map}
use Rattle.jo_insn.specs.Opcodes
use Rattle.jo_insn.specs.Rows.{seen}
use Rattle.jo_insn.proofs.opcodes.row_of.Given as goal

abbrev pub invariant-loop-row : goal.invariant-loop-row
invariant-loop-row l = Opcodes.first_row (λ row. row.code == l.op) (map seen (drop l.row-index l.row-items)) ≡ Opcodes.row_of l.op

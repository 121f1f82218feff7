use Rattle.std.proofs.Common.{◌≡◌, drop, map, option_map}
use Rattle.std.specs.Str.{bytes_eq}
use Rattle.jo_insn.specs.Opcodes
use Rattle.jo_insn.specs.Rows.{seen}
use Rattle.jo_insn.proofs.opcodes.opcode_named.Given as goal

abbrev pub invariant-loop-row : goal.invariant-loop-row
invariant-loop-row l = option_map (λ (row : Opcodes.Opcode). row.code) (Opcodes.first_row (λ row. bytes_eq row.name l.name) (map seen (drop l.row-index l.row-items))) ≡ Opcodes.opcode_named l.name

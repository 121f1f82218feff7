-- The rows of the tables in the code, as the tables of specs have them.
use Rattle.std.specs.Prelude.{ℕ, List}
use Rattle.jo_insn.specs.declared.opcodes.Opcode as code
use Rattle.jo_insn.specs.declared.array_kinds.NamedKind.{NamedKind}
use Rattle.jo_insn.specs.Opcodes.{Opcode, entry}

-- the row that a row of the code stands for
abbrev pub seen : code.Opcode → Opcode
seen r = entry r.code r.name.now r.operands

abbrev pub seen_kind : NamedKind → ℕ × List ℕ
seen_kind r = (r.kind, r.name.now)

-- What an instruction makes, apart for newarray and the others (this project's own).
use Rattle.std.specs.Prelude.{ℕ, ◌==◌, if◌then◌else◌, Option, Some, None, option_and_then}
use Rattle.jo_insn.specs.declared.instructions.Insn.{Insn}
use Rattle.jo_insn.specs.declared.instructions.Insn.TheVariants.{Array as ArrayInsn}
use Rattle.jo_prog.specs.declared.program.Program.{Program}
use Rattle.jo_prog.specs.declared.program.TypeRef.{TypeRef}
use Rattle.jo_prog.specs.Sites.{opcode_of}
use Rattle.dependence.specs.WideGraph.{operand_of}
use Rattle.dependence.specs.FlowGraph.{element_base, array_with, array_over, type_in}

-- the kind of array that newarray makes
abbrev pub array_kind : Insn → Option ℕ
array_kind (ArrayInsn kind) = Some kind
array_kind _ = None

abbrev pub made_as : Program → ℕ → Option ℕ → Insn → ℕ → Option TypeRef
made_as program m (Some kind) insn next = array_with 1 (element_base kind)
made_as program m None insn next =
    if opcode_of insn == 187 then type_in (operand_of program m (Some (insn, next)))
    else option_and_then (array_over program) (type_in (operand_of program m (Some (insn, next))))

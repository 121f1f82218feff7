-- What the instructions of a class name by indices of its constant pool (JVM Specification SE 8, 4.4 and 6.5).
use Rattle.std.specs.Prelude.{ℕ, ◌^◌, nat_lt, if◌then◌else◌, List, [], ◌∷◌, length, Option, Some, None, option_and_then, slice_get}
use Rattle.std.specs.List.{flat_map}
use Rattle.jo_insn.specs.declared.instructions.Insn.{Insn}
use Rattle.jo_insn.specs.declared.instructions.Insn.TheVariants.{Pooled}
use Rattle.jo_insn.specs.declared.jumps.Placed.{Placed}
use Rattle.jo_prog.specs.declared.program.Program.{Program}
use Rattle.jo_prog.specs.declared.program.Class.{Class}
use Rattle.jo_prog.specs.declared.program.Code.{Code}
use Rattle.jo_prog.specs.declared.program.Operand.{Operand}
use Rattle.jo_prog.specs.Program.{class_at, code_at}
use Rattle.jo_prog.specs.Sites.{insns_in}
use Rattle.program_faults.specs.declared.uses.Use.{Use}

abbrev pub used_by : Insn → List Use
used_by (Pooled op index) = record { op = op; index = index } ∷ []
used_by _ = []

abbrev pub used_at : Placed → List Use
used_at placed = used_by placed.insn

-- code has fewer than 65,536 bytes (4.7.3), so longer code has no instructions
abbrev pub used_in : Option Code → List Use
used_in None = []
used_in (Some code) = if nat_lt (length code.bytes) (2 ^ 16) then flat_map used_at (insns_in code.bytes) else []

abbrev pub used_in_method : Program → ℕ → List Use
used_in_method program m = used_in (code_at program m)

abbrev pub methods_in : Option Class → List ℕ
methods_in None = []
methods_in (Some class) = class.methods

-- the methods of a class itself
abbrev pub methods_of : Program → ℕ → List ℕ
methods_of program c = methods_in (class_at program c)

-- what the instructions of a class name, in their order
abbrev pub uses_of : Program → ℕ → List Use
uses_of program c = flat_map (used_in_method program) (methods_of program c)

-- the operand with that index in the pool of a class
abbrev pub operand_in : Program → ℕ → ℕ → Option Operand
operand_in program c index = option_and_then (λ (class : Class). slice_get class.operands index) (class_at program c)

-- What the instructions of plain code do (JVM Specification SE 8, 6.5). Opcodes: 2 to 8 iconst_m1 to iconst_5, 21 iload,
-- 26 to 29 iload_0 to iload_3, 54 istore, 59 to 62 istore_0 to istore_3, 96 iadd, 100 isub, 177 return, 184 invokestatic.
use Rattle.std.specs.Prelude.{ℕ, ◌-◌, Bool, false, ◌&&◌, nat_le, ◌==◌, if◌then◌else◌, pos, ◌-ℤ◌}
use Rattle.jo_insn.specs.declared.instructions.Insn.{Insn}
use Rattle.jo_insn.specs.declared.instructions.Insn.TheVariants.{Plain, Local, Push, Pooled}
use Rattle.jo_prog.specs.declared.operations.Operation.{Operation}
use Rattle.jo_prog.specs.declared.operations.Operation.TheVariants.{Constant, Load, Store, Add, Subtract, InvokeStatic, Return, Other}

abbrev pub within : ℕ → ℕ → ℕ → Bool
within low high n = nat_le low n && nat_le n high

-- what an instruction does; one that `wide` widens is no plain code
unfoldable pub operation_of : Insn → Operation
operation_of (Plain op) =
    if within 2 8 op then Constant (pos op -ℤ pos 3)
    else if within 26 29 op then Load (op - 26)
    else if within 59 62 op then Store (op - 59)
    else if op == 96 then Add
    else if op == 100 then Subtract
    else if op == 177 then Return
    else Other
operation_of (Push op value) = Constant value
operation_of (Local op index false) = if op == 21 then Load index else if op == 54 then Store index else Other
operation_of (Pooled op index) = if op == 184 then InvokeStatic index else Other
operation_of _ = Other

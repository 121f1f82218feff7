-- What an instruction makes is what its kind says.
use Rattle.std.specs.Prelude.{option_and_then, if◌then◌else◌}
use Rattle.std.proofs.Common.{◌≡◌, ◌==◌, ℕ, true, false, Some, None, Result, Ok, Err, IfOk, refl, ap, sym}
use Rattle.jo_insn.specs.declared.instructions.Insn.{Insn}
use Rattle.jo_insn.specs.declared.instructions.Insn.TheVariants.{Plain, Local, Iinc, Push, Pooled, Array, Jump, TableSwitch, LookupSwitch}
use Rattle.jo_prog.specs.declared.program.Program.{Program}
use Rattle.jo_prog.specs.Sites.{opcode_of}
use Rattle.dependence.specs.WideGraph.{operand_of}
use Rattle.dependence.specs.FlowGraph.{type_made, type_in, array_over}
use Rattle.object_types.specs.Made.{array_kind, made_as}

pub made_is : (program : Program) (m : ℕ) (insn : Insn) (next : ℕ) → type_made program m (Some (insn, next)) ≡ made_as program m (array_kind insn) insn next
made_is program m (Plain op) next = refl
made_is program m (Local op index wide) next = refl
made_is program m (Iinc index by wide) next = refl
made_is program m (Push op value) next = refl
made_is program m (Pooled op index) next = refl
made_is program m (Array kind) next = refl
made_is program m (Jump op by) next = refl
made_is program m (TableSwitch other low high at) next = refl
made_is program m (LookupSwitch other pairs at) next = refl

pub if_ok_more : {T E : Type 0} {P Q : T → Type 0} (r : Result T E) → ((t : T) → P t → Q t) → IfOk r P → IfOk r Q
if_ok_more (Ok t) more p = more t p
if_ok_more (Err e) more p = p

pub made_new : (program : Program) (m : ℕ) (insn : Insn) (next : ℕ) → (opcode_of insn == 187) ≡ true → type_in (operand_of program m (Some (insn, next))) ≡ made_as program m None insn next
made_new program m insn next is = sym (ap (λ b. if b then type_in (operand_of program m (Some (insn, next))) else option_and_then (array_over program) (type_in (operand_of program m (Some (insn, next))))) is)

pub made_over : (program : Program) (m : ℕ) (insn : Insn) (next : ℕ) → (opcode_of insn == 187) ≡ false → option_and_then (array_over program) (type_in (operand_of program m (Some (insn, next)))) ≡ made_as program m None insn next
made_over program m insn next is = sym (ap (λ b. if b then type_in (operand_of program m (Some (insn, next))) else option_and_then (array_over program) (type_in (operand_of program m (Some (insn, next))))) is)

-- The instructions of all methods by their pcs (this project's own).
use Rattle.std.specs.Prelude.{◌≡◌, ℕ, ◌^◌, Bool, true, false, nat_lt, if◌then◌else◌, pos, List, length, Option, Some, None, slice_get, IfSome, Vec}
use Rattle.std.specs.declared.alloc.Global.{Global}
use Rattle.std.specs.Option.{option_flatten}
use Rattle.jo_insn.specs.declared.instructions.Insn.{Insn}
use Rattle.jo_insn.specs.declared.instructions.Insn.TheVariants.{Pooled}
use Rattle.jo_insn.specs.declared.jumps.Placed.{Placed}
use Rattle.jo_insn.specs.Instructions.{decoded}
use Rattle.jo_insn.specs.Jumps.{is_start}
use Rattle.jo_prog.specs.declared.program.Program.{Program}
use Rattle.jo_prog.specs.declared.program.Code.{Code}
use Rattle.jo_prog.specs.Program.{code_at}
use Rattle.jo_prog.specs.Sites.{insns_in}
use Rattle.machine.specs.Instructions.{Instruction, calls, with_next, instruction_in, instruction_at}
use Rattle.jvm_values.specs.declared.resolved.Resolved.{Resolved}
use Rattle.resolved_insns.specs.declared.table.Instructions.{Instructions}
use Rattle.jvm_values.specs.Resolved.{IsSeenAt}

abbrev pub slot : List (Option Resolved) → ℕ → Option Resolved
slot row pc = option_flatten (slice_get row pc)

-- a slot has what is decoded at its pc
abbrev pub IsSlot : Program → ℕ → List ℕ → ℕ → Option Resolved → Type 0
IsSlot program m code pc found = IsSeenAt program (with_next program m code pc (decoded code pc)) found

-- only an instruction that names an operand may be a call
abbrev pub is_pooled : Insn → Bool
is_pooled (Pooled op index) = true
is_pooled _ = false

abbrev pub is_call : Option (Instruction × ℕ) → Bool
is_call (Some (calls op owner method count, next)) = true
is_call _ = false

-- a slot has what is decoded at its pc, and no call is missing
abbrev pub IsCallIn : Program → Option (Instruction × ℕ) → Option Resolved → Type 0
IsCallIn program wanted None = is_call wanted ≡ false
IsCallIn program wanted (Some found) = IsSeenAt program wanted (Some found)

abbrev pub HasCall : Program → ℕ → List ℕ → ℕ → Option Resolved → Type 0
HasCall program m code pc found = IsCallIn program (with_next program m code pc (decoded code pc)) found

abbrev pub HasCalls : Program → ℕ → List ℕ → List (Option Resolved) → Type 0
HasCalls program m code row = (pc : ℕ) → HasCall program m code pc (slot row pc)

-- what is found is right
abbrev pub IsSound : Program → ℕ → List ℕ → List (Option Resolved) → Type 0
IsSound program m code row = (pc : ℕ) → IfSome (slot row pc) (λ found. IsSlot program m code pc (Some found))

-- and where one of these instructions starts, nothing is missing, and nowhere a call
pub record IsWhole (program : Program) (m : ℕ) (code : List ℕ) (insns : List Placed) (row : List (Option Resolved)) : Type 0 where
  pub sound : IsSound program m code row
  pub whole : (pc : ℕ) → is_start insns (pos pc) ≡ true → IsSlot program m code pc (slot row pc)
  pub calls : HasCalls program m code row

-- some instruction starts at a pc, when code is read from its first byte on; code has fewer than 65,536 bytes (JVMS 4.7.3), so longer
-- code has no instructions
abbrev pub starts_in : Option Code → ℕ → Bool
starts_in None pc = true
starts_in (Some code) pc = if nat_lt (length code.bytes) (2 ^ 16) then is_start (insns_in code.bytes) (pos pc) else true

abbrev pub starts_at : Program → ℕ → ℕ → Bool
starts_at program m pc = starts_in (code_at program m) pc

pub record IsRowIn (program : Program) (m : ℕ) (code : Option Code) (row : List (Option Resolved)) : Type 0 where
  pub sound : (pc : ℕ) → IfSome (slot row pc) (λ found. IsSeenAt program (instruction_in program m code pc) (Some found))
  pub whole : (pc : ℕ) → starts_in code pc ≡ true → IsSeenAt program (instruction_in program m code pc) (slot row pc)
  pub calls : (pc : ℕ) → slot row pc ≡ None → is_call (instruction_in program m code pc) ≡ false

abbrev pub IsRowOf : Program → ℕ → List (Option Resolved) → Type 0
IsRowOf program m row = IsRowIn program m (code_at program m) row

abbrev pub row_items : Vec (Option Resolved) Global → List (Option Resolved)
row_items row = row.items

abbrev pub found_at : Option (Vec (Option Resolved) Global) → ℕ → Option Resolved
found_at None pc = None
found_at (Some row) pc = slot row.items pc

abbrev pub found_in : Instructions → ℕ → ℕ → Option Resolved
found_in instructions m pc = found_at (slice_get instructions.rows.items m) pc

-- What is found is the machine's instruction, none is missing at a pc at which one starts, and no call is missing at any pc.
pub record AreInstructionsOf (program : Program) (instructions : Instructions) : Type 0 where
  pub sound : (m pc : ℕ) → IfSome (found_in instructions m pc) (λ found. IsSeenAt program (instruction_at program m pc) (Some found))
  pub whole : (m pc : ℕ) → starts_at program m pc ≡ true → IsSeenAt program (instruction_at program m pc) (found_in instructions m pc)
  pub calls : (m pc : ℕ) → found_in instructions m pc ≡ None → is_call (instruction_at program m pc) ≡ false

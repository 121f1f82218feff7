-- Code in memory, against the definitions.
use Rattle.std.specs.Prelude.{ℕ, ◌+◌, ◌*◌, ◌^◌, ◌<◌, length, Result, Ok, Err}
use Rattle.class_pool.specs.declared.faults.ClassCode.{ClassCode}
use Rattle.class_pool.specs.declared.faults.ClassFault.{ClassFault}
use Rattle.class_pool.specs.Items.{fault}
use Rattle.class_pool.specs.ClassOrder as ClassOrder
use Rattle.class_read.specs.declared.code.Spelled.{Spelled}

-- what was read of an attribute Code
abbrev pub spelled_of : Spelled → ClassOrder.Spelled
spelled_of s = record { max_stack = s.max_stack; max_locals = s.max_locals; code_place = s.code_place; code = s.code.now; rows_place = s.rows_place; rows = s.rows }

-- its code is short, and the places of its code and of its rows are numbers of 32 bits
abbrev pub HasRoom : Spelled → Type 0
HasRoom s = (length s.code.now < 2 ^ 16) × (s.code_place + length s.code.now < 2 ^ 32) × (s.rows_place + 8 * length s.rows < 2 ^ 32)

-- ---- instructions

-- what is read at a pc of code that stands at this place of the file
abbrev pub located : {A : Type 0} → ℕ → Result A (ClassCode × ℕ) → Result A ClassFault
located place (Ok x) = Ok x
located place (Err (code, pc)) = Err (fault code (place + pc))

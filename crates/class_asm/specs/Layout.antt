-- Where the lines of a method's code stand, and its labels (this project's own; sizes of instructions by the JVM
-- Specification SE 8, 6.5).
use Rattle.std.specs.Prelude.{ℕ, ◌+◌, ◌*◌, Bool, true, false, not, if◌then◌else◌, List, [], ◌∷◌, ◌++◌, length, Option, Some, None}
use Rattle.std.specs.Str.{bytes_eq}
use Rattle.jo_insn.specs.declared.opcodes.Operands.{Operands}
use Rattle.jo_insn.specs.declared.opcodes.Operands.TheVariants.{SignedByte, PoolByte, PoolShortAndTwo, OffsetInt}
use Rattle.jo_insn.specs.Opcodes.{operands_of}
use Rattle.jo_insn.specs.Instructions.{offsets_at, pairs_at}
use Rattle.asm_text.specs.declared.statements.Operation.{Operation}
use Rattle.asm_text.specs.declared.statements.Operation.TheVariants.{Plain, Local, Iinc, Push, Load, OfClass, OfMember, NewArray, Jump, TableSwitch, LookupSwitch}
use Rattle.asm_text.specs.declared.statements.Statement.{Statement}
use Rattle.asm_text.specs.declared.statements.Statement.TheVariants.{Label, Instruction, Catch, End}
use Rattle.asm_text.specs.declared.texts.NumberedLine.{NumberedLine}

-- ---- which lines count

-- a line that ends a method's code
abbrev pub ends : Option Statement → Bool
ends (Some End) = true
ends _ = false

-- the lines of the code that begins here, without `end` and what follows it
abbrev pub body_of : List NumberedLine → List NumberedLine
body_of [] = []
body_of (line ∷ more) = if ends line.said then [] else line ∷ body_of more

-- labels and instructions stand in code, and rows behind them
abbrev pub stands : Bool → Statement → Bool
stands caught (Label name) = not caught
stands caught (Instruction operation) = not caught
stands caught (Catch start end handler class) = true
stands caught _ = false

abbrev pub is_catch : Statement → Bool
is_catch (Catch start end handler class) = true
is_catch _ = false

-- ---- sizes

abbrev pub size_by : Bool → ℕ → ℕ → ℕ
size_by test more less = if test then more else less

abbrev pub is_byte_push : Option Operands → Bool
is_byte_push (Some SignedByte) = true
is_byte_push _ = false

abbrev pub is_byte_index : Option Operands → Bool
is_byte_index (Some PoolByte) = true
is_byte_index _ = false

abbrev pub is_interface_call : Option Operands → Bool
is_interface_call (Some PoolShortAndTwo) = true
is_interface_call _ = false

abbrev pub is_long_jump : Option Operands → Bool
is_long_jump (Some OffsetInt) = true
is_long_jump _ = false

-- the pc behind an operation that stands at this pc
abbrev pub pc_behind : ℕ → Operation → ℕ
pc_behind pc (Plain op) = pc + 1
pc_behind pc (Local op index wide) = pc + size_by wide 4 2
pc_behind pc (Iinc index by wide) = pc + size_by wide 6 3
pc_behind pc (Push op value) = pc + size_by (is_byte_push (operands_of op)) 2 3
pc_behind pc (Load op constant) = pc + size_by (is_byte_index (operands_of op)) 2 3
pc_behind pc (OfClass op class) = pc + 3
pc_behind pc (OfMember op member) = pc + size_by (is_interface_call (operands_of op)) 5 3
pc_behind pc (NewArray kind) = pc + 2
pc_behind pc (Jump op label) = pc + size_by (is_long_jump (operands_of op)) 5 3
pc_behind pc (TableSwitch low other labels) = offsets_at pc + 4 * length labels
pc_behind pc (LookupSwitch other cases) = pairs_at pc + 8 * length cases

abbrev pub pc_after : ℕ → Statement → ℕ
pc_after pc (Instruction operation) = pc_behind pc operation
pc_after pc _ = pc

-- ---- labels

-- a label that is set: its name, the number of its line, and its pc
pub record Setting : Type 0 where
  pub name : List ℕ
  pub line : ℕ
  pub pc : ℕ

-- the first setting of a label
abbrev pub setting_of : List Setting → List ℕ → Option Setting
setting_of [] name = None
setting_of (setting ∷ more) name = if bytes_eq name setting.name then Some setting else setting_of more name

-- a label keeps its first setting
abbrev pub first_set : List Setting → Setting → Option Setting → List Setting
first_set settings setting None = settings ++ setting ∷ []
first_set settings setting (Some earlier) = settings

abbrev pub set_by : List Setting → ℕ → ℕ → Statement → List Setting
set_by settings number pc (Label name) = first_set settings (record { name = name; line = number; pc = pc }) (setting_of settings name)
set_by settings number pc _ = settings

-- A line outside the grammar, or where it can't stand, has no bytes and sets no label.
abbrev pub where_stands : {X : Type 0} → Bool → Option Statement → X → (Statement → X) → X
where_stands caught None skipped counted = skipped
where_stands caught (Some statement) skipped counted = if stands caught statement then counted statement else skipped

-- behind a line: whether a row was met, the pc, and the labels
abbrev pub next_caught : Bool → Option Statement → Bool
next_caught caught said = where_stands caught said caught is_catch

abbrev pub next_pc : Bool → ℕ → Option Statement → ℕ
next_pc caught pc said = where_stands caught said pc (pc_after pc)

abbrev pub next_settings : List Setting → Bool → ℕ → NumberedLine → List Setting
next_settings settings caught pc line = where_stands caught line.said settings (set_by settings line.number pc)

-- the settings with those of code that begins at this pc
abbrev pub settings_by : List Setting → Bool → ℕ → List NumberedLine → List Setting
settings_by settings caught pc [] = settings
settings_by settings caught pc (line ∷ more) = settings_by (next_settings settings caught pc line) (next_caught caught line.said) (next_pc caught pc line.said) more

-- the pc behind code that begins at this one
abbrev pub size_from : Bool → ℕ → List NumberedLine → ℕ
size_from caught pc [] = pc
size_from caught pc (line ∷ more) = size_from (next_caught caught line.said) (next_pc caught pc line.said) more

-- the labels of some code, and its size
abbrev pub settings_of : List NumberedLine → List Setting
settings_of body = settings_by [] false 0 body

abbrev pub size_of : List NumberedLine → ℕ
size_of body = size_from false 0 body

-- The bytes of operations, once labels have pcs (this project's own; JVM Specification SE 8, 4.7.3 and
-- 6.5). Each is in order, or has the lowest cause of a fault: a label that isn't set comes before what doesn't fit its field.
use Rattle.std.specs.Prelude.{ℕ, ◌-◌, ◌%◌, ◌^◌, Bool, true, false, ◌&&◌, not, nat_lt, if◌then◌else◌, ℤ, pos, int_lt, unsigned_abs, ◌+ℤ◌, ◌-ℤ◌, List, [], ◌∷◌, ◌++◌, length, replicate, Option, Some, None, Result, Ok, Err}
use Rattle.std.specs.List.{list_all}
use Rattle.std.specs.Option.{is_some}
use Rattle.byteorder.specs.Endian.{big_bytes}
use Rattle.jo_insn.specs.declared.opcodes.Operands.{Operands}
use Rattle.jo_insn.specs.declared.opcodes.Operands.TheVariants.{SignedByte, PoolByte, OffsetInt}
use Rattle.jo_insn.specs.Opcodes.{operands_of}
use Rattle.jo_insn.specs.Instructions.{u2, s1, s2, s4, padding_at}
use Rattle.class_pool.specs.declared.entries.PoolEntry.{PoolEntry}
use Rattle.class_pool.specs.Code.{argument_words}
use Rattle.asm_text.specs.declared.statements.Number.{Number}
use Rattle.asm_text.specs.declared.statements.Number.TheVariants.{Of, TooLarge}
use Rattle.asm_text.specs.declared.statements.Member.{Member}
use Rattle.asm_text.specs.declared.statements.Case.{Case}
use Rattle.asm_text.specs.declared.statements.Operation.{Operation}
use Rattle.asm_text.specs.declared.statements.Operation.TheVariants.{Plain, Local, Iinc, Push, Load, OfClass, OfMember, NewArray, Jump, TableSwitch, LookupSwitch}
use Rattle.class_asm.specs.declared.causes.Cause.{Cause}
use Rattle.class_asm.specs.declared.causes.Cause.TheVariants.{Label, Range}
use Rattle.class_asm.specs.Needs.{need_class, need_constant, need_member, reference_by}
use Rattle.class_asm.specs.Layout.{Setting, setting_of, is_interface_call}

infixl 10 ◌>>=◌
abbrev pub ◌>>=◌ : {A B E : Type 0} → Result A E → (A → Result B E) → Result B E
(Err fault) >>= f = Err fault
(Ok x) >>= f = f x

-- bytes in front of others, where there is no fault in these
abbrev pub behind : List ℕ → Result (List ℕ) Cause → Result (List ℕ) Cause
behind front (Ok part) = Ok (front ++ part)
behind front (Err cause) = Err cause

-- ---- numbers in their fields

abbrev pub in_range : {A : Type 0} → Bool → A → Result A Cause
in_range test x = if test then Ok x else Err Range

-- a number from 0 on, below a limit
abbrev pub unsigned_in : ℕ → Number → Result ℕ Cause
unsigned_in limit (Of z) = in_range (not (int_lt z (pos 0)) && nat_lt (unsigned_abs z) limit) (unsigned_abs z)
unsigned_in limit TooLarge = Err Range

-- a number of two's complement, whose field holds twice as many numbers
abbrev pub fits_half : ℕ → ℤ → Bool
fits_half half z = not (int_lt z (pos 0 -ℤ pos half)) && int_lt z (pos half)

abbrev pub signed_in : ℕ → Number → Result ℤ Cause
signed_in half (Of z) = in_range (fits_half half z) z
signed_in half TooLarge = Err Range

abbrev pub whole : Number → Result ℤ Cause
whole (Of z) = Ok z
whole TooLarge = Err Range

abbrev pub whole_in : ℤ → Result ℤ Cause
whole_in z = in_range (fits_half (2 ^ 31) z) z

-- ---- labels

-- where a label is set
abbrev pub pc_in : Option Setting → Result ℕ Cause
pc_in None = Err Label
pc_in (Some setting) = Ok setting.pc

abbrev pub pc_of : List Setting → List ℕ → Result ℕ Cause
pc_of settings name = pc_in (setting_of settings name)

-- whether all of these labels are set
abbrev pub is_set : List Setting → List ℕ → Bool
is_set settings name = is_some (setting_of settings name)

abbrev pub are_set : List Setting → List (List ℕ) → Bool
are_set settings names = list_all (is_set settings) names

abbrev pub are_cases_set : List Setting → List Case → Bool
are_cases_set settings cases = list_all (λ (case : Case). is_set settings case.label) cases

-- ---- offsets: how far a label is from the pc of an instruction

abbrev pub offset_in : ℕ → ℕ → ℕ → Result ℤ Cause
offset_in half pc at = in_range (fits_half half (pos at -ℤ pos pc)) (pos at -ℤ pos pc)

-- in four bytes
abbrev pub long_offset : List Setting → ℕ → List ℕ → Result (List ℕ) Cause
long_offset settings pc name = do
  at ← pc_of settings name
  by ← offset_in (2 ^ 31) pc at
  Ok (s4 by)

abbrev pub long_offsets : List Setting → ℕ → List (List ℕ) → Result (List ℕ) Cause
long_offsets settings pc [] = Ok []
long_offsets settings pc (name ∷ more) = do
  first ← long_offset settings pc name
  others ← long_offsets settings pc more
  Ok (first ++ others)

-- ---- pool entries

abbrev pub or_range : {X : Type 0} → Option X → Result X Cause
or_range None = Err Range
or_range (Some x) = Ok x

-- what an operation needs of the pool, and its index; 0 where it needs nothing
unfoldable pub need_operand : Operation → List PoolEntry → Result (List PoolEntry × ℕ) Cause
need_operand (Load op constant) pool = or_range (need_constant constant pool)
need_operand (OfClass op class) pool = or_range (need_class class pool)
need_operand (OfMember op member) pool = or_range (need_member (reference_by op) member pool)
need_operand _ pool = Ok (pool, 0)

-- ---- bytes

-- behind the index of an invokeinterface stand the count of its argument words and a zero
abbrev pub call_table : ℕ → Member → List ℕ
call_table op member = if is_interface_call (operands_of op) then (argument_words member.desc % 256) ∷ 0 ∷ [] else []

-- opcode 196 is `wide`, before an opcode whose local has two bytes
abbrev pub local_bytes : ℕ → Number → Bool → Result (List ℕ) Cause
local_bytes op index false = do
  n ← unsigned_in 256 index
  Ok (op ∷ n ∷ [])
local_bytes op index true = do
  n ← unsigned_in 65536 index
  Ok (196 ∷ op ∷ u2 n)

-- opcode 132
abbrev pub iinc_bytes : Number → Number → Bool → Result (List ℕ) Cause
iinc_bytes index by false = do
  n ← unsigned_in 256 index
  z ← signed_in 128 by
  Ok (132 ∷ n ∷ s1 z)
iinc_bytes index by true = do
  n ← unsigned_in 65536 index
  z ← signed_in 32768 by
  Ok (196 ∷ 132 ∷ u2 n ++ s2 z)

abbrev pub push_bytes : ℕ → Number → Option Operands → Result (List ℕ) Cause
push_bytes op value (Some SignedByte) = do
  z ← signed_in 128 value
  Ok (op ∷ s1 z)
push_bytes op value _ = do
  z ← signed_in 32768 value
  Ok (op ∷ s2 z)

-- a pool index of one byte or of two
abbrev pub load_bytes : ℕ → ℕ → Option Operands → Result (List ℕ) Cause
load_bytes op entry (Some PoolByte) = in_range (nat_lt entry 256) (op ∷ entry ∷ [])
load_bytes op entry _ = Ok (op ∷ u2 entry)

abbrev pub jump_to : ℕ → ℕ → ℕ → Option Operands → Result (List ℕ) Cause
jump_to pc op at (Some OffsetInt) = do
  by ← offset_in (2 ^ 31) pc at
  Ok (op ∷ s4 by)
jump_to pc op at _ = do
  by ← offset_in (2 ^ 15) pc at
  Ok (op ∷ s2 by)

abbrev pub jump_bytes : List Setting → ℕ → ℕ → List ℕ → Result (List ℕ) Cause
jump_bytes settings pc op label = do
  at ← pc_of settings label
  jump_to pc op at (operands_of op)

-- a switch: its opcode and its padding
abbrev pub switch_head : ℕ → ℕ → List ℕ
switch_head op pc = op ∷ replicate (padding_at pc) 0

-- its default, the least and the greatest of so many keys
abbrev pub table_front : List Setting → ℕ → Number → List ℕ → ℕ → Result (List ℕ) Cause
table_front settings pc low other count = do
  least ← whole low
  most ← whole_in (least +ℤ pos (count - 1))
  default ← long_offset settings pc other
  Ok (switch_head 170 pc ++ default ++ s4 least ++ s4 most)

-- and an offset for each key
abbrev pub table_set : List Setting → ℕ → Number → List ℕ → List (List ℕ) → Result (List ℕ) Cause
table_set settings pc low other labels = do
  count ← in_range (nat_lt (length labels) (2 ^ 32)) (length labels)
  front ← table_front settings pc low other count
  behind front (long_offsets settings pc labels)

abbrev pub table_bytes : List Setting → ℕ → Number → List ℕ → List (List ℕ) → Result (List ℕ) Cause
table_bytes settings pc low other labels = if is_set settings other && are_set settings labels then table_set settings pc low other labels else Err Label

-- a key and an offset for each case
abbrev pub case_bytes : List Setting → ℕ → List Case → Result (List ℕ) Cause
case_bytes settings pc [] = Ok []
case_bytes settings pc (case ∷ more) = do
  key ← whole case.key
  offset ← long_offset settings pc case.label
  others ← case_bytes settings pc more
  Ok ((s4 key ++ offset) ++ others)

-- its default, the count of its cases, and these
abbrev pub lookup_set : List Setting → ℕ → List ℕ → List Case → Result (List ℕ) Cause
lookup_set settings pc other cases = do
  count ← in_range (nat_lt (length cases) (2 ^ 31)) (length cases)
  default ← long_offset settings pc other
  behind (switch_head 171 pc ++ default ++ big_bytes 4 count) (case_bytes settings pc cases)

abbrev pub lookup_bytes : List Setting → ℕ → List ℕ → List Case → Result (List ℕ) Cause
lookup_bytes settings pc other cases = if is_set settings other && are_cases_set settings cases then lookup_set settings pc other cases else Err Label

-- the bytes of an operation at a pc, whose operand has this index in the pool; opcode 188 is newarray
unfoldable pub operation_bytes : List Setting → ℕ → ℕ → Operation → Result (List ℕ) Cause
operation_bytes settings pc entry (Plain op) = Ok (op ∷ [])
operation_bytes settings pc entry (Local op index wide) = local_bytes op index wide
operation_bytes settings pc entry (Iinc index by wide) = iinc_bytes index by wide
operation_bytes settings pc entry (Push op value) = push_bytes op value (operands_of op)
operation_bytes settings pc entry (Load op constant) = load_bytes op entry (operands_of op)
operation_bytes settings pc entry (OfClass op class) = Ok (op ∷ u2 entry)
operation_bytes settings pc entry (OfMember op member) = Ok (op ∷ u2 entry ++ call_table op member)
operation_bytes settings pc entry (NewArray kind) = Ok (188 ∷ kind ∷ [])
operation_bytes settings pc entry (Jump op label) = jump_bytes settings pc op label
operation_bytes settings pc entry (TableSwitch low other labels) = table_bytes settings pc low other labels
operation_bytes settings pc entry (LookupSwitch other cases) = lookup_bytes settings pc other cases

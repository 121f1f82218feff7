-- The instructions of the profile: how each is spelled at a pc, and what stands at a pc of some code
-- (JVM Specification SE 8, 4.9.1 and 6.5). This project's own: which faults there are, and which of two comes first; and
-- that the padding of switches and the count and zero behind the index of an invokeinterface may be any bytes.
use Rattle.std.specs.Prelude.{◌≡◌, ℕ, zero, suc, ◌+◌, ◌-◌, ◌*◌, ◌%◌, ◌^◌, ◌<◌, ◌≤◌, Bool, true, false, ◌&&◌, nat_lt, nat_le, ◌==◌, if◌then◌else◌, ℤ, ◌-ℤ◌, ◌≤ℤ◌, int_lt, unsigned_abs, List, [], ◌∷◌, ◌++◌, length, take, drop, replicate, Option, Some, None, Result, Ok, Err}
use Rattle.std.specs.Int.{w8, w16, w32, cast_unsigned}
use Rattle.std.specs.Int.RustNames.{FitsSigned}
use Rattle.std.specs.List.{list_any}
use Rattle.byteorder.specs.Endian.{big_number, big_bytes, twos_complement}
use Rattle.jo_insn.specs.declared.opcodes.Operands.{Operands}
use Rattle.jo_insn.specs.declared.opcodes.Operands.TheVariants.{NoOperand, SignedByte, SignedShort, LocalByte, LocalAndStep, WidePrefix, PoolByte, PoolShort, PoolShortAndTwo, ArrayKind, OffsetShort, OffsetInt, OffsetTable, KeyTable}
use Rattle.jo_insn.specs.declared.instructions.Insn.{Insn}
use Rattle.jo_insn.specs.declared.instructions.Insn.TheVariants.{Plain, Local, Iinc, Push, Pooled, Array, Jump, TableSwitch, LookupSwitch}
use Rattle.jo_insn.specs.declared.instructions.InsnFault.{InsnFault}
use Rattle.jo_insn.specs.declared.instructions.InsnFault.TheVariants.{Cut, Unknown, Outside, Malformed}
use Rattle.jo_insn.specs.Opcodes.{operands_of}

-- ---- numbers

-- an unsigned number in two bytes, the highest first; signed ones in one, two and four
abbrev pub u2 : ℕ → List ℕ
u2 n = big_bytes 2 n

abbrev pub s1 : ℤ → List ℕ
s1 z = big_bytes 1 (cast_unsigned w8 z)

abbrev pub s2 : ℤ → List ℕ
s2 z = big_bytes 2 (cast_unsigned w16 z)

abbrev pub s4 : ℤ → List ℕ
s4 z = big_bytes 4 (cast_unsigned w32 z)

-- ---- switches

-- how many bytes stand between the opcode of a switch at this pc and the next multiple of four
abbrev pub padding_at : ℕ → ℕ
padding_at pc = 3 - pc % 4

-- the place of the offsets of a tableswitch at this pc, behind its default, low and high
abbrev pub offsets_at : ℕ → ℕ
offsets_at pc = pc + 1 + padding_at pc + 12

-- the place of the pairs of a lookupswitch at this pc, behind its default and count
abbrev pub pairs_at : ℕ → ℕ
pairs_at pc = pc + 1 + padding_at pc + 8

-- how many offsets a tableswitch has: one for each number from low to high
abbrev pub offsets_between : ℤ → ℤ → ℕ
offsets_between low high = unsigned_abs (high -ℤ low) + 1

-- the keys of so many pairs of a key and an offset
abbrev pub keys_of : ℕ → List ℕ → List ℤ
keys_of zero table = []
keys_of (suc n) table = twos_complement 4 (big_number 4 table) ∷ keys_of n (drop 8 table)

-- each number is less than the next
abbrev pub rises : List ℤ → Bool
rises [] = true
rises (x ∷ []) = true
rises (x ∷ y ∷ more) = int_lt x y && rises (y ∷ more)

-- ---- array kinds: 4 boolean, 5 char, 8 byte, 9 short, 10 int; 6 float, 7 double and 11 long are outside the profile

abbrev pub is_one_of : List ℕ → ℕ → Bool
is_one_of these n = list_any (λ k. k == n) these

abbrev pub is_array_kind : ℕ → Bool
is_array_kind kind = is_one_of (4 ∷ 5 ∷ 8 ∷ 9 ∷ 10 ∷ []) kind

abbrev pub is_wide_kind : ℕ → Bool
is_wide_kind kind = is_one_of (6 ∷ 7 ∷ 11 ∷ []) kind

-- ---- which instructions there are

abbrev pub CanPush : Option Operands → ℤ → Type 0
CanPush (Some SignedByte) value = FitsSigned w8 value
CanPush (Some SignedShort) value = FitsSigned w16 value
CanPush _ value = ⊥

-- behind the index of an invokeinterface stand two bytes, a count and a zero in the specification
abbrev pub CanName : Option Operands → ℕ → List ℕ → Type 0
CanName (Some PoolByte) index table = (index < 2 ^ 8) × (table ≡ [])
CanName (Some PoolShort) index table = (index < 2 ^ 16) × (table ≡ [])
CanName (Some PoolShortAndTwo) index table = (index < 2 ^ 16) × (length table ≡ 2)
CanName _ index table = ⊥

abbrev pub CanJump : Option Operands → ℤ → Type 0
CanJump (Some OffsetShort) by = FitsSigned w16 by
CanJump (Some OffsetInt) by = FitsSigned w32 by
CanJump _ by = ⊥

-- behind `wide` a local has two bytes, else one
abbrev pub FitsLocal : Bool → ℕ → Type 0
FitsLocal true index = index < 2 ^ 16
FitsLocal false index = index < 2 ^ 8

abbrev pub FitsStep : Bool → ℤ → Type 0
FitsStep true by = FitsSigned w16 by
FitsStep false by = FitsSigned w8 by

-- The opcode is one of the table with such operands, each operand fits its field, and `table` has what stands behind
-- them: the offsets or pairs of a switch, the two bytes of an invokeinterface, else nothing.
abbrev pub IsInsn : ℕ → Insn → List ℕ → Type 0
IsInsn pc (Plain op) table = (operands_of op ≡ Some NoOperand) × (table ≡ [])
IsInsn pc (Local op index wide) table = (operands_of op ≡ Some LocalByte) × FitsLocal wide index × (table ≡ [])
IsInsn pc (Iinc index by wide) table = FitsLocal wide index × FitsStep wide by × (table ≡ [])
IsInsn pc (Push op value) table = CanPush (operands_of op) value × (table ≡ [])
IsInsn pc (Pooled op index) table = CanName (operands_of op) index table
IsInsn pc (Array kind) table = (is_array_kind kind ≡ true) × (table ≡ [])
IsInsn pc (Jump op by) table = CanJump (operands_of op) by × (table ≡ [])
IsInsn pc (TableSwitch other low high at) table = FitsSigned w32 other × FitsSigned w32 low × FitsSigned w32 high
    × (low ≤ℤ high) × (at ≡ offsets_at pc) × (length table ≡ 4 * offsets_between low high)
IsInsn pc (LookupSwitch other pairs at) table = FitsSigned w32 other × (pairs < 2 ^ 31)
    × (at ≡ pairs_at pc) × (length table ≡ 8 * pairs) × (rises (keys_of pairs table) ≡ true)

-- ---- how an instruction is spelled

abbrev pub spelled_push : Option Operands → ℤ → List ℕ
spelled_push (Some SignedByte) value = s1 value
spelled_push _ value = s2 value

abbrev pub spelled_index : Option Operands → ℕ → List ℕ
spelled_index (Some PoolByte) index = index ∷ []
spelled_index _ index = u2 index

abbrev pub spelled_offset : Option Operands → ℤ → List ℕ
spelled_offset (Some OffsetInt) by = s4 by
spelled_offset _ by = s2 by

-- the bytes of an instruction with this padding, which only switches have, and what stands behind its operands
abbrev pub spelled_with : List ℕ → Insn → List ℕ → List ℕ
spelled_with padding (Plain op) table = op ∷ []
spelled_with padding (Local op index false) table = op ∷ index ∷ []
spelled_with padding (Local op index true) table = 196 ∷ op ∷ u2 index
spelled_with padding (Iinc index by false) table = 132 ∷ index ∷ s1 by
spelled_with padding (Iinc index by true) table = 196 ∷ 132 ∷ u2 index ++ s2 by
spelled_with padding (Push op value) table = op ∷ spelled_push (operands_of op) value
spelled_with padding (Pooled op index) table = op ∷ spelled_index (operands_of op) index ++ table
spelled_with padding (Array kind) table = 188 ∷ kind ∷ []
spelled_with padding (Jump op by) table = op ∷ spelled_offset (operands_of op) by
spelled_with padding (TableSwitch other low high at) table = 170 ∷ padding ++ s4 other ++ s4 low ++ s4 high ++ table
spelled_with padding (LookupSwitch other pairs at) table = 171 ∷ padding ++ s4 other ++ big_bytes 4 pairs ++ table

-- the spelling at a pc, whose padding is zero
abbrev pub spelled : ℕ → Insn → List ℕ → List ℕ
spelled pc insn table = spelled_with (replicate (padding_at pc) 0) insn table

-- ---- what stands at a pc

infixl 10 ◌>>=◌
abbrev pub ◌>>=◌ : {A B : Type 0} → Result A InsnFault → (A → Result B InsnFault) → Result B InsnFault
(Err fault) >>= f = Err fault
(Ok x) >>= f = f x

-- the number in so many bytes, the highest first
abbrev pub number_in : ℕ → List ℕ → Result ℕ InsnFault
number_in count bytes = if nat_lt (length bytes) count then Err Cut else Ok (big_number count bytes)

abbrev pub signed_in : ℕ → List ℕ → Result ℤ InsnFault
signed_in count bytes = do
  n ← number_in count bytes
  Ok (twos_complement count n)

-- the opcode behind `wide`, which only widens the operands of loads, stores and iinc
abbrev pub widened : ℕ → ℕ → ℕ → List ℕ → Option Operands → Result (Insn × ℕ) InsnFault
widened pc wide op rest (Some LocalByte) = do
  index ← number_in 2 rest
  Ok (Local op index true, pc + 4)
widened pc wide op rest (Some LocalAndStep) = do
  index ← number_in 2 rest
  by ← signed_in 2 (drop 2 rest)
  Ok (Iinc index by true, pc + 6)
widened pc wide op rest _ = Err (Outside wide)

abbrev pub behind_wide : ℕ → ℕ → List ℕ → Result (Insn × ℕ) InsnFault
behind_wide pc wide [] = Err Cut
behind_wide pc wide (op ∷ rest) = widened pc wide op rest (operands_of op)

abbrev pub array_of : ℕ → ℕ → ℕ → Result (Insn × ℕ) InsnFault
array_of pc op kind = if is_array_kind kind then Ok (Array kind, pc + 2) else if is_wide_kind kind then Err (Outside op) else Err Malformed

-- a tableswitch from its offsets on: low is at most high, and there are as many offsets as that says
abbrev pub with_offsets : ℕ → ℤ → ℤ → ℤ → List ℕ → Result (Insn × ℕ) InsnFault
with_offsets pc other low high table =
    if int_lt high low then Err Malformed
    else if nat_lt (length table) (4 * offsets_between low high) then Err Cut
    else Ok (TableSwitch other low high (offsets_at pc), offsets_at pc + 4 * offsets_between low high)

-- from its default on
abbrev pub table_switch : ℕ → List ℕ → Result (Insn × ℕ) InsnFault
table_switch pc rest = do
  other ← signed_in 4 rest
  low ← signed_in 4 (drop 4 rest)
  high ← signed_in 4 (drop 8 rest)
  with_offsets pc other low high (drop 12 rest)

-- a lookupswitch from its pairs on: its count isn't negative, there are as many pairs, and their keys rise
abbrev pub with_pairs : ℕ → ℤ → ℕ → List ℕ → Result (Insn × ℕ) InsnFault
with_pairs pc other pairs table =
    if nat_le (2 ^ 31) pairs then Err Malformed
    else if nat_lt (length table) (8 * pairs) then Err Cut
    else if rises (keys_of pairs table) then Ok (LookupSwitch other pairs (pairs_at pc), pairs_at pc + 8 * pairs)
    else Err Malformed

-- from its default on
abbrev pub lookup_switch : ℕ → List ℕ → Result (Insn × ℕ) InsnFault
lookup_switch pc rest = do
  other ← signed_in 4 rest
  pairs ← number_in 4 (drop 4 rest)
  with_pairs pc other pairs (drop 8 rest)

-- an instruction from the byte behind its opcode on
abbrev pub with_operands : ℕ → ℕ → List ℕ → Option Operands → Result (Insn × ℕ) InsnFault
with_operands pc op rest None = if nat_lt op 202 then Err (Outside op) else Err (Unknown op)
with_operands pc op rest (Some NoOperand) = Ok (Plain op, pc + 1)
with_operands pc op rest (Some SignedByte) = do
  value ← signed_in 1 rest
  Ok (Push op value, pc + 2)
with_operands pc op rest (Some SignedShort) = do
  value ← signed_in 2 rest
  Ok (Push op value, pc + 3)
with_operands pc op rest (Some LocalByte) = do
  index ← number_in 1 rest
  Ok (Local op index false, pc + 2)
with_operands pc op rest (Some LocalAndStep) = do
  index ← number_in 1 rest
  by ← signed_in 1 (drop 1 rest)
  Ok (Iinc index by false, pc + 3)
with_operands pc op rest (Some WidePrefix) = behind_wide pc op rest
with_operands pc op rest (Some PoolByte) = do
  index ← number_in 1 rest
  Ok (Pooled op index, pc + 2)
with_operands pc op rest (Some PoolShort) = do
  index ← number_in 2 rest
  Ok (Pooled op index, pc + 3)
with_operands pc op rest (Some PoolShortAndTwo) = do
  index ← number_in 2 rest
  ignored ← number_in 2 (drop 2 rest)
  Ok (Pooled op index, pc + 5)
with_operands pc op rest (Some ArrayKind) = do
  kind ← number_in 1 rest
  array_of pc op kind
with_operands pc op rest (Some OffsetShort) = do
  by ← signed_in 2 rest
  Ok (Jump op by, pc + 3)
with_operands pc op rest (Some OffsetInt) = do
  by ← signed_in 4 rest
  Ok (Jump op by, pc + 5)
with_operands pc op rest (Some OffsetTable) = table_switch pc (drop (padding_at pc) rest)
with_operands pc op rest (Some KeyTable) = lookup_switch pc (drop (padding_at pc) rest)

abbrev pub decoded_from : ℕ → List ℕ → Result (Insn × ℕ) InsnFault
decoded_from pc [] = Err Cut
decoded_from pc (op ∷ rest) = with_operands pc op rest (operands_of op)

-- The instruction at a pc and the next pc, or the fault: `Cut` where its bytes end, `Unknown` for an opcode past 201,
-- `Outside` for one that the profile leaves out, `Malformed` for a switch or array kind that can't be.
unfoldable pub decoded : List ℕ → ℕ → Result (Insn × ℕ) InsnFault
decoded code pc = decoded_from pc (drop pc code)

-- The bytes from a pc up to the next one are those of this instruction, with some padding.
abbrev pub IsReadAs : List ℕ → ℕ → Insn → ℕ → Type 0
IsReadAs code pc insn next = (padding : List ℕ) × (table : List ℕ) × (length padding ≡ padding_at pc) × IsInsn pc insn table
    × (pc < next) × (next ≤ length code) × (take (next - pc) (drop pc code) ≡ spelled_with padding insn table)

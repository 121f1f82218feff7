-- What is spelled at a pc is read there, one kind of instruction after the other.
use Rattle.std.proofs.Common.{◌≡◌, ℕ, zero, suc, ◌+◌, ◌*◌, ◌^◌, ◌<◌, Bool, true, false, List, ◌++◌, length, drop, replicate, Option, Some, Ok, refl, arith, length-append}
use Rattle.std.specs.Prelude.{ℤ, ◌≤ℤ◌, int_lt}
use Rattle.std.proofs.lemmas.Bool.{le-ltb, lt-leb}
use Rattle.std.proofs.lemmas.Int.{ints}
use Rattle.std.proofs.lemmas.List.{append_assoc, drop_at, drop-append-le, length-drop, length-replicate}
use Rattle.byteorder.specs.Endian.{big_bytes}
use Rattle.byteorder.specs.Numbers.{big_from-append}
use Rattle.std.specs.Int.{w8, w16, w32}
use Rattle.std.specs.Int.RustNames.{FitsSigned}
use Rattle.jo_insn.specs.declared.opcodes.Operands.{Operands}
use Rattle.jo_insn.specs.declared.opcodes.Operands.TheVariants.{SignedByte, SignedShort, LocalAndStep, WidePrefix, PoolByte, PoolShort, PoolShortAndTwo, ArrayKind, OffsetShort, OffsetInt, OffsetTable, KeyTable}
use Rattle.jo_insn.specs.declared.instructions.Insn.{Insn}
use Rattle.jo_insn.specs.declared.instructions.Insn.TheVariants.{Plain, Local, Iinc, Push, Pooled, Array, Jump, TableSwitch, LookupSwitch}
use Rattle.jo_insn.specs.Opcodes.{opcodes, row_of, operands_of}
use Rattle.jo_insn.specs.Instructions.{CanPush, CanName, CanJump, IsInsn, spelled, spelled_push, spelled_index, spelled_offset, s1, s2, s4, decoded, decoded_from, with_operands, padding_at, offsets_at, pairs_at, offsets_between, keys_of, rises, table_switch, lookup_switch}
use Rattle.jo_insn.proofs.Numbers.{number_in_byte, number_in_bytes, number_in_enough, signed_in_bytes}

-- the opcodes that a spelling names

wide_prefixes : operands_of 196 ≡ Some WidePrefix
unfolding opcodes row_of
wide_prefixes = refl

iinc_steps : operands_of 132 ≡ Some LocalAndStep
unfolding opcodes row_of
iinc_steps = refl

newarray_kinds : operands_of 188 ≡ Some ArrayKind
unfolding opcodes row_of
newarray_kinds = refl

tableswitch_offsets : operands_of 170 ≡ Some OffsetTable
unfolding opcodes row_of
tableswitch_offsets = refl

lookupswitch_keys : operands_of 171 ≡ Some KeyTable
unfolding opcodes row_of
lookupswitch_keys = refl

-- what is to be shown of an instruction
abbrev IsRead : ℕ → Insn → List ℕ → List ℕ → Type 0
IsRead pc insn table rest = decoded_from pc (spelled pc insn table ++ rest) ≡ Ok (insn, pc + length (spelled pc insn table))

local_is_read : (pc op index : ℕ) (wide : Bool) (table rest : List ℕ) → IsInsn pc (Local op index wide) table → IsRead pc (Local op index wide) table rest
local_is_read pc op index false table rest can = rw (can.0, number_in_byte index rest) refl
local_is_read pc op index true table rest can = rw (wide_prefixes, can.0, number_in_bytes 2 index rest can.1) refl

iinc_is_read : (pc index : ℕ) (by : ℤ) (wide : Bool) (table rest : List ℕ) → IsInsn pc (Iinc index by wide) table → IsRead pc (Iinc index by wide) table rest
iinc_is_read pc index by false table rest can =
    rw (iinc_steps, number_in_byte index (s1 by ++ rest), signed_in_bytes w8 by rest can.1) refl
iinc_is_read pc index by true table rest can =
    rw (wide_prefixes, iinc_steps, number_in_bytes 2 index (s2 by ++ rest) can.0, signed_in_bytes w16 by rest can.1) refl

push_is_read : (pc op : ℕ) (value : ℤ) (rest : List ℕ) (operands : Option Operands) → CanPush operands value
    → with_operands pc op (spelled_push operands value ++ rest) operands ≡ Ok (Push op value, pc + suc (length (spelled_push operands value)))
push_is_read pc op value rest (Some SignedByte) can = rw (signed_in_bytes w8 value rest can) refl
push_is_read pc op value rest (Some SignedShort) can = rw (signed_in_bytes w16 value rest can) refl
push_is_read pc op value rest _ can = absurd can

jump_is_read : (pc op : ℕ) (by : ℤ) (rest : List ℕ) (operands : Option Operands) → CanJump operands by
    → with_operands pc op (spelled_offset operands by ++ rest) operands ≡ Ok (Jump op by, pc + suc (length (spelled_offset operands by)))
jump_is_read pc op by rest (Some OffsetShort) can = rw (signed_in_bytes w16 by rest can) refl
jump_is_read pc op by rest (Some OffsetInt) can = rw (signed_in_bytes w32 by rest can) refl
jump_is_read pc op by rest _ can = absurd can

pooled_is_read : (pc op index : ℕ) (table rest : List ℕ) (operands : Option Operands) → CanName operands index table
    → with_operands pc op (spelled_index operands index ++ table ++ rest) operands ≡ Ok (Pooled op index, pc + suc (length (spelled_index operands index ++ table)))
pooled_is_read pc op index table rest (Some PoolByte) can = rw (can.1, number_in_byte index rest) refl
pooled_is_read pc op index table rest (Some PoolShort) can = rw (can.1, number_in_bytes 2 index rest can.0) refl
pooled_is_read pc op index table rest (Some PoolShortAndTwo) can =
    let whole = length-append table rest in
    rw (can.1, number_in_bytes 2 index (table ++ rest) can.0, number_in_enough 2 (table ++ rest) (omega arith)) refl
pooled_is_read pc op index table rest _ can = absurd can

array_is_read : (pc kind : ℕ) (table rest : List ℕ) → IsInsn pc (Array kind) table → IsRead pc (Array kind) table rest
array_is_read pc kind table rest can = rw (newarray_kinds, number_in_byte kind rest, can.0) refl

-- ---- switches

not_above : (a b : ℤ) → a ≤ℤ b → int_lt b a ≡ false
not_above a b h = grind (arith, ints)

offsets_are_read : (pc : ℕ) (other low high : ℤ) (table rest : List ℕ) → FitsSigned w32 other → FitsSigned w32 low → FitsSigned w32 high → low ≤ℤ high
    → length table ≡ 4 * offsets_between low high
    → table_switch pc (s4 other ++ s4 low ++ s4 high ++ table ++ rest) ≡ Ok (TableSwitch other low high (offsets_at pc), offsets_at pc + 4 * offsets_between low high)
offsets_are_read pc other low high table rest fits_other fits_low fits_high order size =
    let whole = length-append table rest in
    rw (
      signed_in_bytes w32 other (s4 low ++ s4 high ++ table ++ rest) fits_other,
      signed_in_bytes w32 low (s4 high ++ table ++ rest) fits_low,
      signed_in_bytes w32 high (table ++ rest) fits_high,
      not_above low high order,
      le-ltb (length (table ++ rest)) (4 * offsets_between low high) (omega arith),
    ) refl

pub keys_are_in : (n : ℕ) (table rest : List ℕ) → length table ≡ 8 * n → keys_of n (table ++ rest) ≡ keys_of n table
keys_are_in zero table rest size = refl
keys_are_in (suc n) table rest size =
    let key = big_from-append 4 table rest (omega arith) in
    let more = drop-append-le 8 table rest (omega arith) in
    let left = length-drop 8 table in
    rw (key, more, keys_are_in n (drop 8 table) rest (omega arith)) refl

pairs_are_read : (pc : ℕ) (other : ℤ) (pairs : ℕ) (table rest : List ℕ) → FitsSigned w32 other → pairs < 2 ^ 31 → length table ≡ 8 * pairs → rises (keys_of pairs table) ≡ true
    → lookup_switch pc (s4 other ++ big_bytes 4 pairs ++ table ++ rest) ≡ Ok (LookupSwitch other pairs (pairs_at pc), pairs_at pc + 8 * pairs)
pairs_are_read pc other pairs table rest fits_other few size order =
    let whole = length-append table rest in
    rw (
      signed_in_bytes w32 other (big_bytes 4 pairs ++ table ++ rest) fits_other,
      number_in_bytes 4 pairs (table ++ rest) (omega arith),
      lt-leb (2 ^ 31) pairs few,
      le-ltb (length (table ++ rest)) (8 * pairs) (omega arith),
      keys_are_in pairs table rest size,
      order,
    ) refl

-- what stands behind the padding, and how long all of it is
behind_padding : (n : ℕ) (padding a b table rest : List ℕ) → length padding ≡ n → drop n (padding ++ a ++ b ++ table ++ rest) ≡ a ++ b ++ table ++ rest
behind_padding n padding a b table rest size =
    let split : padding ++ a ++ b ++ table ++ rest ≡ padding ++ (a ++ b ++ table ++ rest) = simp append_assoc in
    rw split (drop_at padding (a ++ b ++ table ++ rest) n size)

behind_padding_3 : (n : ℕ) (padding a b d table rest : List ℕ) → length padding ≡ n → drop n (padding ++ a ++ b ++ d ++ table ++ rest) ≡ a ++ b ++ d ++ table ++ rest
behind_padding_3 n padding a b d table rest size =
    let split : padding ++ a ++ b ++ d ++ table ++ rest ≡ padding ++ (a ++ b ++ d ++ table ++ rest) = simp append_assoc in
    rw split (drop_at padding (a ++ b ++ d ++ table ++ rest) n size)

pub length_4 : (padding a b table : List ℕ) → length (padding ++ a ++ b ++ table) ≡ length padding + length a + length b + length table
length_4 padding a b table = simp length-append

pub length_5 : (padding a b d table : List ℕ) → length (padding ++ a ++ b ++ d ++ table) ≡ length padding + length a + length b + length d + length table
length_5 padding a b d table = simp length-append

table_switch_is_read : (pc : ℕ) (other low high : ℤ) (at : ℕ) (table rest : List ℕ) → IsInsn pc (TableSwitch other low high at) table → IsRead pc (TableSwitch other low high at) table rest
table_switch_is_read pc other low high at table rest can =
    let padding : List ℕ = replicate (padding_at pc) 0 in
    let zeros : length padding ≡ padding_at pc = length-replicate (padding_at pc) 0 in
    let whole = length_5 padding (s4 other) (s4 low) (s4 high) table in
    let next : pc + length (spelled pc (TableSwitch other low high at) table) ≡ offsets_at pc + 4 * offsets_between low high = omega arith in
    rw (
      tableswitch_offsets,
      behind_padding_3 (padding_at pc) padding (s4 other) (s4 low) (s4 high) table rest zeros,
      offsets_are_read pc other low high table rest can.0 can.1 can.2 can.3 can.5,
      next,
      can.4,
    ) refl

lookup_switch_is_read : (pc : ℕ) (other : ℤ) (pairs at : ℕ) (table rest : List ℕ) → IsInsn pc (LookupSwitch other pairs at) table → IsRead pc (LookupSwitch other pairs at) table rest
lookup_switch_is_read pc other pairs at table rest can =
    let padding : List ℕ = replicate (padding_at pc) 0 in
    let zeros : length padding ≡ padding_at pc = length-replicate (padding_at pc) 0 in
    let whole = length_4 padding (s4 other) (big_bytes 4 pairs) table in
    let next : pc + length (spelled pc (LookupSwitch other pairs at) table) ≡ pairs_at pc + 8 * pairs = omega arith in
    rw (
      lookupswitch_keys,
      behind_padding (padding_at pc) padding (s4 other) (big_bytes 4 pairs) table rest zeros,
      pairs_are_read pc other pairs table rest can.0 can.1 can.3 can.4,
      next,
      can.2,
    ) refl

-- ---- all of them

insn_is_read : (pc : ℕ) (table rest : List ℕ) (insn : Insn) → IsInsn pc insn table → IsRead pc insn table rest
insn_is_read pc table rest (Plain op) can = rw can.0 refl
insn_is_read pc table rest (Local op index wide) can = local_is_read pc op index wide table rest can
insn_is_read pc table rest (Iinc index by wide) can = iinc_is_read pc index by wide table rest can
insn_is_read pc table rest (Push op value) can = push_is_read pc op value rest (operands_of op) can.0
insn_is_read pc table rest (Pooled op index) can = pooled_is_read pc op index table rest (operands_of op) can
insn_is_read pc table rest (Array kind) can = array_is_read pc kind table rest can
insn_is_read pc table rest (Jump op by) can = jump_is_read pc op by rest (operands_of op) can.0
insn_is_read pc table rest (TableSwitch other low high at) can = table_switch_is_read pc other low high at table rest can
insn_is_read pc table rest (LookupSwitch other pairs at) can = lookup_switch_is_read pc other pairs at table rest can

pub spelled_is_decoded : (front rest table : List ℕ) (insn : Insn) → IsInsn (length front) insn table
    → decoded (front ++ spelled (length front) insn table ++ rest) (length front) ≡ Ok (insn, length front + length (spelled (length front) insn table))
unfolding decoded
spelled_is_decoded front rest table insn can =
    let bytes : List ℕ = spelled (length front) insn table in
    let here : drop (length front) (front ++ bytes ++ rest) ≡ bytes ++ rest = rw (append_assoc front bytes rest) (drop_at front (bytes ++ rest) (length front) refl) in
    rw here (insn_is_read (length front) table rest insn can)

-- What stands behind the operands of an instruction that was decoded, the two bytes of an invokeinterface aside, makes it that
-- instruction.
use Rattle.std.proofs.Common.{◌≡◌, ℕ, ◌+◌, ◌-◌, ◌≤◌, Bool, true, false, ◌&&◌, ◌==◌, if◌then◌else◌, List, [], ◌∷◌, ◌++◌, length, take, drop, Option, Some, option_map, Ok, refl, sym, ap, subst, ◌∙◌, arith}
use Rattle.std.specs.Prelude.{ℤ}
use Rattle.std.proofs.lemmas.Bool.{and_parts, eqb-true}
use Rattle.std.proofs.lemmas.List.{drop-drop, drop-take, drop_at, length-append}
use Rattle.byteorder.specs.Endian.{big_bytes}
use Rattle.jo_insn.specs.declared.opcodes.Operands.{Operands}
use Rattle.jo_insn.specs.declared.opcodes.Operands.TheVariants.{PoolByte, PoolShort, PoolShortAndTwo}
use Rattle.jo_insn.specs.declared.instructions.Insn.{Insn}
use Rattle.jo_insn.specs.declared.instructions.Insn.TheVariants.{Plain, Local, Iinc, Push, Pooled, Array, Jump, TableSwitch, LookupSwitch}
use Rattle.jo_insn.specs.Opcodes.{Opcode, opcodes, first_row, row_of, operands_of}
use Rattle.jo_insn.specs.Instructions.{decoded, IsInsn, CanName, s4}
use Rattle.jo_insn.proofs.Numbers.{AreBytes}
use Rattle.jo_insn.proofs.SpelledIsDecoded.{length_4}
use Rattle.jo_insn.proofs.SpelledFromDecoded.{decoded_is_spelled}
use Rattle.jo_insn.proofs.SwitchTables.{all_bytes, offsets_end, pairs_end}

-- ---- two bytes stand behind the index of an invokeinterface alone

abbrev is_alone : Operands → ℕ → Bool
is_alone PoolShortAndTwo op = op == 185
is_alone _ op = true

abbrev all_alone : List Opcode → Bool
all_alone [] = true
all_alone (row ∷ rows) = is_alone row.operands row.code && all_alone rows

are_alone : all_alone opcodes ≡ true
unfolding opcodes
are_alone = refl

alone_in : (rows : List Opcode) (op : ℕ) → all_alone rows ≡ true → option_map (λ (row : Opcode). row.operands) (first_row (λ row. row.code == op) rows) ≡ Some PoolShortAndTwo → op ≡ 185
alone_in [] op all is = absurd (cc)
alone_in (row ∷ rows) op all is =
    let parts = and_parts (is_alone row.operands row.code) (all_alone rows) all in
    elim (row.code == op) as (λ b. (row.code == op) ≡ b → option_map (λ (row : Opcode). row.operands) (if b then Some row else first_row (λ row. row.code == op) rows) ≡ Some PoolShortAndTwo → op ≡ 185) [
      | true ↦ λ same this.
          let here : row.operands ≡ PoolShortAndTwo = cc in
          let code : row.code ≡ op = eqb-true row.code op same in
          sym code ∙ eqb-true row.code 185 (ap (λ (o : Operands). is_alone o row.code) (sym here) ∙ parts.0)
      | false ↦ λ other later. alone_in rows op parts.1 later
    ] refl is

pub call_alone : (op : ℕ) → operands_of op ≡ Some PoolShortAndTwo → op ≡ 185
unfolding row_of
call_alone op is = alone_in opcodes op are_alone is

pub at_call : operands_of 185 ≡ Some PoolShortAndTwo
unfolding row_of opcodes
at_call = refl

name_alone : (operands : Option Operands) (index : ℕ) (table : List ℕ) → (operands ≡ Some PoolShortAndTwo → ⊥) → CanName operands index table → CanName operands index []
name_alone (Some PoolByte) index table differs can = (can.0, refl)
name_alone (Some PoolShort) index table differs can = (can.0, refl)
name_alone (Some PoolShortAndTwo) index table differs can = absurd (differs refl)
name_alone _ index table differs can = absurd can

-- ---- what is behind a place in a part of a list

window : (code head table : List ℕ) (pc at next : ℕ) → take (next - pc) (drop pc code) ≡ head ++ table → pc + length head ≡ at → at ≤ next → take (next - at) (drop at code) ≡ table
window code head table pc at next is long forward =
    let size : ℕ = length head in
    let parts : next - pc ≡ size + (next - at) = omega arith in
    let place : pc + size ≡ at = long in
    ap (λ (n : ℕ). take (next - at) (drop n code)) (sym place) ∙ ap (take (next - at)) (sym (drop-drop size pc code)) ∙ sym (drop-take size (next - at) (drop pc code))
    ∙ ap (λ (n : ℕ). drop size (take n (drop pc code))) (sym parts) ∙ ap (drop size) is ∙ drop_at head table size refl

-- ---- each kind of instruction

module _ (code : List ℕ) (bytes : AreBytes code) (pc next : ℕ) where
  pub call_kept : (op index : ℕ) (table : List ℕ) → op ≡ 185 → length table ≡ 2 → decoded code pc ≡ Ok (Pooled op index, next) → IsInsn pc (Pooled op index) table
  call_kept op index table call two is =
      let read = decoded_is_spelled code pc next (Pooled op index) (all_bytes code bytes) is in
      let operands : operands_of op ≡ Some PoolShortAndTwo = ap operands_of call ∙ at_call in
      let can = rw operands at read.3 in
      rw operands (can.0, two)

  pub pooled_kept : (op index : ℕ) → (op ≡ 185 → ⊥) → decoded code pc ≡ Ok (Pooled op index, next) → IsInsn pc (Pooled op index) []
  pooled_kept op index other is =
      let read = decoded_is_spelled code pc next (Pooled op index) (all_bytes code bytes) is in
      name_alone (operands_of op) index read.1 (λ call. other (call_alone op call)) read.3

  pub offsets_kept : (other low high : ℤ) (at : ℕ) → decoded code pc ≡ Ok (TableSwitch other low high at, next) → IsInsn pc (TableSwitch other low high at) (take (next - at) (drop at code))
  offsets_kept other low high at is =
      let read = decoded_is_spelled code pc next (TableSwitch other low high at) (all_bytes code bytes) is in
      let end = offsets_end code bytes pc next other low high at is in
      let head : List ℕ = 170 ∷ read.0 ++ s4 other ++ s4 low ++ s4 high in
      let long = length_4 read.0 (s4 other) (s4 low) (s4 high) in
      let same = window code head read.1 pc at next read.6 (omega arith) (omega arith) in
      let P : List ℕ → Type 0 = λ table. IsInsn pc (TableSwitch other low high at) table in
      subst P (sym same) read.3

  pub pairs_kept : (other : ℤ) (pairs at : ℕ) → decoded code pc ≡ Ok (LookupSwitch other pairs at, next) → IsInsn pc (LookupSwitch other pairs at) (take (next - at) (drop at code))
  pairs_kept other pairs at is =
      let read = decoded_is_spelled code pc next (LookupSwitch other pairs at) (all_bytes code bytes) is in
      let end = pairs_end code bytes pc next other pairs at is in
      let head : List ℕ = 171 ∷ read.0 ++ s4 other ++ big_bytes 4 pairs in
      let long : length (read.0 ++ s4 other ++ big_bytes 4 pairs) ≡ length read.0 + length (s4 other) + length (big_bytes 4 pairs) = simp length-append in
      let same = window code head read.1 pc at next read.6 (omega arith) (omega arith) in
      let P : List ℕ → Type 0 = λ table. IsInsn pc (LookupSwitch other pairs at) table in
      subst P (sym same) read.3

  pub others_kept : (insn : Insn) → ((op index : ℕ) → insn ≡ Pooled op index → ⊥) → ((other low high : ℤ) (at : ℕ) → insn ≡ TableSwitch other low high at → ⊥) → ((other : ℤ) (pairs at : ℕ) → insn ≡ LookupSwitch other pairs at → ⊥)
      → decoded code pc ≡ Ok (insn, next) → IsInsn pc insn []
  others_kept (Plain op) a b c is = let can = (decoded_is_spelled code pc next (Plain op) (all_bytes code bytes) is).3 in (can.0, refl)
  others_kept (Local op index wide) a b c is = let can = (decoded_is_spelled code pc next (Local op index wide) (all_bytes code bytes) is).3 in (can.0, can.1, refl)
  others_kept (Iinc index by wide) a b c is = let can = (decoded_is_spelled code pc next (Iinc index by wide) (all_bytes code bytes) is).3 in (can.0, can.1, refl)
  others_kept (Push op value) a b c is = let can = (decoded_is_spelled code pc next (Push op value) (all_bytes code bytes) is).3 in (can.0, refl)
  others_kept (Pooled op index) a b c is = absurd (a op index refl)
  others_kept (Array kind) a b c is = let can = (decoded_is_spelled code pc next (Array kind) (all_bytes code bytes) is).3 in (can.0, refl)
  others_kept (Jump op by) a b c is = let can = (decoded_is_spelled code pc next (Jump op by) (all_bytes code bytes) is).3 in (can.0, refl)
  others_kept (TableSwitch other low high at) a b c is = absurd (b other low high at refl)
  others_kept (LookupSwitch other pairs at) a b c is = absurd (c other pairs at refl)

-- An instruction ends behind its pc, within the code.
use Rattle.std.proofs.Common.{◌≡◌, ℕ, ◌+◌, ◌-◌, ◌*◌, ◌^◌, ◌<◌, ◌≤◌, Bool, true, false, cond, List, [], ◌∷◌, length, drop, refl, sym, ap, arith}
use Rattle.std.specs.Prelude.{ℤ, nat_lt, nat_le, int_lt, Option, Some, None, Result, Ok, Err}
use Rattle.std.proofs.lemmas.Bool.{ltb-false}
use Rattle.std.proofs.lemmas.List.{length-drop}
use Rattle.byteorder.specs.Endian.{big_number, twos_complement}
use Rattle.jo_insn.specs.declared.opcodes.Operands.{Operands}
use Rattle.jo_insn.specs.declared.opcodes.Operands.TheVariants.{NoOperand, SignedByte, SignedShort, LocalByte, LocalAndStep, WidePrefix, PoolByte, PoolShort, PoolShortAndTwo, ArrayKind, OffsetShort, OffsetInt, OffsetTable, KeyTable}
use Rattle.jo_insn.specs.declared.instructions.Insn.{Insn}
use Rattle.jo_insn.specs.declared.instructions.Insn.TheVariants.{Plain, Local, Iinc, Push, Pooled, Array, Jump, TableSwitch, LookupSwitch}
use Rattle.jo_insn.specs.declared.instructions.InsnFault.{InsnFault}
use Rattle.jo_insn.specs.declared.instructions.InsnFault.TheVariants.{Cut, Unknown, Outside, Malformed}
use Rattle.jo_insn.specs.Opcodes.{operands_of}
use Rattle.jo_insn.specs.Instructions.{◌>>=◌, number_in, signed_in, padding_at, offsets_at, offsets_between, pairs_at, keys_of, rises, is_array_kind, is_wide_kind, widened, behind_wide, array_of, with_offsets, table_switch, with_pairs, lookup_switch, with_operands, decoded_from, decoded}

-- what stands behind the opcode at a pc has so many bytes, and the next pc lies behind the opcode and within them
pub record Ends (pc size next : ℕ) : Type 0 where
  pub forward : pc < next
  pub within : next ≤ pc + 1 + size

abbrev next_in : Result (Insn × ℕ) InsnFault → ℕ
next_in (Ok found) = found.1
next_in (Err fault) = 0

abbrev placed : Insn → ℕ → Result (Insn × ℕ) InsnFault
placed insn next = Ok (insn, next)

bind-ok : {A B : Type 0} (r : Result A InsnFault) (f : A → Result B InsnFault) (y : B) → (r >>= f) ≡ Ok y → (x : A) × (r ≡ Ok x) × (f x ≡ Ok y)
bind-ok (Err e) f y h = absurd cc
bind-ok (Ok x) f y h = (x, refl, h)

if-ok : {A : Type 0} (b : Bool) (fault : InsnFault) (r : Result A InsnFault) (y : A) → cond b (Err fault) r ≡ Ok y → (b ≡ false) × (r ≡ Ok y)
if-ok true fault r y h = absurd cc
if-ok false fault r y h = (refl, h)

number-there : (count n : ℕ) (bytes : List ℕ) → number_in count bytes ≡ Ok n → count ≤ length bytes
number-there count n bytes h = ltb-false (length bytes) count (if-ok (nat_lt (length bytes) count) Cut (Ok (big_number count bytes)) n h).0

signed-there : (count : ℕ) (z : ℤ) (bytes : List ℕ) → signed_in count bytes ≡ Ok z → count ≤ length bytes
signed-there count z bytes h =
    let found = bind-ok (number_in count bytes) (λ n. Ok (twos_complement count n)) z h in
    number-there count found.0 bytes found.1

ends_at : (pc size last next : ℕ) (insn found : Insn) → pc < last → last ≤ pc + 1 + size → placed found last ≡ placed insn next → Ends pc size next
ends_at pc size last next insn found forward within h =
    let is : last ≡ next = ap next_in h in
    record { forward = omega arith; within = omega arith }

-- a number behind the opcode
one_number : {A : Type 0} (pc size total count next : ℕ) (rest : List ℕ) (insn : Insn) (read : Result A InsnFault) (made : A → Insn) → ((x : A) → read ≡ Ok x → count ≤ length rest) → 0 < size → (count ≤ length rest → size ≤ 1 + total)
    → (read >>= λ x. placed (made x) (pc + size)) ≡ Ok (insn, next) → Ends pc total next
one_number pc size total count next rest insn read made lies some fits h =
    let found = bind-ok read (λ x. placed (made x) (pc + size)) (insn, next) h in
    let there = fits (lies found.0 found.1) in
    ends_at pc total (pc + size) next insn (made found.0) (omega arith) (omega arith) found.2

-- a number, and another one behind it
two_numbers : {A B : Type 0} (pc size total first second next : ℕ) (rest : List ℕ) (insn : Insn) (read : Result A InsnFault) (other : Result B InsnFault) (made : A → B → Insn) → ((y : B) → other ≡ Ok y → second ≤ length (drop first rest)) → 0 < size
    → (second ≤ length rest - first → size ≤ 1 + total) → (read >>= λ x. other >>= λ y. placed (made x y) (pc + size)) ≡ Ok (insn, next) → Ends pc total next
two_numbers pc size total first second next rest insn read other made lies some fits h =
    let one = bind-ok read (λ x. other >>= λ y. placed (made x y) (pc + size)) (insn, next) h in
    let two = bind-ok other (λ y. placed (made one.0 y) (pc + size)) (insn, next) one.2 in
    let behind = lies two.0 two.1 in
    let left = length-drop first rest in
    let there = fits (omega arith) in
    ends_at pc total (pc + size) next insn (made one.0 two.0) (omega arith) (omega arith) two.2

widened-ends : (pc wide op next : ℕ) (rest : List ℕ) (operands : Option Operands) (insn : Insn) → widened pc wide op rest operands ≡ Ok (insn, next) → Ends pc (length rest + 1) next
widened-ends pc wide op next rest (Some LocalByte) insn h =
    one_number pc 4 (length rest + 1) 2 next rest insn (number_in 2 rest) (λ n. Local op n true) (λ n. number-there 2 n rest) (omega arith) (λ l. omega arith) h
widened-ends pc wide op next rest (Some LocalAndStep) insn h =
    two_numbers pc 6 (length rest + 1) 2 2 next rest insn (number_in 2 rest) (signed_in 2 (drop 2 rest)) (λ n y. Iinc n y true) (λ z. signed-there 2 z (drop 2 rest)) (omega arith) (λ l. omega arith) h
widened-ends pc wide op next rest _ insn h = absurd cc

pub behind_wide-ends : (pc wide next : ℕ) (rest : List ℕ) (insn : Insn) → behind_wide pc wide rest ≡ Ok (insn, next) → Ends pc (length rest) next
behind_wide-ends pc wide next [] insn h = absurd cc
behind_wide-ends pc wide next (op ∷ rest) insn h =
    let e = widened-ends pc wide op next rest (operands_of op) insn h in
    record { forward = e.forward; within = omega (arith, e.within) }

outside_or_malformed : (b : Bool) (op : ℕ) (insn : Insn) (next : ℕ) → cond b (Err (Outside op)) (Err Malformed) ≡ placed insn next → ⊥
outside_or_malformed true op insn next e = absurd cc
outside_or_malformed false op insn next e = absurd cc

unknown_or_outside : (b : Bool) (op : ℕ) (insn : Insn) (next : ℕ) → cond b (Err (Outside op)) (Err (Unknown op)) ≡ placed insn next → ⊥
unknown_or_outside true op insn next e = absurd cc
unknown_or_outside false op insn next e = absurd cc

ok-if : {A : Type 0} (b : Bool) (fault : InsnFault) (r : Result A InsnFault) (y : A) → cond b r (Err fault) ≡ Ok y → r ≡ Ok y
ok-if true fault r y h = h
ok-if false fault r y h = absurd cc

array_of-ends : (pc op kind next : ℕ) (insn : Insn) → array_of pc op kind ≡ Ok (insn, next) → next ≡ pc + 2
array_of-ends pc op kind next insn h =
    elim (is_array_kind kind) as (λ b. cond b (placed (Array kind) (pc + 2)) (cond (is_wide_kind kind) (Err (Outside op)) (Err Malformed)) ≡ placed insn next → next ≡ pc + 2)
    [ true ↦ (λ e. sym (ap next_in e)) | false ↦ (λ e. absurd (outside_or_malformed (is_wide_kind kind) op insn next e)) ] h

with_offsets-ends : (pc size next : ℕ) (other low high : ℤ) (table : List ℕ) (insn : Insn) → size ≡ padding_at pc + 12 + length table → with_offsets pc other low high table ≡ Ok (insn, next) → Ends pc size next
with_offsets-ends pc size next other low high table insn sized h =
    let count = offsets_between low high in
    let last = placed (TableSwitch other low high (offsets_at pc)) (offsets_at pc + 4 * count) in
    let one = if-ok (int_lt high low) Malformed (cond (nat_lt (length table) (4 * count)) (Err Cut) last) (insn, next) h in
    let two = if-ok (nat_lt (length table) (4 * count)) Cut last (insn, next) one.1 in
    let there = ltb-false (length table) (4 * count) two.0 in
    ends_at pc size (offsets_at pc + 4 * count) next insn (TableSwitch other low high (offsets_at pc)) (omega arith) (omega arith) two.1

with_pairs-ends : (pc size pairs next : ℕ) (other : ℤ) (table : List ℕ) (insn : Insn) → size ≡ padding_at pc + 8 + length table → with_pairs pc other pairs table ≡ Ok (insn, next) → Ends pc size next
with_pairs-ends pc size pairs next other table insn sized h =
    let last = placed (LookupSwitch other pairs (pairs_at pc)) (pairs_at pc + 8 * pairs) in
    let checked = cond (rises (keys_of pairs table)) last (Err Malformed) in
    let one = if-ok (nat_le (2 ^ 31) pairs) Malformed (cond (nat_lt (length table) (8 * pairs)) (Err Cut) checked) (insn, next) h in
    let two = if-ok (nat_lt (length table) (8 * pairs)) Cut checked (insn, next) one.1 in
    let there = ltb-false (length table) (8 * pairs) two.0 in
    let three = ok-if (rises (keys_of pairs table)) Malformed last (insn, next) two.1 in
    ends_at pc size (pairs_at pc + 8 * pairs) next insn (LookupSwitch other pairs (pairs_at pc)) (omega arith) (omega arith) three

table_switch-ends : (pc next : ℕ) (rest : List ℕ) (insn : Insn) → table_switch pc (drop (padding_at pc) rest) ≡ Ok (insn, next) → Ends pc (length rest) next
table_switch-ends pc next rest insn h =
    let from = drop (padding_at pc) rest in
    let one = bind-ok (signed_in 4 from) (λ other. signed_in 4 (drop 4 from) >>= λ low. signed_in 4 (drop 8 from) >>= λ high. with_offsets pc other low high (drop 12 from)) (insn, next) h in
    let two = bind-ok (signed_in 4 (drop 4 from)) (λ low. signed_in 4 (drop 8 from) >>= λ high. with_offsets pc one.0 low high (drop 12 from)) (insn, next) one.2 in
    let three = bind-ok (signed_in 4 (drop 8 from)) (λ high. with_offsets pc one.0 two.0 high (drop 12 from)) (insn, next) two.2 in
    let there = signed-there 4 three.0 (drop 8 from) three.1 in
    let left = length-drop (padding_at pc) rest in
    let left_8 = length-drop 8 from in
    let left_12 = length-drop 12 from in
    with_offsets-ends pc (length rest) next one.0 two.0 three.0 (drop 12 from) insn (omega arith) three.2

lookup_switch-ends : (pc next : ℕ) (rest : List ℕ) (insn : Insn) → lookup_switch pc (drop (padding_at pc) rest) ≡ Ok (insn, next) → Ends pc (length rest) next
lookup_switch-ends pc next rest insn h =
    let from = drop (padding_at pc) rest in
    let one = bind-ok (signed_in 4 from) (λ other. number_in 4 (drop 4 from) >>= λ pairs. with_pairs pc other pairs (drop 8 from)) (insn, next) h in
    let two = bind-ok (number_in 4 (drop 4 from)) (λ pairs. with_pairs pc one.0 pairs (drop 8 from)) (insn, next) one.2 in
    let there = number-there 4 two.0 (drop 4 from) two.1 in
    let left = length-drop (padding_at pc) rest in
    let left_4 = length-drop 4 from in
    let left_8 = length-drop 8 from in
    with_pairs-ends pc (length rest) two.0 next one.0 (drop 8 from) insn (omega arith) two.2

with_operands-ends : (pc op next : ℕ) (rest : List ℕ) (operands : Option Operands) (insn : Insn) → with_operands pc op rest operands ≡ Ok (insn, next) → Ends pc (length rest) next
with_operands-ends pc op next rest None insn h = absurd (unknown_or_outside (nat_lt op 202) op insn next h)
with_operands-ends pc op next rest (Some NoOperand) insn h = ends_at pc (length rest) (pc + 1) next insn (Plain op) (omega arith) (omega arith) h
with_operands-ends pc op next rest (Some SignedByte) insn h = one_number pc 2 (length rest) 1 next rest insn (signed_in 1 rest) (λ z. Push op z) (λ z. signed-there 1 z rest) (omega arith) (λ l. omega arith) h
with_operands-ends pc op next rest (Some SignedShort) insn h = one_number pc 3 (length rest) 2 next rest insn (signed_in 2 rest) (λ z. Push op z) (λ z. signed-there 2 z rest) (omega arith) (λ l. omega arith) h
with_operands-ends pc op next rest (Some LocalByte) insn h = one_number pc 2 (length rest) 1 next rest insn (number_in 1 rest) (λ n. Local op n false) (λ n. number-there 1 n rest) (omega arith) (λ l. omega arith) h
with_operands-ends pc op next rest (Some LocalAndStep) insn h = two_numbers pc 3 (length rest) 1 1 next rest insn (number_in 1 rest) (signed_in 1 (drop 1 rest)) (λ n y. Iinc n y false) (λ z. signed-there 1 z (drop 1 rest)) (omega arith) (λ l. omega arith) h
with_operands-ends pc op next rest (Some WidePrefix) insn h = behind_wide-ends pc op next rest insn h
with_operands-ends pc op next rest (Some PoolByte) insn h = one_number pc 2 (length rest) 1 next rest insn (number_in 1 rest) (λ n. Pooled op n) (λ n. number-there 1 n rest) (omega arith) (λ l. omega arith) h
with_operands-ends pc op next rest (Some PoolShort) insn h = one_number pc 3 (length rest) 2 next rest insn (number_in 2 rest) (λ n. Pooled op n) (λ n. number-there 2 n rest) (omega arith) (λ l. omega arith) h
with_operands-ends pc op next rest (Some PoolShortAndTwo) insn h = two_numbers pc 5 (length rest) 2 2 next rest insn (number_in 2 rest) (number_in 2 (drop 2 rest)) (λ n _. Pooled op n) (λ n. number-there 2 n (drop 2 rest)) (omega arith) (λ l. omega arith) h
with_operands-ends pc op next rest (Some ArrayKind) insn h =
    let found = bind-ok (number_in 1 rest) (λ kind. array_of pc op kind) (insn, next) h in
    let there = number-there 1 found.0 rest found.1 in
    let is = array_of-ends pc op found.0 next insn found.2 in
    record { forward = omega arith; within = omega arith }
with_operands-ends pc op next rest (Some OffsetShort) insn h = one_number pc 3 (length rest) 2 next rest insn (signed_in 2 rest) (λ z. Jump op z) (λ z. signed-there 2 z rest) (omega arith) (λ l. omega arith) h
with_operands-ends pc op next rest (Some OffsetInt) insn h = one_number pc 5 (length rest) 4 next rest insn (signed_in 4 rest) (λ z. Jump op z) (λ z. signed-there 4 z rest) (omega arith) (λ l. omega arith) h
with_operands-ends pc op next rest (Some OffsetTable) insn h = table_switch-ends pc next rest insn h
with_operands-ends pc op next rest (Some KeyTable) insn h = lookup_switch-ends pc next rest insn h

decoded_from-ends : (pc next : ℕ) (bytes : List ℕ) (insn : Insn) → decoded_from pc bytes ≡ Ok (insn, next) → (pc < next) × (next ≤ pc + length bytes) × (0 < length bytes)
decoded_from-ends pc next [] insn h = absurd cc
decoded_from-ends pc next (op ∷ rest) insn h =
    let e = with_operands-ends pc op next rest (operands_of op) insn h in
    (e.forward, omega (arith, e.within), omega arith)

pub decoded-moves : (code : List ℕ) (pc next : ℕ) (insn : Insn) → decoded code pc ≡ Ok (insn, next) → (pc < next) × (next ≤ length code)
unfolding decoded
decoded-moves code pc next insn h =
    let e = decoded_from-ends pc next (drop pc code) insn h in
    let left = length-drop pc code in
    (e.0, omega (arith, e.1, e.2))

-- What is read at a pc is spelled there, with some padding, one kind of operands after the other.
use Rattle.std.proofs.Common.{◌≡◌, ℕ, suc, ◌+◌, ◌-◌, ◌*◌, ◌^◌, ◌<◌, ◌≤◌, nat_lt, nat_le, Bool, true, false, ◌&&◌, ◌==◌, if◌then◌else◌, List, [], ◌∷◌, ◌++◌, length, take, drop, replicate, Option, Some, None, option_map, Result, Ok, Err, refl, sym, ap, subst, ◌∙◌, arith}
use Rattle.std.specs.Prelude.{ℤ, ◌≤ℤ◌, int_lt}
use Rattle.std.specs.Int.{w8, w16, w32}
use Rattle.std.proofs.lemmas.Bool.{and_parts, cond_both, eqb-true, leb-false, ltb-false}
use Rattle.std.proofs.lemmas.Int.{ints}
use Rattle.std.specs.List.{AllByRecursion}
use Rattle.std.proofs.lemmas.List.{append_assoc, drop-drop, length-append, length-drop, length-replicate, length-take-le, take_at, take-append-drop}
use Rattle.jo_insn.specs.declared.opcodes.Operands.{Operands}
use Rattle.jo_insn.specs.declared.opcodes.Operands.TheVariants.{NoOperand, SignedByte, SignedShort, LocalByte, LocalAndStep, WidePrefix, PoolByte, PoolShort, PoolShortAndTwo, ArrayKind, OffsetShort, OffsetInt, OffsetTable, KeyTable}
use Rattle.jo_insn.specs.declared.instructions.Insn.{Insn}
use Rattle.jo_insn.specs.declared.instructions.Insn.TheVariants.{Plain, Local, Iinc, Push, Pooled, Array, Jump, TableSwitch, LookupSwitch}
use Rattle.jo_insn.specs.declared.instructions.InsnFault.{InsnFault}
use Rattle.jo_insn.specs.declared.instructions.InsnFault.TheVariants.{Cut, Unknown, Outside, Malformed}
use Rattle.byteorder.specs.Endian.{big_bytes}
use Rattle.jo_insn.specs.Opcodes.{Opcode, opcodes, first_row, row_of, operands_of}
use Rattle.jo_insn.specs.Instructions.{IsInsn, spelled, spelled_with, number_in, signed_in, padding_at, ◌>>=◌, with_operands, widened, array_of, is_array_kind, is_wide_kind, with_offsets, with_pairs, decoded, decoded_from, IsReadAs, offsets_at, pairs_at, offsets_between, keys_of, rises, s4}
use Rattle.jo_insn.proofs.SpelledIsDecoded.{keys_are_in, length_4, length_5}
use Rattle.jo_insn.proofs.Numbers.{AreBytes, are_bytes, Reads, ReadsSigned, bytes_behind, byte_read, number_read, signed_read}

-- ---- operands that one opcode alone has

abbrev is_alone : Operands → ℕ → Bool
is_alone LocalAndStep op = op == 132
is_alone WidePrefix op = op == 196
is_alone ArrayKind op = op == 188
is_alone OffsetTable op = op == 170
is_alone KeyTable op = op == 171
is_alone _ op = true

abbrev all_rows : (Opcode → Bool) → List Opcode → Bool
all_rows test [] = true
all_rows test (row ∷ rows) = test row && all_rows test rows

all_are_alone : all_rows (λ row. is_alone row.operands row.code) opcodes ≡ true
unfolding opcodes
all_are_alone = refl

first_row_is : (test passes : Opcode → Bool) (rows : List Opcode) (found : Opcode) → all_rows test rows ≡ true → first_row passes rows ≡ Some found → (test found ≡ true) × (passes found ≡ true)
first_row_is test passes [] found all is = absurd (cc)
first_row_is test passes (row ∷ rows) found all is =
    let parts = and_parts (test row) (all_rows test rows) all in
    elim (passes row) as (λ b. passes row ≡ b → (if b then Some row else first_row passes rows) ≡ Some found → (test found ≡ true) × (passes found ≡ true)) [
      | true ↦ λ passed this.
          let same : row ≡ found = cc in
          let P : Opcode → Type 0 = λ r. (test r ≡ true) × (passes r ≡ true) in
          subst P same (parts.0, passed)
      | false ↦ λ passed later. first_row_is test passes rows found parts.1 later
    ] refl is

row_behind : (o : Option Opcode) (operands : Operands) → option_map (λ (row : Opcode). row.operands) o ≡ Some operands → (row : Opcode) × (o ≡ Some row) × (row.operands ≡ operands)
row_behind None operands is = absurd (cc)
row_behind (Some row) operands is = (row, refl, cc)

only_opcode : (op : ℕ) (operands : Operands) → operands_of op ≡ Some operands → is_alone operands op ≡ true
unfolding row_of
only_opcode op operands is =
    let found = row_behind (row_of op) operands is in
    let row : Opcode = found.0 in
    let facts = first_row_is (λ row. is_alone row.operands row.code) (λ row. row.code == op) opcodes row all_are_alone found.1 in
    let code : row.code ≡ op = eqb-true row.code op facts.1 in
    ap (is_alone operands) (sym code) ∙ ap (λ (o : Operands). is_alone o row.code) (sym found.2) ∙ facts.0

iinc_alone : (op : ℕ) → operands_of op ≡ Some LocalAndStep → op ≡ 132
iinc_alone op is = eqb-true op 132 (only_opcode op LocalAndStep is)

wide_alone : (op : ℕ) → operands_of op ≡ Some WidePrefix → op ≡ 196
wide_alone op is = eqb-true op 196 (only_opcode op WidePrefix is)

newarray_alone : (op : ℕ) → operands_of op ≡ Some ArrayKind → op ≡ 188
newarray_alone op is = eqb-true op 188 (only_opcode op ArrayKind is)

tableswitch_alone : (op : ℕ) → operands_of op ≡ Some OffsetTable → op ≡ 170
tableswitch_alone op is = eqb-true op 170 (only_opcode op OffsetTable is)

lookupswitch_alone : (op : ℕ) → operands_of op ≡ Some KeyTable → op ≡ 171
lookupswitch_alone op is = eqb-true op 171 (only_opcode op KeyTable is)

-- ---- what is to be shown

-- the list begins with this instruction, spelled with some padding, and `next` is the pc behind it
abbrev pub Begins : ℕ → List ℕ → Insn → ℕ → Type 0
Begins pc xs insn next = (padding : List ℕ) × (table : List ℕ) × (rest : List ℕ) × (length padding ≡ padding_at pc) × IsInsn pc insn table
    × (xs ≡ spelled_with padding insn table ++ rest) × (next ≡ pc + length (spelled_with padding insn table))

abbrev pub IsSpelled : ℕ → List ℕ → Result (Insn × ℕ) InsnFault → Type 0
IsSpelled pc xs (Ok read) = Begins pc xs read.0 read.1
IsSpelled pc xs (Err fault) = Unit {0}

begins : (pc : ℕ) (xs : List ℕ) (insn : Insn) (table rest : List ℕ) (next : ℕ) → IsInsn pc insn table → xs ≡ spelled pc insn table ++ rest → next ≡ pc + length (spelled pc insn table)
    → Begins pc xs insn next
begins pc xs insn table rest next can same behind = (replicate (padding_at pc) 0, table, rest, length-replicate (padding_at pc) 0, can, same, behind)

after : (pc : ℕ) (xs : List ℕ) {A : Type 0} (read : Result A InsnFault) (more : A → Result (Insn × ℕ) InsnFault) → ((x : A) → read ≡ Ok x → IsSpelled pc xs (more x)) → IsSpelled pc xs (read >>= more)
after pc xs (Err fault) more goes = tt
after pc xs (Ok x) more goes = goes x refl

-- ---- by the operands

abbrev IsWell : ℕ → ℕ → List ℕ → Option Operands → Type 0
IsWell pc op rest operands = operands_of op ≡ operands → IsSpelled pc (op ∷ rest) (with_operands pc op rest operands)

module _ (pc op : ℕ) (rest : List ℕ) (bytes : AreBytes rest) where
  signed_byte : IsWell pc op rest (Some SignedByte)
  signed_byte format = after pc (op ∷ rest) (signed_in 1 rest) (λ value. Ok (Push op value, pc + 2)) (λ value is.
      let read = signed_read w8 value rest bytes is in
      begins pc (op ∷ rest) (Push op value) [] (drop 1 rest) (pc + 2) (rw format (read.0, refl)) (rw format (ap (λ (more : List ℕ). op ∷ more) read.2)) (rw format refl))

  signed_short : IsWell pc op rest (Some SignedShort)
  signed_short format = after pc (op ∷ rest) (signed_in 2 rest) (λ value. Ok (Push op value, pc + 3)) (λ value is.
      let read = signed_read w16 value rest bytes is in
      begins pc (op ∷ rest) (Push op value) [] (drop 2 rest) (pc + 3) (rw format (read.0, refl)) (rw format (ap (λ (more : List ℕ). op ∷ more) read.2)) (rw format refl))

  local_byte : IsWell pc op rest (Some LocalByte)
  local_byte format = after pc (op ∷ rest) (number_in 1 rest) (λ index. Ok (Local op index false, pc + 2)) (λ index is.
      let read = byte_read index rest bytes is in
      begins pc (op ∷ rest) (Local op index false) [] (drop 1 rest) (pc + 2) (format, read.0, refl) (ap (λ (more : List ℕ). op ∷ more) read.1) refl)

  local_and_step : IsWell pc op rest (Some LocalAndStep)
  local_and_step format = after pc (op ∷ rest) (number_in 1 rest) (λ index. signed_in 1 (drop 1 rest) >>= (λ by. Ok (Iinc index by false, pc + 3))) (λ index is_index.
      after pc (op ∷ rest) (signed_in 1 (drop 1 rest)) (λ by. Ok (Iinc index by false, pc + 3)) (λ by is_by.
      let read = byte_read index rest bytes is_index in
      let step = signed_read w8 by (drop 1 rest) (bytes_behind 1 rest bytes) is_by in
      let whole = read.1 ∙ ap (λ (more : List ℕ). index ∷ more) step.2 in
      begins pc (op ∷ rest) (Iinc index by false) [] (drop 1 (drop 1 rest)) (pc + 3) (read.0, step.0, refl) (rw (iinc_alone op format) (ap (λ (more : List ℕ). 132 ∷ more) whole)) refl))

  pool_byte : IsWell pc op rest (Some PoolByte)
  pool_byte format = after pc (op ∷ rest) (number_in 1 rest) (λ index. Ok (Pooled op index, pc + 2)) (λ index is.
      let read = byte_read index rest bytes is in
      begins pc (op ∷ rest) (Pooled op index) [] (drop 1 rest) (pc + 2) (rw format (read.0, refl)) (rw format (ap (λ (more : List ℕ). op ∷ more) read.1)) (rw format refl))

  pool_short : IsWell pc op rest (Some PoolShort)
  pool_short format = after pc (op ∷ rest) (number_in 2 rest) (λ index. Ok (Pooled op index, pc + 3)) (λ index is.
      let read = number_read 2 index rest bytes is in
      begins pc (op ∷ rest) (Pooled op index) [] (drop 2 rest) (pc + 3) (rw format (read.0, refl)) (rw format (ap (λ (more : List ℕ). op ∷ more) read.2)) (rw format refl))

  pool_short_and_two : IsWell pc op rest (Some PoolShortAndTwo)
  pool_short_and_two format = after pc (op ∷ rest) (number_in 2 rest) (λ index. number_in 2 (drop 2 rest) >>= (λ ignored. Ok (Pooled op index, pc + 5))) (λ index is_index.
      after pc (op ∷ rest) (number_in 2 (drop 2 rest)) (λ ignored. Ok (Pooled op index, pc + 5)) (λ ignored is_ignored.
      let read = number_read 2 index rest bytes is_index in
      let two = number_read 2 ignored (drop 2 rest) (bytes_behind 2 rest bytes) is_ignored in
      let table : List ℕ = big_bytes 2 ignored in
      let whole = read.2 ∙ ap (λ (more : List ℕ). big_bytes 2 index ++ more) two.2 in
      begins pc (op ∷ rest) (Pooled op index) table (drop 2 (drop 2 rest)) (pc + 5) (rw format (read.0, refl)) (rw format (ap (λ (more : List ℕ). op ∷ more) whole)) (rw format refl)))

  array_kind : IsWell pc op rest (Some ArrayKind)
  array_kind format = after pc (op ∷ rest) (number_in 1 rest) (array_of pc op) (λ kind is.
      let read = byte_read kind rest bytes is in
      cond_both (is_array_kind kind) (Ok (Array kind, pc + 2)) (if is_wide_kind kind then Err (Outside op) else Err Malformed) (IsSpelled pc (op ∷ rest))
      (λ right. begins pc (op ∷ rest) (Array kind) [] (drop 1 rest) (pc + 2) (right, refl) (rw (newarray_alone op format) (ap (λ (more : List ℕ). 188 ∷ more) read.1)) refl)
      (λ wrong. cond_both (is_wide_kind kind) (Err (Outside op)) (Err Malformed) (IsSpelled pc (op ∷ rest)) (λ wide. tt) (λ other. tt)))

  offset_short : IsWell pc op rest (Some OffsetShort)
  offset_short format = after pc (op ∷ rest) (signed_in 2 rest) (λ by. Ok (Jump op by, pc + 3)) (λ by is.
      let read = signed_read w16 by rest bytes is in
      begins pc (op ∷ rest) (Jump op by) [] (drop 2 rest) (pc + 3) (rw format (read.0, refl)) (rw format (ap (λ (more : List ℕ). op ∷ more) read.2)) (rw format refl))

  offset_int : IsWell pc op rest (Some OffsetInt)
  offset_int format = after pc (op ∷ rest) (signed_in 4 rest) (λ by. Ok (Jump op by, pc + 5)) (λ by is.
      let read = signed_read w32 by rest bytes is in
      begins pc (op ∷ rest) (Jump op by) [] (drop 4 rest) (pc + 5) (rw format (read.0, refl)) (rw format (ap (λ (more : List ℕ). op ∷ more) read.2)) (rw format refl))

-- ---- behind `wide`

wide_local : (pc op : ℕ) (rest : List ℕ) → AreBytes rest → operands_of op ≡ Some LocalByte → IsSpelled pc (196 ∷ op ∷ rest) (widened pc 196 op rest (Some LocalByte))
wide_local pc op rest bytes format = after pc (196 ∷ op ∷ rest) (number_in 2 rest) (λ index. Ok (Local op index true, pc + 4)) (λ index is.
    let read = number_read 2 index rest bytes is in
    begins pc (196 ∷ op ∷ rest) (Local op index true) [] (drop 2 rest) (pc + 4) (format, read.0, refl) (ap (λ (more : List ℕ). 196 ∷ op ∷ more) read.2) refl)

wide_iinc : (pc op : ℕ) (rest : List ℕ) → AreBytes rest → operands_of op ≡ Some LocalAndStep → IsSpelled pc (196 ∷ op ∷ rest) (widened pc 196 op rest (Some LocalAndStep))
wide_iinc pc op rest bytes format = after pc (196 ∷ op ∷ rest) (number_in 2 rest) (λ index. signed_in 2 (drop 2 rest) >>= (λ by. Ok (Iinc index by true, pc + 6))) (λ index is_index.
    after pc (196 ∷ op ∷ rest) (signed_in 2 (drop 2 rest)) (λ by. Ok (Iinc index by true, pc + 6)) (λ by is_by.
    let read = number_read 2 index rest bytes is_index in
    let step = signed_read w16 by (drop 2 rest) (bytes_behind 2 rest bytes) is_by in
    let whole = read.2 ∙ ap (λ (more : List ℕ). big_bytes 2 index ++ more) step.2 in
    begins pc (196 ∷ op ∷ rest) (Iinc index by true) [] (drop 2 (drop 2 rest)) (pc + 6) (read.0, step.0, refl) (rw (iinc_alone op format) (ap (λ (more : List ℕ). 196 ∷ 132 ∷ more) whole)) refl))

wide_operands : (pc op : ℕ) (rest : List ℕ) → AreBytes rest → (operands : Option Operands) → operands_of op ≡ operands → IsSpelled pc (196 ∷ op ∷ rest) (widened pc 196 op rest operands)
wide_operands pc op rest bytes (Some LocalByte) format = wide_local pc op rest bytes format
wide_operands pc op rest bytes (Some LocalAndStep) format = wide_iinc pc op rest bytes format
wide_operands pc op rest bytes _ format = tt

wide_prefix : (pc op : ℕ) (rest : List ℕ) → AreBytes rest → IsWell pc op rest (Some WidePrefix)
wide_prefix pc op [] bytes format = tt
wide_prefix pc op (widened_op ∷ rest) bytes format =
    rw (wide_alone op format) (wide_operands pc widened_op rest (λ k. bytes (suc k)) (operands_of widened_op) refl)

-- ---- switches

-- what stands behind an opcode, from its padding on
joined : (padding a b table rest tail whole : List ℕ) → whole ≡ padding ++ tail → tail ≡ a ++ (b ++ (table ++ rest)) → whole ≡ padding ++ a ++ b ++ table ++ rest
joined padding a b table rest tail whole at_tail at_parts = at_tail ∙ ap (λ (more : List ℕ). padding ++ more) at_parts ∙ simp append_assoc

joined_3 : (padding a b d table rest tail whole : List ℕ) → whole ≡ padding ++ tail → tail ≡ a ++ (b ++ (d ++ (table ++ rest))) → whole ≡ padding ++ a ++ b ++ d ++ table ++ rest
joined_3 padding a b d table rest tail whole at_tail at_parts = at_tail ∙ ap (λ (more : List ℕ). padding ++ more) at_parts ∙ simp append_assoc

not_less : (a b : ℤ) → int_lt a b ≡ false → b ≤ℤ a
not_less a b is = grind (arith, ints)

-- there is room for the padding, where something stands behind it
padding_fits : (n : ℕ) (rest : List ℕ) → 4 ≤ length (drop n rest) → length (take n rest) ≡ n
padding_fits n rest enough = let left = length-drop n rest in length-take-le n rest (omega arith)

offsets_begin : (pc op : ℕ) (rest tail : List ℕ) (other low high : ℤ) → operands_of op ≡ Some OffsetTable → tail ≡ drop (padding_at pc) rest
    → ReadsSigned w32 other tail → ReadsSigned w32 low (drop 4 tail) → ReadsSigned w32 high (drop 8 tail)
    → IsSpelled pc (op ∷ rest) (with_offsets pc other low high (drop 12 tail))
offsets_begin pc op rest tail other low high format is_tail read_other read_low read_high =
    let size : ℕ = 4 * offsets_between low high in
    let behind : List ℕ = drop 12 tail in
    let insn : Insn = TableSwitch other low high (offsets_at pc) in
    let found : Result (Insn × ℕ) InsnFault = Ok (insn, offsets_at pc + size) in
    let Goal : Result (Insn × ℕ) InsnFault → Type 0 = IsSpelled pc (op ∷ rest) in
    cond_both (int_lt high low) (Err Malformed) (if nat_lt (length behind) size then Err Cut else found) Goal (λ wrong. tt) (λ order.
    cond_both (nat_lt (length behind) size) (Err Cut) found Goal (λ short. tt) (λ enough.
    let padding : List ℕ = take (padding_at pc) rest in
    let table : List ℕ = take size behind in
    let left : List ℕ = drop size behind in
    let fits : length padding ≡ padding_at pc = padding_fits (padding_at pc) rest (subst (λ (more : List ℕ). 4 ≤ length more) is_tail read_other.1) in
    let filled : length table ≡ size = length-take-le size behind (ltb-false (length behind) size enough) in
    let at_high : drop 8 tail ≡ s4 high ++ (table ++ left) = read_high.2 ∙ ap (λ (more : List ℕ). s4 high ++ more) (drop-drop 4 8 tail ∙ sym (take-append-drop size behind)) in
    let at_low : drop 4 tail ≡ s4 low ++ (s4 high ++ (table ++ left)) = read_low.2 ∙ ap (λ (more : List ℕ). s4 low ++ more) (drop-drop 4 4 tail ∙ at_high) in
    let parts : tail ≡ s4 other ++ (s4 low ++ (s4 high ++ (table ++ left))) = read_other.2 ∙ ap (λ (more : List ℕ). s4 other ++ more) at_low in
    let whole = joined_3 padding (s4 other) (s4 low) (s4 high) table left tail rest (sym (take-append-drop (padding_at pc) rest) ∙ ap (λ (more : List ℕ). padding ++ more) (sym is_tail)) parts in
    let long = length_5 padding (s4 other) (s4 low) (s4 high) table in (
      padding,
      table,
      left,
      fits,
      (read_other.0, read_low.0, read_high.0, not_less high low order, refl, filled),
      rw (tableswitch_alone op format) (ap (λ (more : List ℕ). 170 ∷ more) whole),
      omega arith,
    )))

offset_table : (pc op : ℕ) (rest : List ℕ) → AreBytes rest → IsWell pc op rest (Some OffsetTable)
offset_table pc op rest bytes format =
    let tail : List ℕ = drop (padding_at pc) rest in
    let bytes_at : (n : ℕ) → AreBytes (drop n tail) = λ n. bytes_behind n tail (bytes_behind (padding_at pc) rest bytes) in
    after pc (op ∷ rest) (signed_in 4 tail) (λ other. signed_in 4 (drop 4 tail) >>= (λ low. signed_in 4 (drop 8 tail) >>= (λ high. with_offsets pc other low high (drop 12 tail)))) (λ other is_other.
    after pc (op ∷ rest) (signed_in 4 (drop 4 tail)) (λ low. signed_in 4 (drop 8 tail) >>= (λ high. with_offsets pc other low high (drop 12 tail))) (λ low is_low.
    after pc (op ∷ rest) (signed_in 4 (drop 8 tail)) (λ high. with_offsets pc other low high (drop 12 tail)) (λ high is_high.
    offsets_begin pc op rest tail other low high format refl
    (signed_read w32 other tail (bytes_at 0) is_other) (signed_read w32 low (drop 4 tail) (bytes_at 4) is_low) (signed_read w32 high (drop 8 tail) (bytes_at 8) is_high))))

pairs_begin : (pc op : ℕ) (rest tail : List ℕ) (other : ℤ) (pairs : ℕ) → operands_of op ≡ Some KeyTable → tail ≡ drop (padding_at pc) rest
    → ReadsSigned w32 other tail → Reads 4 pairs (drop 4 tail)
    → IsSpelled pc (op ∷ rest) (with_pairs pc other pairs (drop 8 tail))
pairs_begin pc op rest tail other pairs format is_tail read_other read_pairs =
    let size : ℕ = 8 * pairs in
    let behind : List ℕ = drop 8 tail in
    let insn : Insn = LookupSwitch other pairs (pairs_at pc) in
    let sorted : Result (Insn × ℕ) InsnFault = if rises (keys_of pairs behind) then Ok (insn, pairs_at pc + size) else Err Malformed in
    let Goal : Result (Insn × ℕ) InsnFault → Type 0 = IsSpelled pc (op ∷ rest) in
    cond_both (nat_le (2 ^ 31) pairs) (Err Malformed) (if nat_lt (length behind) size then Err Cut else sorted) Goal (λ many. tt) (λ few.
    cond_both (nat_lt (length behind) size) (Err Cut) sorted Goal (λ short. tt) (λ enough.
    cond_both (rises (keys_of pairs behind)) (Ok (insn, pairs_at pc + size)) (Err Malformed) Goal (λ order.
    let padding : List ℕ = take (padding_at pc) rest in
    let table : List ℕ = take size behind in
    let left : List ℕ = drop size behind in
    let fits : length padding ≡ padding_at pc = padding_fits (padding_at pc) rest (subst (λ (more : List ℕ). 4 ≤ length more) is_tail read_other.1) in
    let filled : length table ≡ size = length-take-le size behind (ltb-false (length behind) size enough) in
    let split : table ++ left ≡ behind = take-append-drop size behind in
    let keys : rises (keys_of pairs table) ≡ true = rw (← keys_are_in pairs table left filled, split) order in
    let at_pairs : drop 4 tail ≡ big_bytes 4 pairs ++ (table ++ left) = read_pairs.2 ∙ ap (λ (more : List ℕ). big_bytes 4 pairs ++ more) (drop-drop 4 4 tail ∙ sym split) in
    let parts : tail ≡ s4 other ++ (big_bytes 4 pairs ++ (table ++ left)) = read_other.2 ∙ ap (λ (more : List ℕ). s4 other ++ more) at_pairs in
    let whole = joined padding (s4 other) (big_bytes 4 pairs) table left tail rest (sym (take-append-drop (padding_at pc) rest) ∙ ap (λ (more : List ℕ). padding ++ more) (sym is_tail)) parts in
    let long = length_4 padding (s4 other) (big_bytes 4 pairs) table in (
      padding,
      table,
      left,
      fits,
      (read_other.0, leb-false (2 ^ 31) pairs few, refl, filled, keys),
      rw (lookupswitch_alone op format) (ap (λ (more : List ℕ). 171 ∷ more) whole),
      omega arith,
    )) (λ unsorted. tt)))

key_table : (pc op : ℕ) (rest : List ℕ) → AreBytes rest → IsWell pc op rest (Some KeyTable)
key_table pc op rest bytes format =
    let tail : List ℕ = drop (padding_at pc) rest in
    let bytes_at : (n : ℕ) → AreBytes (drop n tail) = λ n. bytes_behind n tail (bytes_behind (padding_at pc) rest bytes) in
    after pc (op ∷ rest) (signed_in 4 tail) (λ other. number_in 4 (drop 4 tail) >>= (λ pairs. with_pairs pc other pairs (drop 8 tail))) (λ other is_other.
    after pc (op ∷ rest) (number_in 4 (drop 4 tail)) (λ pairs. with_pairs pc other pairs (drop 8 tail)) (λ pairs is_pairs.
    pairs_begin pc op rest tail other pairs format refl
    (signed_read w32 other tail (bytes_at 0) is_other) (number_read 4 pairs (drop 4 tail) (bytes_at 4) is_pairs)))

-- ---- all of them

by_operands : (pc op : ℕ) (rest : List ℕ) → AreBytes rest → (operands : Option Operands) → IsWell pc op rest operands
by_operands pc op rest bytes None format = cond_both (nat_lt op 202) (Err (Outside op)) (Err (Unknown op)) (IsSpelled pc (op ∷ rest)) (λ outside. tt) (λ unknown. tt)
by_operands pc op rest bytes (Some NoOperand) format = begins pc (op ∷ rest) (Plain op) [] rest (pc + 1) (format, refl) refl refl
by_operands pc op rest bytes (Some SignedByte) format = signed_byte pc op rest bytes format
by_operands pc op rest bytes (Some SignedShort) format = signed_short pc op rest bytes format
by_operands pc op rest bytes (Some LocalByte) format = local_byte pc op rest bytes format
by_operands pc op rest bytes (Some LocalAndStep) format = local_and_step pc op rest bytes format
by_operands pc op rest bytes (Some WidePrefix) format = wide_prefix pc op rest bytes format
by_operands pc op rest bytes (Some PoolByte) format = pool_byte pc op rest bytes format
by_operands pc op rest bytes (Some PoolShort) format = pool_short pc op rest bytes format
by_operands pc op rest bytes (Some PoolShortAndTwo) format = pool_short_and_two pc op rest bytes format
by_operands pc op rest bytes (Some ArrayKind) format = array_kind pc op rest bytes format
by_operands pc op rest bytes (Some OffsetShort) format = offset_short pc op rest bytes format
by_operands pc op rest bytes (Some OffsetInt) format = offset_int pc op rest bytes format
by_operands pc op rest bytes (Some OffsetTable) format = offset_table pc op rest bytes format
by_operands pc op rest bytes (Some KeyTable) format = key_table pc op rest bytes format

decoded_from_spelled : (pc : ℕ) (xs : List ℕ) → AreBytes xs → IsSpelled pc xs (decoded_from pc xs)
decoded_from_spelled pc [] bytes = tt
decoded_from_spelled pc (op ∷ rest) bytes = by_operands pc op rest (λ k. bytes (suc k)) (operands_of op) refl

-- no spelling is empty
spelled_some : (padding : List ℕ) (insn : Insn) (table : List ℕ) → 0 < length (spelled_with padding insn table)
spelled_some padding (Plain op) table = omega arith
spelled_some padding (Local op index false) table = omega arith
spelled_some padding (Local op index true) table = omega arith
spelled_some padding (Iinc index by false) table = omega arith
spelled_some padding (Iinc index by true) table = omega arith
spelled_some padding (Push op value) table = omega arith
spelled_some padding (Pooled op index) table = omega arith
spelled_some padding (Array kind) table = omega arith
spelled_some padding (Jump op by) table = omega arith
spelled_some padding (TableSwitch other low high at) table = omega arith
spelled_some padding (LookupSwitch other pairs at) table = omega arith

read_in_code : (code : List ℕ) (pc next : ℕ) (insn : Insn) → Begins pc (drop pc code) insn next → IsReadAs code pc insn next
read_in_code code pc next insn (padding, table, rest, fits, can, same, behind) =
    let bytes : List ℕ = spelled_with padding insn table in
    let some = spelled_some padding insn table in
    let whole : length code - pc ≡ length bytes + length rest = sym (length-drop pc code) ∙ ap length same ∙ length-append bytes rest in
    let size : next - pc ≡ length bytes = omega arith in
    (padding, table, fits, can, omega arith, omega arith, rw (size, same) (take_at bytes rest (length bytes) refl))

pub decoded_is_spelled : (code : List ℕ) (pc next : ℕ) (insn : Insn) → AllByRecursion (λ byte. byte < 2 ^ 8) code → decoded code pc ≡ Ok (insn, next) → IsReadAs code pc insn next
unfolding decoded
decoded_is_spelled code pc next insn all is =
    let read = decoded_from_spelled pc (drop pc code) (bytes_behind pc code (are_bytes code all)) in
    read_in_code code pc next insn (subst (IsSpelled pc (drop pc code)) is read)

-- An instruction is kept as long as it was, whatever numbers the code has.
use Rattle.std.proofs.Common.{◌≡◌, ℕ, ◌+◌, ◌-◌, ◌*◌, ◌^◌, ◌≤◌, inl, inr, Bool, true, false, ◌==◌, if◌then◌else◌, List, [], ◌∷◌, ◌++◌, length, take, drop, replicate, Option, Some, None, Result, Ok, Err, refl, ap, subst, ◌∙◌, arith, length-append}
use Rattle.std.specs.Prelude.{ℤ, nat_lt, nat_le, int_lt}
use Rattle.std.specs.Result.{IfOk}
use Rattle.std.proofs.lemmas.Bool.{cases_Bool, eqb-true}
use Rattle.std.proofs.lemmas.List.{length-drop, length-take-le, length-replicate}
use Rattle.byteorder.specs.Endian.{big_bytes}
use Rattle.jo_insn.specs.declared.opcodes.Operands.{Operands}
use Rattle.jo_insn.specs.declared.opcodes.Operands.TheVariants.{NoOperand, SignedByte, SignedShort, LocalByte, LocalAndStep, WidePrefix, PoolByte, PoolShort, PoolShortAndTwo, ArrayKind, OffsetShort, OffsetInt, OffsetTable, KeyTable}
use Rattle.jo_insn.specs.declared.instructions.Insn.{Insn}
use Rattle.jo_insn.specs.declared.instructions.InsnFault.{InsnFault}
use Rattle.jo_insn.specs.Opcodes.{operands_of}
use Rattle.jo_insn.specs.Instructions.{◌>>=◌, number_in, signed_in, decoded, decoded_from, with_operands, widened, behind_wide, array_of, is_array_kind, is_wide_kind, with_offsets, with_pairs, spelled, padding_at, offsets_at, offsets_between, pairs_at, keys_of, rises, s4}
use Rattle.jo_insn.proofs.DecodedMoves.{decoded-moves}
use Rattle.jo_insn.proofs.InsnTables.{call_alone, at_call}
use Rattle.class_pool.specs.declared.entries.PoolEntry.{PoolEntry}
use Rattle.jo_insn.specs.declared.jumps.Placed.{Placed}
use Rattle.class_pool.specs.Code.{canonical_table, canonical_code}
use Rattle.class_pool.specs.ClassGrammar.{AreInsnsFrom, ends, goes_on}

abbrev pub table_of : List PoolEntry → List ℕ → ℕ → Insn → ℕ → List ℕ
table_of pool code pc insn next = canonical_table pool code (record { pc = pc; insn = insn; next = next })

-- ---- two bytes stand behind the index of an invokeinterface alone

other_than_call : (op : ℕ) (operands : Operands) → operands_of op ≡ Some operands → (operands ≡ PoolShortAndTwo → ⊥) → (op == 185) ≡ false
other_than_call op operands is differs = elim (cases_Bool (op == 185)) [
  | inl call ↦ let same = ap operands_of (eqb-true op 185 call) ∙ at_call in absurd (differs (cc))
  | inr other ↦ other
]

-- ---- each kind of operands

after : {A : Type 0} (P : Insn × ℕ → Type 0) (read : Result A InsnFault) (more : A → Result (Insn × ℕ) InsnFault) → ((x : A) → IfOk (more x) P) → IfOk (read >>= more) P
after P (Err fault) more goes = tt
after P (Ok x) more goes = goes x

either : (P : Insn × ℕ → Type 0) (test : Bool) (this other : Result (Insn × ℕ) InsnFault) → IfOk this P → IfOk other P → IfOk (if test then this else other) P
either P true this other p q = p
either P false this other p q = q

-- what stands before the offsets or the pairs of a switch
pub head_length : (a b d e : List ℕ) → length (a ++ b ++ d ++ e) ≡ length a + length b + length d + length e
head_length a b d e = simp length-append

pub pairs_head_length : (a b d : List ℕ) → length (a ++ b ++ d) ≡ length a + length b + length d
pairs_head_length a b d = simp length-append

module _ (pool : List PoolEntry) (code : List ℕ) (pc : ℕ) where
  -- where it ends within the code, its spelling is as long
  abbrev IsLong : Insn × ℕ → Type 0
  IsLong found = found.1 ≤ length code → pc + length (spelled pc found.0 (table_of pool code pc found.0 found.1)) ≡ found.1

  -- the part of the code behind the operands of a switch
  table_long : (head : List ℕ) (at size next : ℕ) → pc + length head ≡ at → next ≡ at + size → next ≤ length code → pc + length (head ++ take (next - at) (drop at code)) ≡ next
  table_long head at size next place is within =
      let left = length-drop at code in
      let taken = length-take-le (next - at) (drop at code) (omega arith) in
      let parts = length-append head (take (next - at) (drop at code)) in
      omega arith

  offsets_long : (other low high : ℤ) (table : List ℕ) → IfOk (with_offsets pc other low high table) IsLong
  offsets_long other low high table =
      let n : ℕ = 4 * offsets_between low high in
      let padding : List ℕ = replicate (padding_at pc) 0 in
      let head : List ℕ = 170 ∷ padding ++ s4 other ++ s4 low ++ s4 high in
      let long = head_length padding (s4 other) (s4 low) (s4 high) in
      let padded : length padding ≡ padding_at pc = length-replicate (padding_at pc) 0 in
      either IsLong (int_lt high low) _ _ tt (either IsLong (nat_lt (length table) n) _ _ tt (λ within. table_long head (offsets_at pc) n (offsets_at pc + n) (omega arith) refl within))

  pairs_long : (other : ℤ) (pairs : ℕ) (table : List ℕ) → IfOk (with_pairs pc other pairs table) IsLong
  pairs_long other pairs table =
      let n : ℕ = 8 * pairs in
      let padding : List ℕ = replicate (padding_at pc) 0 in
      let head : List ℕ = 171 ∷ padding ++ s4 other ++ big_bytes 4 pairs in
      let long = pairs_head_length padding (s4 other) (big_bytes 4 pairs) in
      let padded : length padding ≡ padding_at pc = length-replicate (padding_at pc) 0 in
      either IsLong (nat_le (2 ^ 31) pairs) _ _ tt (either IsLong (nat_lt (length table) n) _ _ tt
      (either IsLong (rises (keys_of pairs table)) _ _ (λ within. table_long head (pairs_at pc) n (pairs_at pc + n) (omega arith) refl within) tt))

  array_long : (op kind : ℕ) → IfOk (array_of pc op kind) IsLong
  array_long op kind = either IsLong (is_array_kind kind) _ _ (λ within. refl) (either IsLong (is_wide_kind kind) _ _ tt tt)

  widened_long : (wide op : ℕ) (rest : List ℕ) (operands : Option Operands) → IfOk (widened pc wide op rest operands) IsLong
  widened_long wide op rest (Some LocalByte) = after IsLong (number_in 2 rest) _ (λ index within. refl)
  widened_long wide op rest (Some LocalAndStep) = after IsLong (number_in 2 rest) _ (λ index. after IsLong (signed_in 2 (drop 2 rest)) _ (λ by within. refl))
  widened_long wide op rest _ = tt

  wide_long : (wide : ℕ) (rest : List ℕ) → IfOk (behind_wide pc wide rest) IsLong
  wide_long wide [] = tt
  wide_long wide (op ∷ rest) = widened_long wide op rest (operands_of op)

  operands_long : (op : ℕ) (rest : List ℕ) (operands : Option Operands) → operands_of op ≡ operands → IfOk (with_operands pc op rest operands) IsLong
  operands_long op rest None is = either IsLong (nat_lt op 202) _ _ tt tt
  operands_long op rest (Some NoOperand) is = λ within. refl
  operands_long op rest (Some SignedByte) is = after IsLong (signed_in 1 rest) _ (λ value within. rw is refl)
  operands_long op rest (Some SignedShort) is = after IsLong (signed_in 2 rest) _ (λ value within. rw is refl)
  operands_long op rest (Some LocalByte) is = after IsLong (number_in 1 rest) _ (λ index within. refl)
  operands_long op rest (Some LocalAndStep) is = after IsLong (number_in 1 rest) _ (λ index. after IsLong (signed_in 1 (drop 1 rest)) _ (λ by within. refl))
  operands_long op rest (Some WidePrefix) is = wide_long op rest
  operands_long op rest (Some PoolByte) is = let other = other_than_call op PoolByte is (λ e. absurd (cc)) in after IsLong (number_in 1 rest) _ (λ index within. rw (is, other) refl)
  operands_long op rest (Some PoolShort) is = let other = other_than_call op PoolShort is (λ e. absurd (cc)) in after IsLong (number_in 2 rest) _ (λ index within. rw (is, other) refl)
  operands_long op rest (Some PoolShortAndTwo) is =
      let call : op ≡ 185 = call_alone op is in
      after IsLong (number_in 2 rest) _ (λ index. after IsLong (number_in 2 (drop 2 rest)) _ (λ ignored within. rw (is, call) refl))
  operands_long op rest (Some ArrayKind) is = after IsLong (number_in 1 rest) _ (λ kind. array_long op kind)
  operands_long op rest (Some OffsetShort) is = after IsLong (signed_in 2 rest) _ (λ by within. rw is refl)
  operands_long op rest (Some OffsetInt) is = after IsLong (signed_in 4 rest) _ (λ by within. rw is refl)
  operands_long op rest (Some OffsetTable) is =
      let from : List ℕ = drop (padding_at pc) rest in
      after IsLong (signed_in 4 from) _ (λ other. after IsLong (signed_in 4 (drop 4 from)) _ (λ low. after IsLong (signed_in 4 (drop 8 from)) _ (λ high. offsets_long other low high (drop 12 from))))
  operands_long op rest (Some KeyTable) is =
      let from : List ℕ = drop (padding_at pc) rest in
      after IsLong (signed_in 4 from) _ (λ other. after IsLong (number_in 4 (drop 4 from)) _ (λ pairs. pairs_long other pairs (drop 8 from)))

  from_long : (bytes : List ℕ) → IfOk (decoded_from pc bytes) IsLong
  from_long [] = tt
  from_long (op ∷ rest) = operands_long op rest (operands_of op) refl

  pub ends_at : (next : ℕ) (insn : Insn) → decoded code pc ≡ Ok (insn, next) → pc + length (spelled pc insn (table_of pool code pc insn next)) ≡ next
  unfolding decoded
  ends_at next insn is =
      let found : Result (Insn × ℕ) InsnFault = Ok (insn, next) in
      let long : IfOk found IsLong = subst (λ (r : Result (Insn × ℕ) InsnFault). IfOk r IsLong) is (from_long (drop pc code)) in
      long (decoded-moves code pc next insn is).1

pub kept_length : (pool : List PoolEntry) (code : List ℕ) {pc : ℕ} {insns : List Placed} → AreInsnsFrom pool code pc insns → pc + length (canonical_code pool code insns) ≡ length code
kept_length pool code (ends pc end) = omega arith
kept_length pool code (goes_on pc next insn more is sound others) =
    let one = ends_at pool code pc next insn is in
    let rest = kept_length pool code others in
    let parts = length-append (spelled pc insn (table_of pool code pc insn next)) (canonical_code pool code more) in
    omega arith

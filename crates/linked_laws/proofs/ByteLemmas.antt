-- Kept code is bytes.
use Rattle.std.proofs.Common.{◌≡◌, ℕ, zero, suc, ◌-◌, ◌^◌, ◌<◌, Bool, true, false, List, ◌∷◌, ◌++◌, take, drop, replicate, Option, Some, None, Ok, refl, sym, subst, arith}
use Rattle.std.specs.Prelude.{◌==◌}
use Rattle.std.proofs.lemmas.List.{take-append-drop}
use Rattle.jo_insn.specs.declared.instructions.Insn.{Insn}
use Rattle.jo_insn.specs.declared.instructions.Insn.TheVariants.{Plain, Local, Iinc, Push, Pooled, Array, Jump, TableSwitch, LookupSwitch}
use Rattle.jo_insn.specs.Instructions.{decoded, padding_at, spelled_index, spelled_with, spelled, s4}
use Rattle.jo_insn.specs.Opcodes.{operands_of}
use Rattle.jo_insn.specs.declared.jumps.Placed.{Placed}
use Rattle.jo_insn.proofs.SpelledFromDecoded.{decoded_is_spelled}
use Rattle.class_pool.specs.declared.entries.PoolEntry.{PoolEntry}
use Rattle.class_pool.specs.declared.entries.PoolEntry.TheVariants.{Second, Utf8, Integer, Float, Long, Double, Class, Text, FieldRef, MethodRef, InterfaceMethodRef, NameAndType, MethodHandle, MethodType, InvokeDynamic}
use Rattle.class_pool.specs.ClassGrammar.{u4, AreInsnsFrom, ends, goes_on}
use Rattle.class_pool.specs.Code.{canonical_table, canonical_code}
use Rattle.class_pool.specs.Pool.{entry_at, desc_at}
use Rattle.class_pool.proofs.GrammarBytes.{AllBytes, bytes_behind, bytes_before}
use Rattle.linked_laws.proofs.Lists.{all_append}

abbrev IsByte : ℕ → Type 0
IsByte byte = byte < 2 ^ 8

joined : (front rest : List ℕ) → AllBytes front → AllBytes rest → AllBytes (front ++ rest)
joined = all_append IsByte

zeros : (n : ℕ) → AllBytes (replicate n 0)
zeros zero = tt
zeros (suc n) = (omega arith, zeros n)

taken : (n : ℕ) (xs : List ℕ) → AllBytes xs → AllBytes (take n xs)
taken n xs all = bytes_before (take n xs) (drop n xs) (subst AllBytes (sym (take-append-drop n xs)) all)

dropped : (n : ℕ) (xs : List ℕ) → AllBytes xs → AllBytes (drop n xs)
dropped n xs all = bytes_behind (take n xs) (drop n xs) (subst AllBytes (sym (take-append-drop n xs)) all)

-- ---- one instruction with other padding and another table

three_parts : (op : ℕ) (padding other one two table front rest : List ℕ) → AllBytes (op ∷ padding ++ one ++ two ++ other ++ table) → AllBytes front → AllBytes rest → AllBytes (op ∷ front ++ one ++ two ++ other ++ rest)
three_parts op padding other one two table front rest all fits kept =
    let head = bytes_before (op ∷ padding ++ one ++ two ++ other) table all in
    let less = bytes_before (op ∷ padding ++ one ++ two) other head in
    let least = bytes_before (op ∷ padding ++ one) two less in
    let first : AllBytes (op ∷ front) = (all.0, fits) in
    let with_one = joined (op ∷ front) one first (bytes_behind (op ∷ padding) one least) in
    let with_two = joined (op ∷ front ++ one) two with_one (bytes_behind (op ∷ padding ++ one) two less) in
    let with_other = joined (op ∷ front ++ one ++ two) other with_two (bytes_behind (op ∷ padding ++ one ++ two) other head) in
    joined (op ∷ front ++ one ++ two ++ other) rest with_other kept

two_parts : (op : ℕ) (padding one two table front rest : List ℕ) → AllBytes (op ∷ padding ++ one ++ two ++ table) → AllBytes front → AllBytes rest → AllBytes (op ∷ front ++ one ++ two ++ rest)
two_parts op padding one two table front rest all fits kept =
    let head = bytes_before (op ∷ padding ++ one ++ two) table all in
    let less = bytes_before (op ∷ padding ++ one) two head in
    let first : AllBytes (op ∷ front) = (all.0, fits) in
    let with_one = joined (op ∷ front) one first (bytes_behind (op ∷ padding) one less) in
    let with_two = joined (op ∷ front ++ one) two with_one (bytes_behind (op ∷ padding ++ one) two head) in
    joined (op ∷ front ++ one ++ two) rest with_two kept

respelled : (insn : Insn) (padding table front rest : List ℕ) → AllBytes (spelled_with padding insn table) → AllBytes front → AllBytes rest → AllBytes (spelled_with front insn rest)
respelled (Plain op) padding table front rest all fits kept = all
respelled (Local op index false) padding table front rest all fits kept = all
respelled (Local op index true) padding table front rest all fits kept = all
respelled (Iinc index by false) padding table front rest all fits kept = all
respelled (Iinc index by true) padding table front rest all fits kept = all
respelled (Push op value) padding table front rest all fits kept = all
respelled (Pooled op index) padding table front rest all fits kept =
    joined (op ∷ spelled_index (operands_of op) index) rest (bytes_before (op ∷ spelled_index (operands_of op) index) table all) kept
respelled (Array kind) padding table front rest all fits kept = all
respelled (Jump op by) padding table front rest all fits kept = all
respelled (TableSwitch other low high at) padding table front rest all fits kept = three_parts 170 padding (s4 high) (s4 other) (s4 low) table front rest all fits kept
respelled (LookupSwitch other pairs at) padding table front rest all fits kept = two_parts 171 padding (s4 other) (u4 pairs) table front rest all fits kept

-- ---- what stands behind the operands

module _ (pool : List PoolEntry) (code : List ℕ) (all : AllBytes code) where
  abbrev kept_table : ℕ → ℕ → Insn → List ℕ
  kept_table pc next insn = canonical_table pool code (record { pc = pc; insn = insn; next = next })

  count_bytes : (pc next op index : ℕ) → (op == 185) ≡ true → AllBytes (kept_table pc next (Pooled op index))
  count_bytes pc next op index call = by_entry (entry_at pool index) refl
    where
      by_desc : (class type : ℕ) (o : Option (List ℕ)) → entry_at pool index ≡ Some (InterfaceMethodRef class type) → desc_at pool type ≡ o → AllBytes (kept_table pc next (Pooled op index))
      by_desc class type None is at = rw (call, is, at) (omega arith, (omega arith, tt))
      by_desc class type (Some desc) is at = rw (call, is, at) (omega arith, (omega arith, tt))

      by_entry : (o : Option PoolEntry) → entry_at pool index ≡ o → AllBytes (kept_table pc next (Pooled op index))
      by_entry None is = rw (call, is) (omega arith, (omega arith, tt))
      by_entry (Some (InterfaceMethodRef class type)) is = by_desc class type (desc_at pool type) is refl
      by_entry (Some Second) is = rw (call, is) (omega arith, (omega arith, tt))
      by_entry (Some (Utf8 text)) is = rw (call, is) (omega arith, (omega arith, tt))
      by_entry (Some (Integer n)) is = rw (call, is) (omega arith, (omega arith, tt))
      by_entry (Some (Float bits)) is = rw (call, is) (omega arith, (omega arith, tt))
      by_entry (Some (Long bits)) is = rw (call, is) (omega arith, (omega arith, tt))
      by_entry (Some (Double bits)) is = rw (call, is) (omega arith, (omega arith, tt))
      by_entry (Some (Class name)) is = rw (call, is) (omega arith, (omega arith, tt))
      by_entry (Some (Text text)) is = rw (call, is) (omega arith, (omega arith, tt))
      by_entry (Some (FieldRef class type)) is = rw (call, is) (omega arith, (omega arith, tt))
      by_entry (Some (MethodRef class type)) is = rw (call, is) (omega arith, (omega arith, tt))
      by_entry (Some (NameAndType name desc)) is = rw (call, is) (omega arith, (omega arith, tt))
      by_entry (Some (MethodHandle kind target)) is = rw (call, is) (omega arith, (omega arith, tt))
      by_entry (Some (MethodType desc)) is = rw (call, is) (omega arith, (omega arith, tt))
      by_entry (Some (InvokeDynamic method type)) is = rw (call, is) (omega arith, (omega arith, tt))

  table_bytes : (pc next : ℕ) (insn : Insn) → AllBytes (kept_table pc next insn)
  table_bytes pc next (Plain op) = tt
  table_bytes pc next (Local op index wide) = tt
  table_bytes pc next (Iinc index by wide) = tt
  table_bytes pc next (Push op value) = tt
  table_bytes pc next (Pooled op index) = by_test (op == 185) refl
    where
      by_test : (b : Bool) → (op == 185) ≡ b → AllBytes (kept_table pc next (Pooled op index))
      by_test true is = count_bytes pc next op index is
      by_test false is = rw is tt
  table_bytes pc next (Array kind) = tt
  table_bytes pc next (Jump op by) = tt
  table_bytes pc next (TableSwitch other low high at) = taken (next - at) (drop at code) (dropped at code all)
  table_bytes pc next (LookupSwitch other pairs at) = taken (next - at) (drop at code) (dropped at code all)

  insn_bytes : (pc next : ℕ) (insn : Insn) → decoded code pc ≡ Ok (insn, next) → AllBytes (spelled pc insn (kept_table pc next insn))
  insn_bytes pc next insn is =
      let (padding, table, few, can, moves, inside, same) = decoded_is_spelled code pc next insn all is in
      respelled insn padding table (replicate (padding_at pc) 0) (kept_table pc next insn) (subst AllBytes same (taken (next - pc) (drop pc code) (dropped pc code all))) (zeros (padding_at pc)) (table_bytes pc next insn)

  insns_bytes : {pc : ℕ} {insns : List Placed} → AreInsnsFrom pool code pc insns → AllBytes (canonical_code pool code insns)
  insns_bytes (ends pc end) = tt
  insns_bytes (goes_on pc next insn more is sound others) = joined (spelled pc insn (kept_table pc next insn)) (canonical_code pool code more) (insn_bytes pc next insn is) (insns_bytes others)

pub canonical_bytes : (pool : List PoolEntry) (code : List ℕ) → AllBytes code → (insns : List Placed) → AreInsnsFrom pool code 0 insns → AllBytes (canonical_code pool code insns)
canonical_bytes pool code all insns are = insns_bytes pool code all are

-- The code that is kept has the instructions that it had, at the same places, and is kept as it is.
use Rattle.std.proofs.Common.{◌≡◌, ◌⊎◌, ℕ, zero, suc, ◌+◌, ◌-◌, ◌*◌, ◌≤◌, List, [], ◌∷◌, ◌++◌, length, take, drop, replicate, Ok, inl, inr, refl, sym, ap, subst, ◌∙◌, arith, append_assoc, length-append}
use Rattle.std.specs.Prelude.{ℤ, pos, ◌+ℤ◌}
use Rattle.std.specs.List.{AllByRecursion}
use Rattle.std.proofs.lemmas.List.{drop-drop, drop_at, take_at, append-nil, take-append-drop, drop-append-le, length-drop, length-replicate}
use Rattle.byteorder.specs.Endian.{big_number, big_bytes}
use Rattle.byteorder.specs.Numbers.{big_from-append}
use Rattle.jo_insn.specs.declared.instructions.Insn.{Insn}
use Rattle.jo_insn.specs.declared.instructions.Insn.TheVariants.{Plain, Local, Iinc, Push, Pooled, Array, Jump, TableSwitch, LookupSwitch}
use Rattle.jo_insn.specs.Instructions.{decoded, IsInsn, spelled, padding_at, offsets_between, s4}
use Rattle.jo_insn.proofs.Numbers.{AreBytes}
use Rattle.jo_insn.proofs.SpelledIsDecoded.{spelled_is_decoded}
use Rattle.class_pool.specs.declared.entries.PoolEntry.{PoolEntry}
use Rattle.class_pool.specs.declared.classes.RowInfo.{RowInfo}
use Rattle.jo_insn.specs.declared.jumps.Placed.{Placed}
use Rattle.jo_insn.specs.Jumps.{jumps_of, offsets_of}
use Rattle.class_pool.specs.Code.{canonical_table, canonical_code}
use Rattle.class_pool.specs.ClassGrammar.{AreInsnsFrom, ends, goes_on, IsStart, JumpsWell, IsRow}
use Rattle.class_pool.proofs.KeptSizes.{table_of, ends_at, head_length, pairs_head_length}
use Rattle.class_pool.proofs.KeptInsns.{kept_insn}

-- ---- the offsets of a switch are in its table

offset_same : (k : ℕ) (table rest : List ℕ) → k + 4 ≤ length table → big_number 4 (drop k (table ++ rest)) ≡ big_number 4 (drop k table)
offset_same k table rest room =
    let left = length-drop k table in
    ap (big_number 4) (drop-append-le k table rest (omega arith)) ∙ big_from-append 4 (drop k table) rest (omega arith)

next_offset : (step k : ℕ) (table rest : List ℕ) → step ≤ length table → drop step (drop k (table ++ rest)) ≡ drop k (drop step table ++ rest)
next_offset step k table rest room =
    let turned : k + step ≡ step + k = omega arith in
    drop-drop step k (table ++ rest) ∙ ap (λ (n : ℕ). drop n (table ++ rest)) turned ∙ sym (drop-drop k step (table ++ rest)) ∙ ap (drop k) (drop-append-le step table rest room)

offsets_same : (n step k : ℕ) (table rest other : List ℕ) → k + 4 ≤ step → length table ≡ step * n → offsets_of n step (drop k (table ++ rest)) ≡ offsets_of n step (drop k (table ++ other))
offsets_same zero step k table rest other room long = refl
offsets_same (suc n) step k table rest other room long =
    let enough : step ≤ length table = omega arith in
    let left = length-drop step table in
    let behind : length (drop step table) ≡ step * n = omega arith in
    let first : big_number 4 (drop k (table ++ rest)) ≡ big_number 4 (drop k (table ++ other)) = offset_same k table rest (omega arith) ∙ sym (offset_same k table other (omega arith)) in
    let later : offsets_of n step (drop step (drop k (table ++ rest))) ≡ offsets_of n step (drop step (drop k (table ++ other))) =
    ap (offsets_of n step) (next_offset step k table rest enough) ∙ offsets_same n step k (drop step table) rest other room behind ∙ sym (ap (offsets_of n step) (next_offset step k table other enough)) in
    rw (first, later) refl

-- ---- one instruction

table_behind : (front head table rest whole : List ℕ) (at : ℕ) → whole ≡ front ++ (head ++ table) ++ rest → length front + length head ≡ at → drop at whole ≡ table ++ rest
table_behind front head table rest whole at same long =
    let parts : front ++ (head ++ table) ++ rest ≡ (front ++ head) ++ (table ++ rest) = simp append_assoc in
    ap (drop at) (same ∙ parts) ∙ drop_at (front ++ head) (table ++ rest) at (length-append front head ∙ long)

decoded_again : (front rest table whole : List ℕ) (pc next : ℕ) (insn : Insn) → length front ≡ pc → pc + length (spelled pc insn table) ≡ next → IsInsn pc insn table → whole ≡ front ++ spelled pc insn table ++ rest → decoded whole pc ≡ Ok (insn, next)
decoded_again front rest table whole pc next insn at_pc at_next can same =
    let P : ℕ → Type 0 = λ p. IsInsn p insn table → decoded (front ++ spelled p insn table ++ rest) p ≡ Ok (insn, p + length (spelled p insn table)) in
    let here : P (length front) = spelled_is_decoded front rest table insn in
    let there : P pc = subst P at_pc here in
    ap (λ (code : List ℕ). decoded code pc) same ∙ there can ∙ ap (λ (n : ℕ). Ok (insn, n)) at_next

module _ (pool : List PoolEntry) (code : List ℕ) (bytes : AreBytes code) where
  -- what depends on the code is the same
  abbrev pub IsSame : List ℕ → Placed → Type 0
  IsSame whole placed = (canonical_table pool whole placed ≡ canonical_table pool code placed) × (jumps_of whole placed.insn ≡ jumps_of code placed.insn)

  module _ (front rest whole : List ℕ) (pc next : ℕ) (at_pc : length front ≡ pc) where
    switch_same : (head table : List ℕ) (n step k at : ℕ) → table ≡ take (next - at) (drop at code) → whole ≡ front ++ (head ++ table) ++ rest → pc + length head ≡ at → pc + length (head ++ table) ≡ next → k + 4 ≤ step → length table ≡ step * n
        → (take (next - at) (drop at whole) ≡ table) × (offsets_of n step (drop k (drop at whole)) ≡ offsets_of n step (drop k (drop at code)))
    switch_same head table n step k at is same at_table at_next room long =
        let behind = table_behind front head table rest whole at same (omega arith) in
        let parts = length-append head table in
        let size : length table ≡ next - at = omega arith in
        let before : drop at code ≡ table ++ drop (next - at) (drop at code) = sym (take-append-drop (next - at) (drop at code)) ∙ ap (λ (t : List ℕ). t ++ drop (next - at) (drop at code)) (sym is) in (
          ap (take (next - at)) behind ∙ take_at table rest (next - at) size,
          ap (λ (xs : List ℕ). offsets_of n step (drop k xs)) behind ∙ offsets_same n step k table rest (drop (next - at) (drop at code)) room long ∙ sym (ap (λ (xs : List ℕ). offsets_of n step (drop k xs)) before),
        )

    same_insn : (insn : Insn) → decoded code pc ≡ Ok (insn, next) → whole ≡ front ++ spelled pc insn (table_of pool code pc insn next) ++ rest → IsSame whole (record { pc = pc; insn = insn; next = next })
    same_insn (Plain op) is same = (refl, refl)
    same_insn (Local op index wide) is same = (refl, refl)
    same_insn (Iinc index by wide) is same = (refl, refl)
    same_insn (Push op value) is same = (refl, refl)
    same_insn (Pooled op index) is same = (refl, refl)
    same_insn (Array kind) is same = (refl, refl)
    same_insn (Jump op by) is same = (refl, refl)
    same_insn (TableSwitch other low high at) is same =
        let can = kept_insn pool code bytes pc next (TableSwitch other low high at) is in
        let padding : List ℕ = replicate (padding_at pc) 0 in
        let head : List ℕ = 170 ∷ padding ++ s4 other ++ s4 low ++ s4 high in
        let long = head_length padding (s4 other) (s4 low) (s4 high) in
        let padded : length padding ≡ padding_at pc = length-replicate (padding_at pc) 0 in
        let place : at ≡ pc + 1 + padding_at pc + 12 = can.4 in
        let both = switch_same head (take (next - at) (drop at code)) (offsets_between low high) 4 0 at refl same (omega arith) (ends_at pool code pc next (TableSwitch other low high at) is) (omega arith) can.5 in
        (both.0, ap (λ (more : List ℤ). other ∷ more) both.1)
    same_insn (LookupSwitch other pairs at) is same =
        let can = kept_insn pool code bytes pc next (LookupSwitch other pairs at) is in
        let padding : List ℕ = replicate (padding_at pc) 0 in
        let head : List ℕ = 171 ∷ padding ++ s4 other ++ big_bytes 4 pairs in
        let long = pairs_head_length padding (s4 other) (big_bytes 4 pairs) in
        let padded : length padding ≡ padding_at pc = length-replicate (padding_at pc) 0 in
        let place : at ≡ pc + 1 + padding_at pc + 8 = can.2 in
        let both = switch_same head (take (next - at) (drop at code)) pairs 8 4 at refl same (omega arith) (ends_at pool code pc next (LookupSwitch other pairs at) is) (omega arith) can.3 in
        let jumps : offsets_of pairs 8 (drop (at + 4) whole) ≡ offsets_of pairs 8 (drop (at + 4) code) =
        ap (offsets_of pairs 8) (sym (drop-drop 4 at whole)) ∙ both.1 ∙ ap (offsets_of pairs 8) (drop-drop 4 at code) in
        (both.0, ap (λ (more : List ℤ). other ∷ more) jumps)

  -- ---- all of them

  -- the code that is kept, as far as it is spelled, and what follows
  module _ (whole : List ℕ) where
    step_on : (front : List ℕ) (pc next : ℕ) (insn : Insn) (more : List Placed) → length front ≡ pc → decoded code pc ≡ Ok (insn, next)
        → whole ≡ front ++ canonical_code pool code (record { pc = pc; insn = insn; next = next } ∷ more)
        → (whole ≡ front ++ spelled pc insn (table_of pool code pc insn next) ++ canonical_code pool code more) × (length (front ++ spelled pc insn (table_of pool code pc insn next)) ≡ next)
    step_on front pc next insn more at_pc is same =
        let text : List ℕ = spelled pc insn (table_of pool code pc insn next) in
        (same ∙ sym (append_assoc front text (canonical_code pool code more)), length-append front text ∙ ap (λ (n : ℕ). n + length text) at_pc ∙ ends_at pool code pc next insn is)

    pub again : (front : List ℕ) {pc : ℕ} {insns : List Placed} → AreInsnsFrom pool code pc insns → length front ≡ pc → whole ≡ front ++ canonical_code pool code insns → AreInsnsFrom pool whole pc insns
    again front (ends pc end) at_pc same = ends pc (sym at_pc ∙ ap length (sym (same ∙ append-nil front)))
    again front (goes_on pc next insn more is sound others) at_pc same =
        let table : List ℕ = table_of pool code pc insn next in
        let on = step_on front pc next insn more at_pc is same in
        goes_on pc next insn more
        (decoded_again front (canonical_code pool code more) table whole pc next insn at_pc (ends_at pool code pc next insn is) (kept_insn pool code bytes pc next insn is) on.0) sound
        (again (front ++ spelled pc insn table) others on.1 on.0)

    pub all_same : (front : List ℕ) {pc : ℕ} {insns : List Placed} → AreInsnsFrom pool code pc insns → length front ≡ pc → whole ≡ front ++ canonical_code pool code insns → AllByRecursion (IsSame whole) insns
    all_same front (ends pc end) at_pc same = tt
    all_same front (goes_on pc next insn more is sound others) at_pc same =
        let on = step_on front pc next insn more at_pc is same in
        (same_insn front (canonical_code pool code more) whole pc next at_pc insn is on.0, all_same (front ++ spelled pc insn (table_of pool code pc insn next)) others on.1 on.0)

    pub code_same : (insns : List Placed) → AllByRecursion (IsSame whole) insns → canonical_code pool whole insns ≡ canonical_code pool code insns
    code_same [] all = refl
    code_same (placed ∷ more) all = rw (all.0.0, code_same more all.1) refl

    pub jumps_again : (insns these : List Placed) → AllByRecursion (IsSame whole) these → AllByRecursion (JumpsWell code insns) these → AllByRecursion (JumpsWell whole insns) these
    jumps_again insns [] all jumps = tt
    jumps_again insns (placed ∷ more) all jumps =
        let P : List ℤ → Type 0 = λ distances. AllByRecursion (λ (by : ℤ). IsStart insns (pos placed.pc +ℤ by)) distances in
        (subst P (sym all.0.1) jumps.0, jumps_again insns more all.1 jumps.1)

    pub rows_again : (insns : List Placed) (rows : List RowInfo) → length code ≡ length whole → AllByRecursion (IsRow pool code insns) rows → AllByRecursion (IsRow pool whole insns) rows
    rows_again insns [] same all = tt
    rows_again insns (row ∷ rows) same all =
        let h = all.0 in
        let end : (row.end ≡ length whole) ⊎ IsStart insns (pos row.end) = elim h.end [ inl last ↦ inl (last ∙ same) | inr start ↦ inr start ] in
        (record { forward = h.forward; start = h.start; handler = h.handler; end = end; catches = h.catches }, rows_again insns rows same all.1)

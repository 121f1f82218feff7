-- Code: reading it stops with exactly the faults of the relations by items.
use Rattle.std.proofs.Common.{◌≡◌, ◌↔◌, ℕ, zero, suc, ◌+◌, ◌-◌, ◌*◌, ◌^◌, ◌<◌, ◌≤◌, nat_le, Bool, true, ◌&&◌, ◌||◌, nat_lt, ◌==◌, List, [], ◌∷◌, ◌++◌, length, Option, Some, None, Result, Ok, Err, refl, sym, ap, subst, ◌∙◌, inl, inr, arith}
use Rattle.std.specs.Prelude.{pos, ◌+ℤ◌}
use Rattle.std.specs.Bool.{Decides}
use Rattle.std.specs.List.{AllByRecursion}
use Rattle.std.proofs.lemmas.Bool.{cases_Bool, leb-true, leb-false, le-leb, lt-leb, false_from_ne_true}
use Rattle.std.proofs.lemmas.Bool.Decides.{Decides-and, Decides-or, Decides-eqb, Decides-ltb, Decides-like, not_from_Decides}
use Rattle.jo_insn.specs.declared.instructions.Insn.{Insn}
use Rattle.jo_insn.specs.declared.instructions.InsnFault.{InsnFault}
use Rattle.jo_insn.specs.declared.jumps.Placed.{Placed}
use Rattle.jo_insn.specs.Instructions.{decoded}
use Rattle.jo_insn.specs.Jumps.{is_start, jumps_of}
use Rattle.jo_insn.proofs.DecodedMoves.{decoded-moves}
use Rattle.jo_insn.proofs.Numbers.{AreBytes}
use Rattle.class_pool.specs.declared.entries.PoolEntry.{PoolEntry}
use Rattle.class_pool.specs.declared.classes.CodeInfo.{CodeInfo}
use Rattle.class_pool.specs.declared.classes.RowInfo.{RowInfo}
use Rattle.class_pool.specs.declared.faults.ClassCode.{ClassCode}
use Rattle.class_pool.specs.declared.faults.ClassCode.TheVariants.{PoolIndex, CodeBounds}
use Rattle.class_pool.specs.declared.faults.ClassFault.{ClassFault}
use Rattle.class_pool.specs.Items.{◌>>=◌, place_of, fault, passing, number, bytes_of, many}
use Rattle.class_pool.specs.Pool.{first_failing}
use Rattle.class_pool.specs.Code.{insn_fault, code_for, insns_from, insns_of, jumps_well, first_bad_jump, row_questions, row_fault, has_dims_that, dims_at}
use Rattle.class_pool.specs.ClassOrder.{Spelled, read_row, skip_attributes, read_spelled, code_checked, read_code}
use Rattle.class_pool.specs.ClassGrammar.{SpellsRow, IsStart, JumpsWell, IsRow, SpellsCode}
use Rattle.class_pool.specs.FirstFaultItems.{IsCut}
use Rattle.class_pool.specs.FirstFaultParts.{LeadsTo, here, onward, InsnFails, no_insn, names_wrong, IsInCode, RowStops, ChecksStop, an_insn, a_jump, a_row, CodeStops}
use Rattle.class_pool.proofs.GrammarNumbers.{by_answer, SpellsTwo}
use Rattle.class_pool.proofs.GrammarParts.{dims_decided}
use Rattle.class_pool.proofs.GrammarInsns.{insns_of_grammar}
use Rattle.class_pool.proofs.GrammarJumps.{is_start_decides, all_decides, no_bad_jump, no_bad_row}
use Rattle.class_pool.proofs.GrammarCode.{row_read, row_again, code_read, code_again}
use Rattle.class_pool.proofs.FirstFaultSteps.{StopsBy, Reads, never, reads_as, then_ok, part, check, asked, ask, by_question, number_reads, bytes_reads, two_reads, cut_join, many_reads, err_same}
use Rattle.class_pool.proofs.FirstFaultFields.{attributes_stop}

-- ---- instructions

by_decoded : {P : Type 0} (found : Result (Insn × ℕ) InsnFault) → ((e : InsnFault) → found ≡ Err e → P) → ((insn : Insn) (next : ℕ) → found ≡ Ok (insn, next) → P) → P
by_decoded (Err e) failed read = failed e refl
by_decoded (Ok (insn, next)) failed read = read insn next refl

by_insns : {P : Type 0} (found : Result (List Placed) (ClassCode × ℕ)) → ((wrong : ClassCode) (at : ℕ) → found ≡ Err (wrong, at) → P) → ((insns : List Placed) → found ≡ Ok insns → P) → P
by_insns (Err (wrong, at)) failed read = failed wrong at refl
by_insns (Ok insns) failed read = read insns refl

same_wrong : {code other : ClassCode} {pc at : ℕ} → ◌≡◌ {A = Result (List Placed) (ClassCode × ℕ)} (Err (code, pc)) (Err (other, at)) → (code ≡ other) × (pc ≡ at)
same_wrong {code} {other} {pc} {at} is = let same : ◌≡◌ {A = ClassCode × ℕ} (code, pc) (other, at) = cc in (ap (λ (w : ClassCode × ℕ). w.0) same, ap (λ (w : ClassCode × ℕ). w.1) same)

module _ (pool : List PoolEntry) (code : List ℕ) where
  -- from this pc on instructions lead to one that fails
  record Fails (pc at : ℕ) (wrong : ClassCode) : Type 0 where
    leads : LeadsTo pool code pc at
    inside : at < length code
    fails : InsnFails pool code at wrong

  fails_here : (pc at : ℕ) (found wrong : ClassCode) → pc < length code → InsnFails pool code pc found → (found ≡ wrong) × (pc ≡ at) → Fails pc at wrong
  fails_here pc at found wrong inside failed (same, there) =
      let this : Fails pc pc wrong = record { leads = here pc; inside = inside; fails = subst (InsnFails pool code pc) same failed } in
      subst (λ (n : ℕ). Fails pc n wrong) there this

  insns_found : (k pc at : ℕ) (wrong : ClassCode) → length code ≤ k + pc → insns_from k pool code pc ≡ Err (wrong, at) → Fails pc at wrong
  unfolding insns_from
  insns_found zero pc at wrong enough is = absurd (cc)
  insns_found (suc k) pc at wrong enough is = elim (cases_Bool (nat_le (length code) pc)) [
    | inl past ↦ let none : ◌≡◌ {A = Result (List Placed) (ClassCode × ℕ)} (Ok []) (Err (wrong, at)) = rw past at is in absurd (cc)
    | inr inside ↦ let there : pc < length code = leb-false (length code) pc inside in by_decoded (decoded code pc)
        (λ e failed. fails_here pc at (code_for e) wrong there (no_insn e failed) (same_wrong (rw (inside, failed) at is)))
        (λ insn next read. by_question (insn_fault pool insn)
        (λ sound. by_insns (insns_from k pool code next)
        (λ other place failed.
        let same = same_wrong (rw (inside, read, sound, failed) at is) in
        let moves = decoded-moves code pc next insn read in
        let later = insns_found k next at wrong (omega arith) (failed ∙ ap (λ (w : ClassCode × ℕ). Err w) (pair_same other wrong place at same)) in
        record { leads = onward pc next at insn read sound later.leads; inside = later.inside; fails = later.fails })
        (λ insns all. let none : ◌≡◌ {A = Result (List Placed) (ClassCode × ℕ)} (Ok (record { pc = pc; insn = insn; next = next } ∷ insns)) (Err (wrong, at)) = rw (inside, read, sound, all) at is in absurd (cc)))
        (λ found unsound. fails_here pc at found wrong there (names_wrong insn next found read unsound) (same_wrong (rw (inside, read, unsound) at is))))
  ]
    where
      pair_same : (other wrong : ClassCode) (place at : ℕ) → (other ≡ wrong) × (place ≡ at) → ◌≡◌ {A = ClassCode × ℕ} (other, place) (wrong, at)
      pair_same other wrong place at (same, there) = cc

  insns_stop : {pc at : ℕ} {wrong : ClassCode} (k : ℕ) → length code ≤ k + pc → LeadsTo pool code pc at → at < length code → InsnFails pool code at wrong → insns_from k pool code pc ≡ Err (wrong, at)
  unfolding insns_from
  insns_stop zero enough (here pc) inside failed = absurd (omega arith)
  insns_stop (suc k) enough (here pc) inside (no_insn e is) = rw (lt-leb (length code) pc inside, is) refl
  insns_stop (suc k) enough (here pc) inside (names_wrong insn next found is wrong) = rw (lt-leb (length code) pc inside, is, wrong) refl
  insns_stop zero enough (onward pc next at insn is sound leads) inside failed = let moves = decoded-moves code pc next insn is in absurd (omega arith)
  insns_stop (suc k) enough (onward pc next at insn is sound leads) inside failed =
      let moves = decoded-moves code pc next insn is in
      rw (lt-leb (length code) pc (omega arith), is, sound, insns_stop k (omega arith) leads inside failed) refl

  -- ---- jumps

  jumps_decide : (insns : List Placed) (placed : Placed) → Decides (jumps_well code insns placed) (JumpsWell code insns placed)
  jumps_decide insns placed = all_decides (λ by. is_start insns (pos placed.pc +ℤ by)) (λ by. IsStart insns (pos placed.pc +ℤ by)) (λ by. is_start_decides insns (pos placed.pc +ℤ by)) (jumps_of code placed.insn)

  record BadJump (insns these : List Placed) (pc : ℕ) : Type 0 where
    before : List Placed
    more : List Placed
    placed : Placed
    among : these ≡ before ++ placed ∷ more
    well : AllByRecursion (JumpsWell code insns) before
    ill : JumpsWell code insns placed → ⊥
    is : pc ≡ placed.pc

  jump_found : (insns these : List Placed) (pc : ℕ) → first_bad_jump code insns these ≡ Some pc → BadJump insns these pc
  jump_found insns [] pc is = absurd (cc)
  jump_found insns (placed ∷ more) pc is = elim (cases_Bool (jumps_well code insns placed)) [
    | inl well ↦
        let later = jump_found insns more pc (rw well at is) in
        record { before = placed ∷ later.before; more = later.more; placed = later.placed; among = ap (λ (ps : List Placed). placed ∷ ps) later.among; well = ((jumps_decide insns placed).0 well, later.well); ill = later.ill; is = later.is }
    | inr ill ↦
        let this : Some placed.pc ≡ Some pc = rw ill at is in
        record { before = []; more = more; placed = placed; among = refl; well = tt; ill = not_from_Decides _ (jumps_decide insns placed) ill; is = cc }
  ]

  jump_stops : (insns before more : List Placed) (placed : Placed) → AllByRecursion (JumpsWell code insns) before → (JumpsWell code insns placed → ⊥) → first_bad_jump code insns (before ++ placed ∷ more) ≡ Some placed.pc
  jump_stops insns [] more placed all ill = rw (false_from_ne_true _ (λ well. ill ((jumps_decide insns placed).0 well))) refl
  jump_stops insns (first ∷ before) more placed (well, all) ill = rw ((jumps_decide insns first).1 well) (jump_stops insns before more placed all ill)

  -- ---- rows

  module _ (insns : List Placed) where
    abbrev questions_of : RowInfo → List (Bool × ClassCode)
    questions_of row = row_questions pool (length code) insns row

    in_code_decided : (row : RowInfo) → Decides (nat_lt row.start row.end && (is_start insns (pos row.start) && (is_start insns (pos row.handler) && (row.end == length code || is_start insns (pos row.end))))) (IsInCode code insns row)
    in_code_decided row =
        let ends = Decides-or _ _ (Decides-eqb row.end (length code)) (is_start_decides insns (pos row.end)) in
        let handled = Decides-and _ _ (is_start_decides insns (pos row.handler)) ends in
        let starts = Decides-and _ _ (is_start_decides insns (pos row.start)) handled in
        let whole = Decides-and _ _ (Decides-ltb row.start row.end) starts in (
          λ is. let h = whole.0 is in record { forward = h.0; start = h.1.0; handler = h.1.1.0; end = h.1.1.1 },
          λ h. whole.1 (h.forward, (h.start, (h.handler, h.end))),
        )

    abbrev catches : RowInfo → Bool
    catches row = row.catch_type == 0 || has_dims_that (λ _. true) (dims_at pool row.catch_type)

    row_stops : (row : RowInfo) (place : ℕ) → StopsBy (asked (first_failing (questions_of row)) place) (RowStops pool code insns row place)
    row_stops row place =
        ask _ CodeBounds place ((catches row, PoolIndex) ∷ []) (in_code_decided row) (λ _.
        ask (catches row) PoolIndex place [] (Decides-or _ _ (Decides-eqb row.catch_type 0) (dims_decided pool (λ _. (λ _. tt, λ _. refl)) row.catch_type)) (λ _. never))

    row_passes : (row : RowInfo) → (first_failing (questions_of row) ≡ None) ↔ IsRow pool code insns row
    row_passes row = let alone = no_bad_row pool code insns 0 (row ∷ []) in (
      λ passed. (alone.0 (rw passed refl)).0,
      λ holds. by_question (first_failing (questions_of row)) (λ passed. passed) (λ wrong failed. let none = alone.1 (holds, tt) in let some : Some (wrong, 0) ≡ None = rw failed at none in absurd (cc)),
    )

    -- a row that fails, behind those that pass
    record BadRow (k : ℕ) (rows : List RowInfo) (wrong : ClassCode) (at : ℕ) : Type 0 where
      before : List RowInfo
      more : List RowInfo
      row : RowInfo
      among : rows ≡ before ++ row ∷ more
      all : AllByRecursion (IsRow pool code insns) before
      failed : first_failing (questions_of row) ≡ Some wrong
      is : at ≡ k + length before

    row_found : (k : ℕ) (rows : List RowInfo) (wrong : ClassCode) (at : ℕ) → row_fault pool (length code) insns k rows ≡ Some (wrong, at) → BadRow k rows wrong at
    row_found k [] wrong at is = absurd (cc)
    row_found k (row ∷ more) wrong at is = by_question (first_failing (questions_of row))
        (λ passed.
        let later = row_found (suc k) more wrong at (rw passed at is) in
        record { before = row ∷ later.before; more = later.more; row = later.row; among = ap (λ (rs : List RowInfo). row ∷ rs) later.among; all = ((row_passes row).0 passed, later.all); failed = later.failed; is = omega (arith, later.is) })
        (λ found failed.
        let this : ◌≡◌ {A = Option (ClassCode × ℕ)} (Some (found, k)) (Some (wrong, at)) = rw failed at is in
        let same : ◌≡◌ {A = ClassCode × ℕ} (found, k) (wrong, at) = cc in
        let here_is : k ≡ at = ap (λ (w : ClassCode × ℕ). w.1) same in
        record { before = []; more = more; row = row; among = refl; all = tt; failed = failed ∙ ap (λ (w : ClassCode × ℕ). Some w.0) same; is = omega (arith, here_is) })

    rows_again : (k : ℕ) (before more : List RowInfo) (row : RowInfo) (wrong : ClassCode) → AllByRecursion (IsRow pool code insns) before → first_failing (questions_of row) ≡ Some wrong
        → row_fault pool (length code) insns k (before ++ row ∷ more) ≡ Some (wrong, k + length before)
    rows_again k [] more row wrong all failed = rw failed (ap (λ (n : ℕ). Some (wrong, n)) (let same : k ≡ k + 0 = omega arith in same))
    rows_again k (first ∷ before) more row wrong (passes_row, all) failed =
        rw ((row_passes first).1 passes_row) (rows_again (suc k) before more row wrong all failed ∙ ap (λ (n : ℕ). Some (wrong, n)) (let same : suc k + length before ≡ k + suc (length before) = omega arith in same))

-- ---- what the code and the rows are checked for

by_jump : {P : Type 0} (o : Option ℕ) → (o ≡ None → P) → ((pc : ℕ) → o ≡ Some pc → P) → P
by_jump None none some = none refl
by_jump (Some pc) none some = some pc refl

by_row : {P : Type 0} (o : Option (ClassCode × ℕ)) → (o ≡ None → P) → ((wrong : ClassCode) (at : ℕ) → o ≡ Some (wrong, at) → P) → P
by_row None none some = none refl
by_row (Some (wrong, at)) none some = some wrong at refl

module _ (pool : List PoolEntry) (s : Spelled) where
  abbrev Stop : ClassFault → Type 0
  Stop f = ChecksStop pool s.code s.code_place s.rows s.rows_place f

  abbrev checks : Result (List ℕ) ClassFault
  checks = code_checked pool s (insns_of pool s.code)

  checks_found : (f : ClassFault) → checks ≡ Err f → Stop f
  checks_found f is = by_insns (insns_of pool s.code)
      (λ wrong pc failed.
      let found = insns_found pool s.code (length s.code) 0 pc wrong (omega arith) failed in
      an_insn pc wrong found.leads found.inside found.fails (sym (err_same (rw failed at is))))
      (λ insns read.
      let instructions = (insns_of_grammar pool s.code insns).0 read in
      by_jump (first_bad_jump s.code insns insns)
      (λ well.
      by_row (row_fault pool (length s.code) insns 0 s.rows)
      (λ fit. let none : ◌≡◌ {A = Result (List ℕ) ClassFault} (Ok _) (Err f) = rw (read, well, fit) at is in absurd (cc))
      (λ wrong at failed.
      let bad = row_found pool s.code insns 0 s.rows wrong at failed in
      let place : ℕ = s.rows_place + 8 * length bad.before in
      let there : at ≡ length bad.before = omega (arith, bad.is) in
      let this : f ≡ fault wrong place = sym (err_same (rw (read, well, failed) at is)) ∙ ap (λ (n : ℕ). fault wrong (s.rows_place + 8 * n)) there in
      a_row insns bad.before bad.more bad.row instructions ((no_bad_jump s.code insns insns).0 well) bad.among bad.all ((row_stops pool s.code insns bad.row place).found f (rw bad.failed (ap Err (sym this))))))
      (λ pc failed.
      let bad = jump_found pool s.code insns insns pc failed in
      a_jump insns bad.before bad.more bad.placed instructions bad.among bad.well bad.ill (sym (err_same (rw (read, failed) at is)) ∙ ap (λ (n : ℕ). fault CodeBounds (s.code_place + n)) bad.is)))

  checks_again : (f : ClassFault) → Stop f → checks ≡ Err f
  checks_again f (an_insn pc wrong leads inside failed is) = rw (insns_stop pool s.code (length s.code) (omega arith) leads inside failed) (ap Err (sym is))
  checks_again f (a_jump insns before more placed instructions among well ill is) =
      let bad : first_bad_jump s.code insns insns ≡ Some placed.pc = ap (first_bad_jump s.code insns) among ∙ jump_stops pool s.code insns before more placed well ill in
      rw ((insns_of_grammar pool s.code insns).1 instructions, bad) (ap Err (sym is))
  checks_again f (a_row insns before more row instructions well among all next) =
      let place : ℕ = s.rows_place + 8 * length before in
      let failed = (row_stops pool s.code insns row place).again f next in
      by_question (first_failing (row_questions pool (length s.code) insns row))
      (λ passed. let wrong : ◌≡◌ {A = Result (Unit {0}) ClassFault} (Ok tt) (Err f) = rw passed at failed in absurd (cc))
      (λ wrong is.
      let this : f ≡ fault wrong place = sym (err_same (rw is at failed)) in
      let zero_more : 0 + length before ≡ length before = omega arith in
      let bad : row_fault pool (length s.code) insns 0 s.rows ≡ Some (wrong, length before) = ap (row_fault pool (length s.code) insns 0) among ∙ rows_again pool s.code insns 0 before more row wrong all is ∙ ap (λ (n : ℕ). Some (wrong, n)) zero_more in
      rw ((insns_of_grammar pool s.code insns).1 instructions, (no_bad_jump s.code insns insns).1 well, bad) (ap Err (sym this)))

  checks_stop : StopsBy checks (ChecksStop pool s.code s.code_place s.rows s.rows_place)
  checks_stop = record { found = checks_found; again = checks_again }

-- ---- the attribute

pub row_reads : (size : ℕ) → Reads (read_row size) SpellsRow (IsCut size 8)
row_reads size = record {
  spelled = row_read size;
  spells = row_again size;
  stopped = λ rest bytes. cut_join size 4 4 (two_reads size) two_long rest bytes _ (λ bounds left b. then_ok _ _ ((two_reads size).stopped left b));
}
  where
    two_long : (p : ℕ × ℕ) (text : List ℕ) → SpellsTwo p text → length text ≡ 4
    two_long p text h = ap length h.0

abbrev is_short : ℕ → Bool
is_short n = nat_le 1 n && nat_le n 65535

short_decided : (n : ℕ) → Decides (is_short n) ((0 < n) × (n < 2 ^ 16))
short_decided n =
    Decides-like (is_short n) (λ (h : (1 ≤ n) × (n ≤ 65535)). (omega (arith, h.0), omega (arith, h.1))) (λ (h : (0 < n) × (n < 2 ^ 16)). (omega (arith, h.0), omega (arith, h.1)))
    (Decides-and (nat_le 1 n) (nat_le n 65535) (leb-true 1 n, le-leb 1 n) (leb-true n 65535, le-leb n 65535))

module _ (size : ℕ) (pool : List PoolEntry) (place count : ℕ) where
  abbrev checked : Spelled → List ℕ → Result (CodeInfo × List ℕ) ClassFault
  checked s left = code_checked pool s (insns_of pool s.code) >>= λ kept. Ok (record { max_stack = s.max_stack; max_locals = s.max_locals; bytes = kept; rows = s.rows }, left)

  -- the attribute, its steps in a row
  abbrev in_a_row : List ℕ → Result (CodeInfo × List ℕ) ClassFault
  in_a_row rest =
      number size 2 rest >>= λ stack. number size 2 stack.1 >>= λ locals. number size 4 locals.1 >>= λ n.
      passing (is_short n.0) CodeBounds (place_of size locals.1) (
      bytes_of size n.0 n.1 >>= λ code. number size 2 code.1 >>= λ k. many (read_row size) k.0 k.1 >>= λ rows. skip_attributes size pool rows.1 >>= λ left.
      passing (length rest - length left == count) CodeBounds place
      (checked (record { max_stack = stack.0; max_locals = locals.0; code_place = place_of size n.1; code = code.0; rows_place = place_of size k.1; rows = rows.0 }) left))

  code_in_a_row : (rest : List ℕ) → read_code size pool place count rest ≡ in_a_row rest
  unfolding read_code read_spelled
  code_in_a_row rest =
      by_answer (number size 2 rest) (λ f failed. rw failed refl) (λ stack is1. rw is1 (
      by_answer (number size 2 stack.1) (λ f failed. rw failed refl) (λ locals is2. rw is2 (
      by_answer (number size 4 locals.1) (λ f failed. rw failed refl) (λ n is3. rw is3 (
      elim (cases_Bool (is_short n.0)) [
        | inr long ↦ rw long refl
        | inl short ↦ rw short (
            by_answer (bytes_of size n.0 n.1) (λ f failed. rw failed refl) (λ code is4. rw is4 (
            by_answer (number size 2 code.1) (λ f failed. rw failed refl) (λ k is5. rw is5 (
            by_answer (many (read_row size) k.0 k.1) (λ f failed. rw failed refl) (λ rows is6. rw is6 (
            by_answer (skip_attributes size pool rows.1) (λ f failed. rw failed refl) (λ left is7. rw is7 (
            elim (cases_Bool (length rest - length left == count)) [
              | inr wrong ↦ rw wrong refl
              | inl right ↦ rw right refl
            ])))))))))
      ]))))))

  code_stops : (rest : List ℕ) → AreBytes rest → StopsBy (read_code size pool place count rest) (CodeStops size pool place count rest)
  code_stops rest bytes = reads_as (code_in_a_row rest) (
      part (number_reads size 2) rest bytes _ (λ max_stack at_locals t1.
      part (number_reads size 2) at_locals t1.bytes _ (λ max_locals at_length t2.
      part (number_reads size 4) at_length t2.bytes _ (λ n at_code t3.
      check CodeBounds (place_of size at_length) (is_short n) (short_decided n) (λ _.
      part (bytes_reads size n) at_code t3.bytes _ (λ code at_count t4.
      part (number_reads size 2) at_count t4.bytes _ (λ k at_rows t5.
      part (many_reads (row_reads size) k) at_rows t5.bytes _ (λ rows at_attributes t6.
      attributes_stop size pool at_attributes t6.bytes _ (λ left b.
      check CodeBounds place (length rest - length left == count) (Decides-eqb (length rest - length left) count) (λ _.
      then_ok _ _ (checks_stop pool (record { max_stack = max_stack; max_locals = max_locals; code_place = place_of size at_code; code = code; rows_place = place_of size at_rows; rows = rows }))))))))))))

pub code_reads : (size : ℕ) (pool : List PoolEntry) (place count : ℕ) → Reads (read_code size pool place count) (λ c content. (length content ≡ count) × SpellsCode pool c content) (CodeStops size pool place count)
code_reads size pool place count = record {
  spelled = code_read size pool place count;
  spells = λ c rest content left parts h. subst (λ (n : ℕ). read_code size pool place n rest ≡ Ok (c, left)) h.0 (code_again size pool place c rest content left parts h.1);
  stopped = code_stops size pool place count;
}

pub code_fault : (size : ℕ) (pool : List PoolEntry) (place count : ℕ) (rest : List ℕ) (f : ClassFault) → AreBytes rest → (read_code size pool place count rest ≡ Err f) ↔ CodeStops size pool place count rest f
code_fault size pool place count rest f bytes = let by = code_stops size pool place count rest bytes in (by.found f, by.again f)

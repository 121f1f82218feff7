-- The attribute Code: what is read is spelled so, and what is spelled so is read.
use Rattle.std.proofs.Common.{◌≡◌, ℕ, ◌-◌, ◌^◌, ◌<◌, Bool, true, ◌&&◌, nat_le, ◌==◌, List, ◌++◌, length, Option, Some, None, Result, Ok, Err, refl, sym, ap, subst, ◌∙◌, append_assoc, length-append, arith}
use Rattle.std.specs.List.{AllByRecursion}
use Rattle.std.proofs.lemmas.Bool.{and_parts, and_from, eqb-true, eq-eqb, leb-true, le-leb}
use Rattle.jo_insn.proofs.Numbers.{AreBytes}
use Rattle.class_pool.specs.declared.entries.PoolEntry.{PoolEntry}
use Rattle.class_pool.specs.declared.classes.CodeInfo.{CodeInfo}
use Rattle.class_pool.specs.declared.classes.RowInfo.{RowInfo}
use Rattle.class_pool.specs.declared.faults.ClassCode.{ClassCode}
use Rattle.class_pool.specs.declared.faults.ClassCode.TheVariants.{CodeBounds}
use Rattle.class_pool.specs.Items.{place_of}
use Rattle.jo_insn.specs.declared.jumps.Placed.{Placed}
use Rattle.class_pool.specs.Code.{insns_of, first_bad_jump, row_fault, canonical_code}
use Rattle.class_pool.specs.ClassOrder.{Spelled, read_row, skip_attributes, read_spelled, jump_checked, row_checked, code_checked, read_code}
use Rattle.class_pool.specs.ClassGrammar.{u2, u4, SpellsCounted, SpellsRow, AreAttributes, AreInsnsFrom, JumpsWell, IsRow, SpellsCode}
use Rattle.class_pool.proofs.GrammarNumbers.{IsReadAs, ends, after, then_read, when, reads_more, joined, split, step, pass, SpellsBytes, number_read, number_again, two_read, two_again, bytes_read, bytes_again}
use Rattle.class_pool.proofs.GrammarMany.{EachIsSpelled, EachIsRead, counted, many_read, many_again}
use Rattle.class_pool.proofs.GrammarParts.{attributes_read, attributes_again}
use Rattle.class_pool.proofs.GrammarInsns.{insns_of_grammar}
use Rattle.class_pool.proofs.GrammarJumps.{no_bad_jump, no_bad_row}

-- ---- what is checked

-- the code has these instructions, which jump well and whose rows fit, and this is the code that is kept
record IsChecked (pool : List PoolEntry) (code : List ℕ) (rows : List RowInfo) (kept : List ℕ) : Type 0 where
  insns : List Placed
  instructions : AreInsnsFrom pool code 0 insns
  jumps : AllByRecursion (JumpsWell code insns) insns
  rows_fit : AllByRecursion (IsRow pool code insns) rows
  is : kept ≡ canonical_code pool code insns

module _ (pool : List PoolEntry) (s : Spelled) where
  rows_pass : (insns : List Placed) (kept : List ℕ) (fault_of_row : Option (ClassCode × ℕ)) → row_fault pool (length s.code) insns 0 s.rows ≡ fault_of_row
      → row_checked s.rows_place fault_of_row (Ok (canonical_code pool s.code insns)) ≡ Ok kept → AllByRecursion (IsRow pool s.code insns) s.rows × (kept ≡ canonical_code pool s.code insns)
  rows_pass insns kept None found is = ((no_bad_row pool s.code insns 0 s.rows).0 found, cc)
  rows_pass insns kept (Some wrong) found is = absurd (cc)

  jumps_pass : (insns : List Placed) (kept : List ℕ) (bad_jump : Option ℕ) → first_bad_jump s.code insns insns ≡ bad_jump → AreInsnsFrom pool s.code 0 insns
      → jump_checked s.code_place bad_jump (row_checked s.rows_place (row_fault pool (length s.code) insns 0 s.rows) (Ok (canonical_code pool s.code insns))) ≡ Ok kept → IsChecked pool s.code s.rows kept
  jumps_pass insns kept None found instructions is =
      let fit = rows_pass insns kept (row_fault pool (length s.code) insns 0 s.rows) refl is in
      record { insns = insns; instructions = instructions; jumps = (no_bad_jump s.code insns insns).0 found; rows_fit = fit.0; is = fit.1 }
  jumps_pass insns kept (Some pc) found instructions is = absurd (cc)

  insns_pass : (kept : List ℕ) (read : Result (List Placed) (ClassCode × ℕ)) → insns_of pool s.code ≡ read → code_checked pool s read ≡ Ok kept → IsChecked pool s.code s.rows kept
  insns_pass kept (Ok insns) found is = jumps_pass insns kept (first_bad_jump s.code insns insns) refl ((insns_of_grammar pool s.code insns).0 found) is
  insns_pass kept (Err wrong) found is = absurd (cc)

  checked_again : (kept : List ℕ) → IsChecked pool s.code s.rows kept → code_checked pool s (insns_of pool s.code) ≡ Ok kept
  checked_again kept h =
      rw ((insns_of_grammar pool s.code h.insns).1 h.instructions, (no_bad_jump s.code h.insns h.insns).1 h.jumps, (no_bad_row pool s.code h.insns 0 s.rows).1 h.rows_fit) (ap Ok (sym h.is))

-- ---- rows

at_parts : {rest text : List ℕ} (spelled left : List ℕ) → rest ≡ text ++ left → text ≡ spelled → rest ≡ spelled ++ left
at_parts spelled left parts is = parts ∙ ap (λ (t : List ℕ). t ++ left) is

pub row_read : (size : ℕ) → EachIsSpelled (read_row size) SpellsRow
row_read size rest bytes =
    then_read _ (two_read size rest bytes) (λ bounds middle t.
    then_read _ (two_read size middle t.bytes) (λ handling left u. ends (record {
      text = t.text ++ u.text;
      parts = joined t.text u.text left t.parts u.parts;
      spells = (cc (t.spells.0, u.spells.0), t.spells.1, t.spells.2, u.spells.1, u.spells.2);
      bytes = u.bytes;
    })))

pub row_again : (size : ℕ) → EachIsRead (read_row size) SpellsRow
row_again size row rest text left parts (spelled, start, end, handler, catch_type) =
    step _ (two_again size (row.start, row.end) (u2 row.handler ++ (u2 row.catch_type ++ left)) (at_parts (u2 row.start ++ u2 row.end ++ u2 row.handler ++ u2 row.catch_type) left parts spelled) (start, end))
    (step _ (two_again size (row.handler, row.catch_type) left refl (handler, catch_type)) refl)

-- ---- the parts

-- these bytes spell the limits, the code, the rows and attributes of which nothing is kept
record SpellsParts (pool : List PoolEntry) (s : Spelled) (content : List ℕ) : Type 0 where
  rows : List ℕ
  attributes : List ℕ
  spelled : content ≡ u2 s.max_stack ++ u2 s.max_locals ++ u4 (length s.code) ++ s.code ++ rows ++ attributes
  stack : s.max_stack < 2 ^ 16
  locals : s.max_locals < 2 ^ 16
  not_empty : 0 < length s.code
  short : length s.code < 2 ^ 16
  rows_spelled : SpellsCounted SpellsRow s.rows rows
  attributes_spelled : AreAttributes pool attributes

abbrev few_bytes : ℕ → Bool
few_bytes n = nat_le 1 n && nat_le n 65535

few : (n : ℕ) → few_bytes n ≡ true → (0 < n) × (n < 2 ^ 16)
few n is =
    let parts = and_parts (nat_le 1 n) (nat_le n 65535) is in
    let least = leb-true 1 n parts.0 in
    let most = leb-true n 65535 parts.1 in
    omega arith

few_again : (n : ℕ) → 0 < n → n < 2 ^ 16 → few_bytes n ≡ true
few_again n some short = and_from (nat_le 1 n) (nat_le n 65535) (le-leb 1 n (omega arith)) (le-leb n 65535 (omega arith))

-- the code that is read, of so many bytes
abbrev SpellsSome : ℕ → List ℕ → List ℕ → Type 0
SpellsSome count content text = SpellsBytes count content text × (0 < count) × (count < 2 ^ 16)

-- parts of a list, one behind another
one_list : {rest after_limits after_count after_code after_rows after_items : List ℕ} (a b c d count items attributes left : List ℕ) → rest ≡ (a ++ b) ++ after_limits → after_limits ≡ c ++ after_count → after_count ≡ d ++ after_code
    → after_code ≡ count ++ after_rows → after_rows ≡ items ++ after_items → after_items ≡ attributes ++ left → rest ≡ (a ++ b ++ c ++ d ++ (count ++ items) ++ attributes) ++ left
one_list a b c d count items attributes left at_limits at_count at_code at_rows at_items at_attributes =
    let rows = at_rows ∙ ap (λ (r : List ℕ). count ++ r) (at_items ∙ ap (λ (r : List ℕ). items ++ r) at_attributes) in
    let code = at_count ∙ ap (λ (r : List ℕ). c ++ r) (at_code ∙ ap (λ (r : List ℕ). d ++ r) rows) in
    at_limits ∙ ap (λ (r : List ℕ). (a ++ b) ++ r) code ∙ simp append_assoc

six_parts : {rest content : List ℕ} (a b c d rows attributes left : List ℕ) → rest ≡ content ++ left → content ≡ a ++ b ++ c ++ d ++ rows ++ attributes → rest ≡ a ++ (b ++ (c ++ (d ++ (rows ++ (attributes ++ left)))))
six_parts a b c d rows attributes left parts spelled = at_parts (a ++ b ++ c ++ d ++ rows ++ attributes) left parts spelled ∙ simp append_assoc

-- how many bytes were read
size_of : (rest text left : List ℕ) → rest ≡ text ++ left → length rest - length left ≡ length text
size_of rest text left parts = omega (arith, ap length parts, length-append text left)

spelled_read : (size : ℕ) (pool : List PoolEntry) (place count : ℕ) (rest : List ℕ) → AreBytes rest → IsReadAs (λ s content. (length content ≡ count) × SpellsParts pool s content) rest (read_spelled size pool place count rest)
unfolding read_spelled
spelled_read size pool place count rest bytes =
    then_read _ (two_read size rest bytes) (λ limits after_limits t1.
    then_read _ (number_read size 4 after_limits t1.bytes) (λ n after_count t2.
    then_read {Spells = SpellsSome n} _ (when (few_bytes n) _ _ (λ is. reads_more (bytes_read size n after_count t2.bytes) (λ code text read. let bounds = few n is in (read, bounds.0, bounds.1)))) (λ code after_code t3.
    then_read _ (number_read size 2 after_code t3.bytes) (λ row_count after_rows t4.
    then_read _ (many_read (read_row size) SpellsRow (row_read size) row_count after_rows t4.bytes) (λ rows after_items t5.
    after (skip_attributes size pool after_items) _ (λ left is.
    let t6 = (attributes_read pool size after_items t5.bytes).takes left is in
    when (length rest - length left == count) _ _ (λ right.
    let n_is : n ≡ length code = sym t3.spells.0.1 in
    let number : t2.text ≡ u4 (length code) = t2.spells.0 ∙ ap u4 n_is in
    let text : List ℕ = u2 limits.0 ++ u2 limits.1 ++ u4 (length code) ++ code ++ (t4.text ++ t5.text) ++ t6.text in
    let parts : rest ≡ text ++ left = one_list (u2 limits.0) (u2 limits.1) (u4 (length code)) code t4.text t5.text t6.text left
    (at_parts (u2 limits.0 ++ u2 limits.1) after_limits t1.parts t1.spells.0) (at_parts (u4 (length code)) after_count t2.parts number) (at_parts code after_code t3.parts t3.spells.0.0) t4.parts t5.parts t6.parts in
    ends (record {
      text = text;
      parts = parts;
      bytes = t6.bytes;
      spells = (
        sym (size_of rest text left parts) ∙ eqb-true (length rest - length left) count right,
        record {
          rows = t4.text ++ t5.text;
          attributes = t6.text;
          spelled = refl;
          stack = t1.spells.1;
          locals = t1.spells.2;
          not_empty = subst (λ (k : ℕ). 0 < k) n_is t3.spells.1;
          short = subst (λ (k : ℕ). k < 2 ^ 16) n_is t3.spells.2;
          rows_spelled = counted SpellsRow rows t5.text t4.spells t5.spells.0 t5.spells.1;
          attributes_spelled = t6.spells;
        },
      );
    }))))))))

spelled_again : (size : ℕ) (pool : List PoolEntry) (place : ℕ) (s : Spelled) (rest content left : List ℕ) → rest ≡ content ++ left → SpellsParts pool s content
    → (code_place rows_place : ℕ) × (read_spelled size pool place (length content) rest ≡ Ok (record s { code_place = code_place; rows_place = rows_place }, left))
unfolding read_spelled
spelled_again size pool place s rest content left parts h =
    let n : ℕ = length s.code in
    let k : ℕ = length s.rows in
    let items : List ℕ = h.rows_spelled.0 in
    let after_items : List ℕ = h.attributes ++ left in
    let whole = six_parts (u2 s.max_stack) (u2 s.max_locals) (u4 n) s.code h.rows h.attributes left parts h.spelled in
    let short : n < 2 ^ 16 = h.short in (
      place_of size (s.code ++ (h.rows ++ after_items)),
      place_of size (items ++ after_items),
      step _ (two_again size (s.max_stack, s.max_locals) (u4 n ++ (s.code ++ (h.rows ++ after_items))) whole (h.stack, h.locals))
          (step _ (number_again size 4 n (s.code ++ (h.rows ++ after_items)) refl (omega arith))
          (step _ (pass CodeBounds _ (few_again n h.not_empty short) (bytes_again size s.code (h.rows ++ after_items) refl))
          (step _ (number_again size 2 k (items ++ after_items) (split (u2 k) items after_items refl h.rows_spelled.1) h.rows_spelled.2)
          (step _ (many_again (read_row size) SpellsRow (row_again size) s.rows (items ++ after_items) items after_items refl h.rows_spelled.3)
          (step _ (attributes_again pool size after_items h.attributes left refl h.attributes_spelled)
          (pass CodeBounds place (eq-eqb (length rest - length left) (length content) (size_of rest content left parts)) refl)))))),
    )

-- ---- the attribute

pub code_read : (size : ℕ) (pool : List PoolEntry) (place count : ℕ) (rest : List ℕ) → AreBytes rest → IsReadAs (λ c content. (length content ≡ count) × SpellsCode pool c content) rest (read_code size pool place count rest)
unfolding read_code
code_read size pool place count rest bytes =
    then_read _ (spelled_read size pool place count rest bytes) (λ s left t.
    after (code_checked pool s (insns_of pool s.code)) _ (λ kept is.
    let h = insns_pass pool s kept (insns_of pool s.code) refl is in
    let p = t.spells.1 in
    ends (record {
      text = t.text;
      parts = t.parts;
      bytes = t.bytes;
      spells = (
        t.spells.0,
        record {
          code = s.code;
          rows = p.rows;
          attributes = p.attributes;
          insns = h.insns;
          spelled = p.spelled;
          stack = p.stack;
          locals = p.locals;
          not_empty = p.not_empty;
          short = p.short;
          rows_spelled = p.rows_spelled;
          attributes_spelled = p.attributes_spelled;
          instructions = h.instructions;
          jumps = h.jumps;
          rows_fit = h.rows_fit;
          kept = h.is;
        },
      );
    })))

pub code_again : (size : ℕ) (pool : List PoolEntry) (place : ℕ) (c : CodeInfo) (rest content left : List ℕ) → rest ≡ content ++ left → SpellsCode pool c content → read_code size pool place (length content) rest ≡ Ok (c, left)
unfolding read_code
code_again size pool place c rest content left parts h =
    let s : Spelled = record { max_stack = c.max_stack; max_locals = c.max_locals; code_place = 0; code = h.code; rows_place = 0; rows = c.rows } in
    let spelled = spelled_again size pool place s rest content left parts (record {
      rows = h.rows;
      attributes = h.attributes;
      spelled = h.spelled;
      stack = h.stack;
      locals = h.locals;
      not_empty = h.not_empty;
      short = h.short;
      rows_spelled = h.rows_spelled;
      attributes_spelled = h.attributes_spelled;
    }) in
    let found : Spelled = record s { code_place = spelled.0; rows_place = spelled.1 } in
    step _ spelled.2 (step _ (checked_again pool found c.bytes (record { insns = h.insns; instructions = h.instructions; jumps = h.jumps; rows_fit = h.rows_fit; is = h.kept })) refl)

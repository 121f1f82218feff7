-- Methods and the codes among their attributes: what is read is spelled so, and what is spelled so is read.
use Rattle.std.proofs.Common.{◌≡◌, inl, inr, ℕ, zero, suc, ◌+◌, Bool, true, false, ◌&&◌, ◌||◌, not, if◌then◌else◌, ◌==◌, nat_lt, List, [], ◌∷◌, ◌++◌, length, Option, Some, None, Ok, refl, ap, subst, ◌∙◌, arith}
use Rattle.std.specs.Prelude.{codes}
use Rattle.std.specs.Bool.{Decides}
use Rattle.std.proofs.Math.Bool.{or-true, or-false}
use Rattle.std.proofs.lemmas.Bool.{false_from_ne_true, eqb-true, not-true, or_cases, or_parts}
use Rattle.std.proofs.lemmas.Bool.Decides.{not_from_Decides}
use Rattle.jo_insn.proofs.Numbers.{AreBytes}
use Rattle.class_pool.specs.declared.entries.PoolEntry.{PoolEntry}
use Rattle.class_pool.specs.declared.classes.CodeInfo.{CodeInfo}
use Rattle.class_pool.specs.declared.classes.MemberKind.TheVariants.{Method}
use Rattle.class_pool.specs.declared.faults.ClassCode.{ClassCode}
use Rattle.class_pool.specs.Items.{place_of, bytes_of}
use Rattle.class_pool.specs.Pool.{utf8_at, first_failing}
use Rattle.class_pool.specs.Code.{is_wide_desc}
use Rattle.jo_insn.specs.AccessFlags.{has_flag, native_flag, abstract_flag, synchronized_flag}
use Rattle.class_pool.specs.ClassOrder.{is_named, read_code, method_attributes, method_questions, first_code, read_method}
use Rattle.class_pool.specs.ClassGrammar.{u2, u4, SpellsEach, Attribute, SpellsAttribute, HasCodes, no_code, not_code, code_attribute, codes_in, HasBody, Runs, SpellsMethod}
use Rattle.class_pool.proofs.GrammarMany.{EachIsSpelled, EachIsRead, counted}
use Rattle.class_pool.proofs.GrammarParts.{named_decided, SpellsAttributeHead, attribute_head_read, attribute_of, attribute_again, SpellsHead, head_read, head_again}
use Rattle.class_pool.proofs.GrammarCode.{code_read, code_again}
use Rattle.class_pool.proofs.GrammarNumbers.{Takes, IsReadAs, by_answer, ends, fails, then_read, joined, split, step, number_read, number_again, bytes_read, bytes_again}

-- ---- attributes

by_test : {P : Type 0} (test : Bool) → (test ≡ true → P) → (test ≡ false → P) → P
by_test true passed failed = passed refl
by_test false passed failed = failed refl

-- so many attributes with these codes among them
abbrev SpellsCodes : List PoolEntry → ℕ → List CodeInfo → List ℕ → Type 0
SpellsCodes pool n found text = (attributes : List Attribute) × SpellsEach (SpellsAttribute pool) attributes text × (length attributes ≡ n) × HasCodes pool attributes found

-- one more of them, behind its head
more_codes : {pool : List PoolEntry} {n name count : ℕ} {rest after_head after_content left : List ℕ} {found all : List CodeInfo} (content : List ℕ) → Takes (SpellsAttributeHead pool) rest (name, count) after_head
    → length content ≡ count → after_head ≡ content ++ after_content → ((more : List Attribute) → HasCodes pool more found → HasCodes pool (record { name = name; content = content } ∷ more) all)
    → Takes (SpellsCodes pool n) after_content found left → Takes (SpellsCodes pool (suc n)) rest all left
more_codes {pool = pool} {name = name} {left = left} content t size is_content has u =
    let attributes : List Attribute = record { name = name; content = content } ∷ u.spells.0 in
    let first : List ℕ = t.text ++ content in
    record {
      text = first ++ u.text;
      parts = joined first u.text left (joined t.text content _ t.parts is_content) u.parts;
      spells = (attributes, (first, u.text, refl, attribute_of pool t.spells (refl, size), u.spells.1), ap suc u.spells.2, has u.spells.0 u.spells.3);
      bytes = u.bytes;
    }

module _ (size : ℕ) (pool : List PoolEntry) where
  codes_read : (n : ℕ) (rest : List ℕ) → AreBytes rest → IsReadAs (SpellsCodes pool n) rest (method_attributes size pool n rest)
  unfolding method_attributes
  codes_read zero rest bytes = ends (record { text = []; parts = refl; spells = ([], refl, refl, no_code); bytes = bytes })
  codes_read (suc n) rest bytes = attribute_head_read pool size _ rest bytes (λ name count middle behind t.
      let place : ℕ = place_of size middle in
      let is_code : Decides (is_named (codes "Code") (utf8_at pool name)) (utf8_at pool name ≡ Some (codes "Code")) = named_decided (codes "Code") (utf8_at pool name) in
      by_test (is_named (codes "Code") (utf8_at pool name))
      (λ named. by_answer (read_code size pool place count behind) (λ f failed. rw (named, failed) fails) (λ code is.
      let u = (code_read size pool place count behind t.bytes).takes code is in
      rw (named, is) (then_read _ (codes_read n code.1 u.bytes) (λ found left v.
      ends (more_codes u.text t u.spells.0 u.parts (λ more has. code_attribute (record { name = name; content = u.text }) more code.0 found (is_code.0 named) u.spells.1 has) v)))))
      (λ other. by_answer (bytes_of size count behind) (λ f failed. rw (other, failed) fails) (λ content is.
      let u = (bytes_read size count behind t.bytes).takes content is in
      let at_content : behind ≡ content.0 ++ content.1 = u.parts ∙ ap (λ (t : List ℕ). t ++ content.1) u.spells.0 in
      rw (other, is) (then_read _ (codes_read n content.1 u.bytes) (λ found left v.
      ends (more_codes content.0 t u.spells.1 at_content (λ more has. not_code (record { name = name; content = content.0 }) more found (not_from_Decides _ is_code other) has) v))))))

  codes_again : {attributes : List Attribute} {found : List CodeInfo} → HasCodes pool attributes found → (rest text left : List ℕ) → rest ≡ text ++ left → SpellsEach (SpellsAttribute pool) attributes text
      → method_attributes size pool (length attributes) rest ≡ Ok (found, left)
  unfolding method_attributes
  codes_again no_code rest text left parts none = ap Ok (ap (λ (r : List ℕ). ([], r)) (parts ∙ ap (λ (t : List ℕ). t ++ left) none))
  codes_again (not_code attribute more found other has) rest text left parts (first, others, both, one, each) =
      let after_content : List ℕ = others ++ left in
      let unnamed : is_named (codes "Code") (utf8_at pool attribute.name) ≡ false = false_from_ne_true _ (λ named. other ((named_decided (codes "Code") (utf8_at pool attribute.name)).0 named)) in
      attribute_again pool size _ attribute after_content (split first others left parts both) one
      (rw (unnamed, bytes_again size attribute.content after_content refl) (step _ (codes_again has after_content others left refl each) refl))
  codes_again (code_attribute attribute more c found named spelled has) rest text left parts (first, others, both, one, each) =
      let content : List ℕ = attribute.content in
      let after_content : List ℕ = others ++ left in
      let is_code = (named_decided (codes "Code") (utf8_at pool attribute.name)).1 named in
      attribute_again pool size _ attribute after_content (split first others left parts both) one
      (rw (is_code, code_again size pool (place_of size (u4 (length content) ++ (content ++ after_content))) c (content ++ after_content) content after_content refl spelled) (step _ (codes_again has after_content others left refl each) refl))

-- ---- what is asked of a method

three_pass : (first second third : Bool) (a b c : ClassCode) → first_failing ((first, a) ∷ (second, b) ∷ (third, c) ∷ []) ≡ None → (first ≡ true) × (second ≡ true) × (third ≡ true)
three_pass true true true a b c is = (refl, refl, refl)
three_pass true true false a b c is = absurd (cc)
three_pass true false third a b c is = absurd (cc)
three_pass false second third a b c is = absurd (cc)

-- a flag and codes are one together
flagged : (flag : Bool) → 0 + (if flag then 1 else 0) ≡ 1 → flag ≡ true
flagged true is = refl
flagged false is = absurd (omega arith)

unflagged : (flag : Bool) → 1 + (if flag then 1 else 0) ≡ 1 → flag ≡ false
unflagged true is = absurd (omega arith)
unflagged false is = refl

body_passes : (flags : ℕ) (found : List CodeInfo) → (length found + (if has_flag native_flag flags || has_flag abstract_flag flags then 1 else 0) == 1) ≡ true → (found ≡ codes_in (first_code found)) × HasBody flags (first_code found)
body_passes flags [] is = (refl, or_cases _ _ (flagged (has_flag native_flag flags || has_flag abstract_flag flags) (eqb-true _ 1 is)))
body_passes flags (c ∷ []) is = (refl, or_parts _ _ (unflagged (has_flag native_flag flags || has_flag abstract_flag flags) (eqb-true _ 1 is)))
body_passes flags (c ∷ d ∷ more) is = let one = eqb-true _ 1 is in absurd (omega arith)

body_again : (flags : ℕ) (code : Option CodeInfo) → HasBody flags code → (length (codes_in code) + (if has_flag native_flag flags || has_flag abstract_flag flags then 1 else 0) == 1) ≡ true
body_again flags None (inl native) = rw native refl
body_again flags None (inr abstract) = rw (abstract, or-true) refl
body_again flags (Some code) none = rw (none.0, none.1) refl

runs_decides : (flags : ℕ) (code : Option CodeInfo) → Decides (has_flag native_flag flags || nat_lt 0 (length (codes_in code))) (Runs flags code)
runs_decides flags None = (λ is. rw or-false at is, λ runs. rw runs refl)
runs_decides flags (Some code) = (λ is. tt, λ runs. or-true _)

not_both : (wide runs : Bool) → Decides (not (wide && runs)) (runs ≡ true → wide ≡ false)
not_both true true = (λ is. absurd (cc), λ goes. let same = goes refl in absurd (cc))
not_both true false = (λ is runs. absurd (cc), λ goes. refl)
not_both false runs = (λ is runs_too. refl, λ goes. refl)

-- what holds of a method with these codes
record HasPassed (wide : Bool) (flags : ℕ) (code : Option CodeInfo) : Type 0 where
  has_body : HasBody flags code
  not_synchronized : has_flag synchronized_flag flags ≡ false
  not_wide : Runs flags code → wide ≡ false

questions_pass : (wide : Bool) (flags : ℕ) (found : List CodeInfo) → first_failing (method_questions wide flags found) ≡ None → (found ≡ codes_in (first_code found)) × HasPassed wide flags (first_code found)
questions_pass wide flags found is =
    let runs : Bool = has_flag native_flag flags || nat_lt 0 (length found) in
    let passed = three_pass (not (wide && runs)) _ _ _ _ _ is in
    let body = body_passes flags found passed.2 in
    let narrow : runs ≡ true → wide ≡ false = (not_both wide runs).0 passed.0 in
    let same : runs ≡ (has_flag native_flag flags || nat_lt 0 (length (codes_in (first_code found)))) = ap (λ (these : List CodeInfo). has_flag native_flag flags || nat_lt 0 (length these)) body.0 in
    (body.0, record { has_body = body.1; not_synchronized = not-true _ passed.1; not_wide = λ goes. narrow (same ∙ (runs_decides flags (first_code found)).1 goes) })

questions_again : (wide : Bool) (flags : ℕ) (code : Option CodeInfo) → HasPassed wide flags code → first_failing (method_questions wide flags (codes_in code)) ≡ None
questions_again wide flags code h =
    let narrow : not (wide && (has_flag native_flag flags || nat_lt 0 (length (codes_in code)))) ≡ true = (not_both wide _).1 (λ runs. h.not_wide ((runs_decides flags code).0 runs)) in
    let free : not (has_flag synchronized_flag flags) ≡ true = rw h.not_synchronized refl in
    rw (narrow, free, body_again flags code h.has_body) refl

-- ---- methods

by_fault : (P : Type 0) (fault : Option ClassCode) → (fault ≡ None → P) → ((code : ClassCode) → fault ≡ Some code → P) → P
by_fault P None passed failed = passed refl
by_fault P (Some code) passed failed = failed code refl

first_of_codes : (code : Option CodeInfo) → first_code (codes_in code) ≡ code
first_of_codes None = refl
first_of_codes (Some code) = refl

module _ (size : ℕ) (pool : List PoolEntry) where
  pub method_read : EachIsSpelled (read_method size pool) (SpellsMethod pool)
  unfolding read_method
  method_read rest bytes =
      then_read _ (head_read pool size Method rest bytes) (λ head after_head t1.
      then_read _ (number_read size 2 after_head t1.bytes) (λ count after_count t2.
      then_read _ (codes_read size pool count after_count t2.bytes) (λ found left t3.
      by_fault _ (first_failing (method_questions (is_wide_desc (utf8_at pool head.2)) head.0 found))
      (λ passes.
      let h = questions_pass (is_wide_desc (utf8_at pool head.2)) head.0 found passes in
      let attributes : List Attribute = t3.spells.0 in
      let others : List ℕ = t2.text ++ t3.text in
      rw passes (ends (record {
        text = t1.text ++ others;
        parts = joined t1.text others left t1.parts (joined t2.text t3.text left t2.parts t3.parts);
        bytes = t3.bytes;
        spells = record {
          attributes = attributes;
          others = others;
          spelled = ap (λ (t : List ℕ). t ++ others) t1.spells.spelled;
          flags = t1.spells.flags;
          name_index = t1.spells.name_index;
          desc_index = t1.spells.desc_index;
          name = t1.spells.name;
          desc = t1.spells.desc;
          attributes_spelled = counted (SpellsAttribute pool) attributes t3.text t2.spells t3.spells.1 t3.spells.2;
          body = subst (HasCodes pool attributes) h.0 t3.spells.3;
          has_body = h.1.has_body;
          not_synchronized = h.1.not_synchronized;
          not_wide = h.1.not_wide;
        };
      })))
      (λ wrong is. rw is fails))))

  pub method_again : EachIsRead (read_method size pool) (SpellsMethod pool)
  unfolding read_method
  method_again m rest text left parts h =
      let front : List ℕ = u2 m.flags ++ u2 m.name ++ u2 m.desc in
      let (items, both, few, each) = h.attributes_spelled in
      let head : SpellsHead pool Method (m.flags, m.name, m.desc) front = record { spelled = refl; flags = h.flags; name_index = h.name_index; desc_index = h.desc_index; name = h.name; desc = h.desc } in
      let passes = questions_again (is_wide_desc (utf8_at pool m.desc)) m.flags m.code (record { has_body = h.has_body; not_synchronized = h.not_synchronized; not_wide = h.not_wide }) in
      step _ (head_again pool size Method (m.flags, m.name, m.desc) rest front (h.others ++ left) (split front h.others left parts h.spelled) head)
      (step _ (number_again size 2 (length h.attributes) (items ++ left) (split (u2 (length h.attributes)) items left refl both) few)
      (step _ (codes_again size pool h.body (items ++ left) items left refl each)
      (rw (passes, first_of_codes m.code) refl)))

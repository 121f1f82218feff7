-- Methods and the codes among their attributes: reading stops with exactly the faults of the relations by items.
use Rattle.std.proofs.Common.{◌≡◌, ◌↔◌, inl, inr, ℕ, zero, suc, ◌+◌, ◌-◌, Bool, true, false, ◌&&◌, ◌||◌, not, if◌then◌else◌, ◌==◌, nat_lt, List, [], ◌∷◌, ◌++◌, length, Option, Some, None, Result, Ok, Err, refl, sym, ap, subst, ◌∙◌, arith}
use Rattle.std.specs.Prelude.{codes}
use Rattle.std.specs.Bool.{Decides}
use Rattle.std.proofs.Math.Bool.{or-true}
use Rattle.std.proofs.lemmas.Bool.{cases_Bool, false_from_ne_true, eqb-true, or_cases, or_parts, true≢false}
use Rattle.std.proofs.lemmas.Bool.Decides.{Decides-or, Decides-ltb, not_from_Decides}
use Rattle.std.proofs.lemmas.List.{append-nil}
use Rattle.jo_insn.specs.AccessFlags.{has_flag, native_flag, abstract_flag, synchronized_flag}
use Rattle.jo_insn.proofs.Numbers.{AreBytes}
use Rattle.class_pool.specs.declared.entries.PoolEntry.{PoolEntry}
use Rattle.class_pool.specs.declared.classes.CodeInfo.{CodeInfo}
use Rattle.class_pool.specs.declared.classes.MethodInfo.{MethodInfo}
use Rattle.class_pool.specs.declared.classes.MemberKind.TheVariants.{Method}
use Rattle.class_pool.specs.declared.faults.Cut.TheVariants.{WideType, Synchronized}
use Rattle.class_pool.specs.declared.faults.ClassCode.TheVariants.{CodeBounds, Unsupported}
use Rattle.class_pool.specs.declared.faults.ClassFault.{ClassFault}
use Rattle.class_pool.specs.Items.{◌>>=◌, place_of, number, bytes_of}
use Rattle.class_pool.specs.Pool.{utf8_at, first_failing}
use Rattle.class_pool.specs.Code.{is_wide_desc}
use Rattle.class_pool.specs.ClassOrder.{text_index, is_named, read_code, method_attributes, method_questions, first_code, read_method}
use Rattle.class_pool.specs.ClassGrammar.{SpellsEach, Attribute, SpellsAttribute, HasCodes, no_code, not_code, code_attribute, codes_in, HasBody, SpellsMethod, u4}
use Rattle.class_pool.specs.FirstFaultItems.{OneStops}
use Rattle.class_pool.specs.FirstFaultParts.{MethodAttributeStops, BehindCodes, SpellsCodes, HasOneBody, MethodStops}
use Rattle.class_pool.proofs.Many.{with_front}
use Rattle.class_pool.proofs.GrammarNumbers.{Takes, IsReadAs, by_answer, ends, then_read, either, joined, split, step, bytes_read, bytes_again}
use Rattle.class_pool.proofs.GrammarParts.{named_decided, attribute_head_read, attribute_of, attribute_again}
use Rattle.class_pool.proofs.GrammarCode.{code_read, code_again}
use Rattle.class_pool.proofs.GrammarMethods.{method_read, method_again}
use Rattle.class_pool.proofs.FirstFaultSteps.{Reads, never, reads_as, then_ok, part, ask, asked, by_question, either_one, either_other, cut, number_reads, fails_first, goes_on, bytes_left, nothing_before, front_of_both}
use Rattle.class_pool.proofs.FirstFaultFields.{text_index_reads, head_reads}
use Rattle.class_pool.proofs.FirstFaultCode.{code_reads}

-- ---- one attribute

module _ (size : ℕ) (pool : List PoolEntry) where
  abbrev is_code : ℕ → Bool
  is_code name = is_named (codes "Code") (utf8_at pool name)

  code_named : (name : ℕ) → Decides (is_code name) (utf8_at pool name ≡ Some (codes "Code"))
  code_named name = named_decided (codes "Code") (utf8_at pool name)

  -- an attribute and its code, where it has one, its steps in a row
  abbrev one_code : List ℕ → Result (List CodeInfo × List ℕ) ClassFault
  one_code rest = text_index size pool rest >>= λ name. number size 4 name.1 >>= λ count.
      if is_code name.0 then (read_code size pool (place_of size name.1) count.0 count.1 >>= λ code. Ok (code.0 ∷ [], code.1)) else (bytes_of size count.0 count.1 >>= λ content. Ok ([], content.1))

  codes_in_a_row : (n : ℕ) (rest : List ℕ) → method_attributes size pool (suc n) rest ≡ (one_code rest >>= λ first. with_front first.0 (method_attributes size pool n first.1))
  unfolding method_attributes
  codes_in_a_row n rest =
      by_answer (text_index size pool rest) (λ f failed. rw failed refl) (λ name is1. rw is1 (
      by_answer (number size 4 name.1) (λ f failed. rw failed refl) (λ count is2. rw is2 (
      elim (cases_Bool (is_code name.0)) [
        | inl named ↦ rw named (by_answer (read_code size pool (place_of size name.1) count.0 count.1) (λ f failed. rw failed refl) (λ code is3. rw is3 refl))
        | inr other ↦ rw other (by_answer (bytes_of size count.0 count.1) (λ f failed. rw failed refl) (λ content is3. rw is3 refl))
      ]))))

  abbrev SpellsOne : List CodeInfo → List ℕ → Type 0
  SpellsOne found text = (attribute : Attribute) × SpellsAttribute pool attribute text × HasCodes pool (attribute ∷ []) found

  one_read : (rest : List ℕ) → AreBytes rest → IsReadAs SpellsOne rest (one_code rest)
  one_read rest bytes = attribute_head_read pool size _ rest bytes (λ name count at_length content t.
      either (is_code name)
      (λ is. then_read _ (code_read size pool (place_of size at_length) count content t.bytes) (λ code left u. ends (record {
        text = t.text ++ u.text;
        parts = joined _ _ _ t.parts u.parts;
        spells = (record { name = name; content = u.text }, attribute_of pool t.spells (refl, u.spells.0), code_attribute (record { name = name; content = u.text }) [] code [] ((code_named name).0 is) u.spells.1 no_code);
        bytes = u.bytes;
      })))
      (λ other. then_read _ (bytes_read size count content t.bytes) (λ there left u. ends (record {
        text = t.text ++ u.text;
        parts = joined _ _ _ t.parts u.parts;
        spells = (record { name = name; content = there }, attribute_of pool t.spells u.spells, not_code (record { name = name; content = there }) [] [] (not_from_Decides _ (code_named name) other) no_code);
        bytes = u.bytes;
      }))))

  one_again : {attribute : Attribute} {found : List CodeInfo} → HasCodes pool (attribute ∷ []) found → (rest text left : List ℕ) → rest ≡ text ++ left → SpellsAttribute pool attribute text → one_code rest ≡ Ok (found, left)
  one_again (not_code attribute more found other no_code) rest text left parts spelled =
      let unnamed : is_code attribute.name ≡ false = false_from_ne_true _ (λ named. other ((code_named attribute.name).0 named)) in
      attribute_again pool size _ attribute left parts spelled (rw unnamed (step _ (bytes_again size attribute.content left refl) refl))
  one_again (code_attribute attribute more c found named spelled_code no_code) rest text left parts spelled =
      let content : List ℕ = attribute.content in
      attribute_again pool size _ attribute left parts spelled
      (rw ((code_named attribute.name).1 named) (step _ (code_again size pool (place_of size (u4 (length content) ++ (content ++ left))) c (content ++ left) content left refl spelled_code) refl))

  one_reads : Reads one_code SpellsOne (MethodAttributeStops size pool)
  one_reads = record {
    spelled = one_read;
    spells = λ found rest text left parts h. one_again h.2 rest text left parts h.1;
    stopped = λ rest bytes.
        part (text_index_reads size pool) rest bytes _ (λ name at_length t.
        part (number_reads size 4) at_length t.bytes _ (λ count content u.
        elim (cases_Bool (is_code name)) [
          | inl is ↦ either_one ((code_named name).0 is) (rw is (then_ok _ _ ((code_reads size pool (place_of size at_length) count).stopped content u.bytes)))
          | inr other ↦ either_other (not_from_Decides _ (code_named name) other) (rw other (then_ok _ _ (cut size count content _)))
        ]));
  }

  -- ---- all attributes

  codes_joined : {attribute : Attribute} {first : List CodeInfo} → HasCodes pool (attribute ∷ []) first → {more : List Attribute} {others : List CodeInfo} → HasCodes pool more others → HasCodes pool (attribute ∷ more) (first ++ others)
  codes_joined (not_code attribute nothing found other no_code) {more} {others} has = not_code attribute more others other has
  codes_joined (code_attribute attribute nothing c found named spelled no_code) {more} {others} has = code_attribute attribute more c others named spelled has

  -- what reading so many of them gives
  abbrev Answers : ℕ → List ℕ → Result (List CodeInfo × List ℕ) ClassFault → Type 0
  Answers n rest (Ok r) = Takes (SpellsCodes pool n) rest r.0 r.1
  Answers n rest (Err f) = OneStops (SpellsAttribute pool) (BehindCodes size pool) n rest f

  one_more : (n : ℕ) (rest middle : List ℕ) (first : List CodeInfo) → Takes SpellsOne rest first middle → (read : Result (List CodeInfo × List ℕ) ClassFault) → Answers n middle read → Answers (suc n) rest (with_front first read)
  one_more n rest middle first t (Ok r) u =
      let (attribute, spelled, has) = t.spells in record {
        text = t.text ++ u.text;
        parts = joined t.text u.text r.1 t.parts u.parts;
        spells = (attribute ∷ u.spells.0, (t.text, u.text, refl, spelled, u.spells.1), ap suc u.spells.2, codes_joined has u.spells.3);
        bytes = u.bytes;
      }
  one_more n rest middle first t (Err f) later =
      let (attribute, spelled, has) = t.spells in
      let (found, others, next) = later.next in record {
        before = attribute ∷ later.before;
        text = t.text ++ later.text;
        left = later.left;
        parts = joined t.text later.text later.left t.parts later.parts;
        spelled = (t.text, later.text, refl, spelled, later.spelled);
        fewer = omega (arith, later.fewer);
        next = (first ++ found, codes_joined has others, next);
      }

  codes_answer : (n : ℕ) (rest : List ℕ) → AreBytes rest → Answers n rest (method_attributes size pool n rest)
  unfolding method_attributes
  codes_answer zero rest bytes = record { text = []; parts = refl; spells = ([], refl, refl, no_code); bytes = bytes }
  codes_answer (suc n) rest bytes = subst (Answers (suc n) rest) (sym (codes_in_a_row n rest)) (
      by_answer (one_code rest)
      (λ f failed. rw failed (record {
        before = [];
        text = [];
        left = rest;
        parts = refl;
        spelled = refl;
        fewer = omega arith;
        next = ([], no_code, (one_reads.stopped rest bytes).found f failed);
      }))
      (λ o given.
      let t = (one_read rest bytes).takes o given in
      rw given (one_more n rest o.1 o.0 t (method_attributes size pool n o.1) (codes_answer n o.1 t.bytes))))

  codes_again : {before : List Attribute} {found : List CodeInfo} → HasCodes pool before found → (n k : ℕ) (rest text left : List ℕ) → n ≡ length before + k → rest ≡ text ++ left → SpellsEach (SpellsAttribute pool) before text
      → method_attributes size pool n rest ≡ with_front found (method_attributes size pool k left)
  codes_again no_code n k rest text left count parts none =
      let same : n ≡ k = omega (arith, count) in
      ap (λ (m : ℕ). method_attributes size pool m rest) same ∙ ap (method_attributes size pool k) (parts ∙ ap (λ (t : List ℕ). t ++ left) none) ∙ nothing_before _
  codes_again (not_code attribute more found other has) zero k rest text left count parts each = absurd (omega (arith, count))
  codes_again (not_code attribute more found other has) (suc n) k rest text left count parts (first, others, both, one, each) =
      codes_in_a_row n rest ∙ goes_on _ (one_again (not_code attribute [] [] other no_code) rest first (others ++ left) (split first others left parts both) one)
      (ap (with_front []) (codes_again has n k (others ++ left) others left (omega (arith, count)) refl each) ∙ front_of_both [] found _)
  codes_again (code_attribute attribute more c found named spelled has) zero k rest text left count parts each = absurd (omega (arith, count))
  codes_again (code_attribute attribute more c found named spelled has) (suc n) k rest text left count parts (first, others, both, one, each) =
      codes_in_a_row n rest ∙ goes_on _ (one_again (code_attribute attribute [] c [] named spelled no_code) rest first (others ++ left) (split first others left parts both) one)
      (ap (with_front (c ∷ [])) (codes_again has n k (others ++ left) others left (omega (arith, count)) refl each) ∙ front_of_both (c ∷ []) found _)

  codes_reads : (n : ℕ) → Reads (method_attributes size pool n) (SpellsCodes pool n) (OneStops (SpellsAttribute pool) (BehindCodes size pool) n)
  unfolding method_attributes
  codes_reads n = record {
    spelled = λ rest bytes. record { takes = λ r is. subst (Answers n rest) is (codes_answer n rest bytes) };
    spells = λ found rest text left parts h. codes_again h.3 n 0 rest text left (omega (arith, h.2)) parts h.1 ∙ ap (λ (cs : List CodeInfo). Ok (cs, left)) (append-nil found);
    stopped = λ rest bytes. record {
      found = λ f is. subst (Answers n rest) is (codes_answer n rest bytes);
      again = λ f one.
          let (found, has, next) = one.next in
          let k : ℕ = n - suc (length one.before) in
          let failed : one_code one.left ≡ Err f = (one_reads.stopped one.left (bytes_left rest one.text one.left one.parts bytes)).again f next in
          codes_again has n (suc k) rest one.text one.left (omega (arith, one.fewer)) one.parts one.spelled ∙ ap (with_front found) (codes_in_a_row k one.left ∙ fails_first _ failed);
    };
  }

-- ---- what is asked of a method

not_both : {R : Type 0} (wide runs : Bool) → Decides runs R → Decides (not (wide && runs)) (R → wide ≡ false)
not_both true true decides = (λ is. absurd (cc), λ goes. let same = goes (decides.0 refl) in absurd (cc))
not_both true false decides = (λ is holds. absurd (true≢false (sym (decides.1 holds))), λ goes. refl)
not_both false runs decides = (λ is holds. refl, λ goes. refl)

unset : (flag : Bool) → Decides (not flag) (flag ≡ false)
unset true = (λ is. absurd (cc), λ is. absurd (cc))
unset false = (λ _. refl, λ _. refl)

abbrev has_one : ℕ → List CodeInfo → Bool
has_one flags found = length found + (if has_flag native_flag flags || has_flag abstract_flag flags then 1 else 0) == 1

flagged : (flag : Bool) → 0 + (if flag then 1 else 0) ≡ 1 → flag ≡ true
flagged true is = refl
flagged false is = absurd (omega arith)

unflagged : (flag : Bool) → 1 + (if flag then 1 else 0) ≡ 1 → flag ≡ false
unflagged true is = absurd (omega arith)
unflagged false is = refl

one_body : (flags : ℕ) (found : List CodeInfo) → has_one flags found ≡ true → HasOneBody flags found
one_body flags [] is = (None, refl, or_cases _ _ (flagged (has_flag native_flag flags || has_flag abstract_flag flags) (eqb-true _ 1 is)))
one_body flags (c ∷ []) is = (Some c, refl, or_parts _ _ (unflagged (has_flag native_flag flags || has_flag abstract_flag flags) (eqb-true _ 1 is)))
one_body flags (c ∷ d ∷ more) is = let one = eqb-true _ 1 is in absurd (omega arith)

body_counts : (flags : ℕ) (code : Option CodeInfo) → HasBody flags code → has_one flags (codes_in code) ≡ true
body_counts flags None (inl native) = rw native refl
body_counts flags None (inr abstract) = rw (abstract, or-true) refl
body_counts flags (Some code) none = rw (none.0, none.1) refl

body_decided : (flags : ℕ) (found : List CodeInfo) → Decides (has_one flags found) (HasOneBody flags found)
body_decided flags found = (one_body flags found, λ h. ap (has_one flags) h.1 ∙ body_counts flags h.0 h.2)

-- ---- methods

pub method_reads : (size : ℕ) (pool : List PoolEntry) → Reads (read_method size pool) (SpellsMethod pool) (MethodStops size pool)
unfolding read_method
method_reads size pool = record {
  spelled = method_read size pool;
  spells = method_again size pool;
  stopped = λ rest bytes.
      part (head_reads size pool Method) rest bytes _ (λ head at_count t.
      part (number_reads size 2) at_count t.bytes _ (λ n attributes u.
      part (codes_reads size pool n) attributes u.bytes _ (λ found left v.
      let wide : Bool = is_wide_desc (utf8_at pool head.2) in
      let runs : Bool = has_flag native_flag head.0 || nat_lt 0 (length found) in
      let synchronized : Bool = not (has_flag synchronized_flag head.0) in
      let method : MethodInfo × List ℕ = (record { flags = head.0; name = head.1; desc = head.2; code = first_code found }, left) in
      reads_as {other = asked (first_failing (method_questions wide head.0 found)) (place_of size rest) >>= λ _. Ok method}
      (by_question (first_failing (method_questions wide head.0 found)) (λ passed. rw passed refl) (λ wrong failed. rw failed refl))
      (then_ok _ (λ _. method) (
      ask (not (wide && runs)) (Unsupported WideType) (place_of size rest) ((synchronized, Unsupported Synchronized) ∷ (has_one head.0 found, CodeBounds) ∷ [])
      (not_both wide runs (Decides-or (has_flag native_flag head.0) (nat_lt 0 (length found)) (λ e. e, λ e. e) (Decides-ltb 0 (length found)))) (λ _.
      ask synchronized (Unsupported Synchronized) (place_of size rest) ((has_one head.0 found, CodeBounds) ∷ []) (unset (has_flag synchronized_flag head.0)) (λ _.
      ask (has_one head.0 found) CodeBounds (place_of size rest) [] (body_decided head.0 found) (λ _. never))))))));
}

pub method_fault : (size : ℕ) (pool : List PoolEntry) (rest : List ℕ) (f : ClassFault) → AreBytes rest → (read_method size pool rest ≡ Err f) ↔ MethodStops size pool rest f
method_fault size pool rest f bytes = let by = (method_reads size pool).stopped rest bytes in (by.found f, by.again f)

-- Indices, heads, attributes and fields: reading stops with exactly the faults of the relations by items.
use Rattle.std.proofs.Common.{◌≡◌, ◌↔◌, ℕ, zero, suc, ◌+◌, ◌-◌, Bool, true, false, ◌&&◌, ◌==◌, if◌then◌else◌, List, [], ◌∷◌, ◌++◌, length, Option, Some, None, Result, Ok, Err, refl, inl, inr, sym, ap, subst, ◌∙◌, append_assoc, length-append, arith}
use Rattle.std.specs.Prelude.{IsSomeAnd, codes}
use Rattle.std.specs.Bool.{Decides}
use Rattle.std.proofs.lemmas.Bool.{cases_Bool, false_from_ne_true}
use Rattle.std.proofs.lemmas.List.{append-nil}
use Rattle.std.proofs.lemmas.Bool.Decides.{Decides-eqb, Decides-and, not_from_Decides}
use Rattle.jo_insn.proofs.Numbers.{AreBytes}
use Rattle.jo_text.specs.Tests.{is_member_name}
use Rattle.jo_text.proofs.TestLaws.{field_decided, method_decided, member_decided}
use Rattle.class_pool.specs.declared.entries.PoolEntry.{PoolEntry}
use Rattle.class_pool.specs.declared.classes.MemberKind.{MemberKind}
use Rattle.class_pool.specs.declared.classes.MemberKind.TheVariants.{Field, Method}
use Rattle.class_pool.specs.declared.faults.ClassCode.TheVariants.{PoolIndex, BadDescriptor, CodeBounds}
use Rattle.class_pool.specs.declared.faults.ClassFault.{ClassFault}
use Rattle.class_pool.specs.Items.{◌>>=◌, place_of, passing, number, bytes_of, many}
use Rattle.class_pool.specs.Pool.{entry_at, utf8_at, is_text, is_text_that}
use Rattle.class_pool.specs.Code.{has_dims_that, dims_at}
use Rattle.class_pool.specs.ClassOrder
use Rattle.jo_insn.specs.AccessFlags.{has_flag, static_flag}
use Rattle.class_pool.specs.ClassOrder.{class_index, text_index, fits_kind, read_head, skip_attribute, skip_attributes, is_named, fits_constant, field_attribute, field_attributes, read_field}
use Rattle.class_pool.specs.ClassGrammar.{SpellsEach, Attribute, SpellsAttribute, SpellsClassIndex, IsConstantValue, HasConstant, no_constant, not_constant, constant_value, SpellsField}
use Rattle.class_pool.specs.FirstFaultItems.{OneStops}
use Rattle.class_pool.specs.FirstFaultParts.{SpellsTextIndex, TextIndexStops, ClassIndexStops, IsDescOf, SpellsHead, HeadStops, AttributeStops, Attributes, IsConstant, ConstantStops, FieldAttributeStops, BehindConstants, FieldStops}
use Rattle.class_pool.proofs.GrammarNumbers.{IsReadAs, by_answer, ends, then_read, when, either, reads_more, joined, split, step, pass, number_read, number_again, bytes_read, bytes_again}
use Rattle.class_pool.proofs.GrammarPool.{text_decided, there_decided}
use Rattle.class_pool.proofs.GrammarParts.{named_decided, dims_decided, class_index_read, class_index_again, text_index_read, text_index_again, head_read, head_again, attribute_head_read, attribute_of, attribute_again, field_read, field_again}
use Rattle.class_pool.proofs.FirstFaultSteps.{StopsBy, Reads, never, reads_as, then_ok, part, check, regroup, either_one, either_other, cut, number_reads, many_reads, err_same, fails_first, goes_on, bytes_left}

kind_decided : (kind : MemberKind) (text : List ℕ) → Decides (fits_kind kind text) (IsDescOf kind text)
kind_decided Field text = field_decided text
kind_decided Method text = method_decided text

module _ (size : ℕ) (pool : List PoolEntry) where
  -- ---- indices and heads

  pub text_index_reads : Reads (text_index size pool) (SpellsTextIndex pool) (TextIndexStops size pool)
  text_index_reads = record {
    spelled = text_index_read pool size;
    spells = λ index rest text left parts h. text_index_again pool size index left (parts ∙ ap (λ (t : List ℕ). t ++ left) h.0) h.1 ((there_decided (utf8_at pool index)).1 h.2);
    stopped = λ rest bytes. part (number_reads size 2) rest bytes _ (λ index left t. check PoolIndex (place_of size rest) (is_text (utf8_at pool index)) (there_decided (utf8_at pool index)) (λ _. never));
  }

  pub class_index_reads : Reads (class_index size pool) (SpellsClassIndex pool) (ClassIndexStops size pool)
  class_index_reads = record {
    spelled = class_index_read pool size;
    spells = class_index_again pool size;
    stopped = λ rest bytes.
        part (number_reads size 2) rest bytes _ (λ index left t.
        check PoolIndex (place_of size rest) (has_dims_that (λ dims. dims == 0) (dims_at pool index)) (dims_decided pool {P = λ (n : ℕ). n ≡ 0} (λ n. Decides-eqb n 0) index) (λ _. never));
  }

  pub head_reads : (kind : MemberKind) → Reads (read_head size pool kind) (SpellsHead pool kind) (HeadStops size pool kind)
  unfolding read_head
  head_reads kind = record {
    spelled = λ rest bytes. reads_more (head_read pool size kind rest bytes) (λ head text h. record { spelled = h.spelled; flags = h.flags; name_index = h.name_index; desc_index = h.desc_index; name = h.name; desc = h.desc });
    spells = λ head rest text left parts h. head_again pool size kind head rest text left parts (record { spelled = h.spelled; flags = h.flags; name_index = h.name_index; desc_index = h.desc_index; name = h.name; desc = h.desc });
    stopped = λ rest bytes.
        part (number_reads size 2) rest bytes _ (λ flags at_name t.
        part text_index_reads at_name t.bytes _ (λ name at_desc u.
        part text_index_reads at_desc u.bytes _ (λ desc left v.
        check BadDescriptor (place_of size at_name) (is_text_that is_member_name (utf8_at pool name)) (text_decided member_decided (utf8_at pool name)) (λ _.
        check BadDescriptor (place_of size at_desc) (is_text_that (fits_kind kind) (utf8_at pool desc)) (text_decided (kind_decided kind) (utf8_at pool desc)) (λ _. never)))));
  }

  -- ---- attributes

  -- an attribute with its content, which reading steps over
  abbrev kept_attribute : List ℕ → Result (Attribute × List ℕ) ClassFault
  kept_attribute rest = text_index size pool rest >>= λ name. number size 4 name.1 >>= λ count. bytes_of size count.0 count.1 >>= λ content. Ok (record { name = name.0; content = content.0 }, content.1)

  pub attribute_reads : Reads kept_attribute (SpellsAttribute pool) (AttributeStops size pool)
  attribute_reads = record {
    spelled = λ rest bytes. attribute_head_read pool size _ rest bytes (λ name count at_length at_content t.
        then_read _ (bytes_read size count at_content t.bytes) (λ content left u. ends (record {
          text = t.text ++ u.text;
          parts = joined _ _ _ t.parts u.parts;
          spells = attribute_of pool t.spells u.spells;
          bytes = u.bytes;
        })));
    spells = λ attribute rest text left parts spelled. attribute_again pool size _ attribute left parts spelled (step _ (bytes_again size attribute.content left refl) refl);
    stopped = λ rest bytes.
        part text_index_reads rest bytes _ (λ name at_length t.
        part (number_reads size 4) at_length t.bytes _ (λ count at_content u.
        then_ok _ _ (cut size count at_content _)));
  }

  -- what stands behind
  abbrev rest_of : {X : Type 0} → Result (X × List ℕ) ClassFault → Result (List ℕ) ClassFault
  rest_of read = read >>= λ o. Ok o.1

  skipped_one : (rest : List ℕ) → skip_attribute size pool rest ≡ (kept_attribute rest >>= λ o. Ok (tt, o.1))
  unfolding skip_attribute
  skipped_one rest = by_answer (text_index size pool rest) (λ f failed. rw failed refl) (λ name named. rw named (
      by_answer (number size 4 name.1) (λ f failed. rw failed refl) (λ count counted. rw counted (
      by_answer (bytes_of size count.0 count.1) (λ f failed. rw failed refl) (λ content is. rw is refl)))))

  rest_behind : {X : Type 0} (x : X) (read : Result (List X × List ℕ) ClassFault) → rest_of (read >>= λ o. Ok (x ∷ o.0, o.1)) ≡ rest_of read
  rest_behind x (Ok o) = refl
  rest_behind x (Err f) = refl

  skipped_many : (n : ℕ) (rest : List ℕ) → rest_of (many (skip_attribute size pool) n rest) ≡ rest_of (many kept_attribute n rest)
  unfolding many
  skipped_many zero rest = refl
  skipped_many (suc n) rest = rw (skipped_one rest) (by_answer (kept_attribute rest) (λ f failed. rw failed refl) (λ o given. rw given (
      rest_behind tt (many (skip_attribute size pool) n o.1) ∙ skipped_many n o.1 ∙ sym (rest_behind o.0 (many kept_attribute n o.1)))))

  behind_rest : {X B : Type 0} (read : Result (X × List ℕ) ClassFault) (more : List ℕ → Result B ClassFault) → (rest_of read >>= more) ≡ (read >>= λ o. more o.1)
  behind_rest (Ok o) more = refl
  behind_rest (Err f) more = refl

  pub attributes_stop : {B : Type 0} {Next : List ℕ → ClassFault → Type 0} (rest : List ℕ) → AreBytes rest → (more : List ℕ → Result B ClassFault) → ((left : List ℕ) → AreBytes left → StopsBy (more left) (Next left))
      → StopsBy (skip_attributes size pool rest >>= more) (Attributes size pool rest Next)
  attributes_stop rest bytes more goes =
      regroup (number size 2 rest) (λ count. rest_of (many (skip_attribute size pool) count.0 count.1)) more
      (part (number_reads size 2) rest bytes _ (λ n items t.
      reads_as (ap (λ (r : Result (List ℕ) ClassFault). r >>= more) (skipped_many n items) ∙ behind_rest (many kept_attribute n items) more)
      (part (many_reads attribute_reads n) items t.bytes (λ o. more o.1) (λ attributes left u. goes left u.bytes))))

-- ---- one item more behind others

pub each_more : {X : Type 0} (Spells : X → List ℕ → Type 0) (before : List X) (x : X) (front text : List ℕ) → SpellsEach Spells before front → Spells x text → SpellsEach Spells (before ++ x ∷ []) (front ++ text)
each_more Spells [] x front text none one = (text, [], ap (λ (t : List ℕ). t ++ text) none ∙ sym (append-nil text), one, refl)
each_more Spells (y ∷ more) x front text (first, others, both, this, each) one =
    (first, others ++ text, ap (λ (t : List ℕ). t ++ text) both ∙ append_assoc first others text, this, each_more Spells more x others text each one)

pub one_longer : {X : Type 0} (before : List X) (x : X) (n : ℕ) → length (before ++ x ∷ []) + n ≡ length before + suc n
one_longer before x n = omega (arith, length-append before (x ∷ []))

-- ---- the constants of a field

-- no constant is known yet
abbrev is_fresh : Option ℕ → Bool
is_fresh None = true
is_fresh (Some constant) = false

fresh_decided : (known : Option ℕ) → Decides (is_fresh known) (known ≡ None)
fresh_decided None = (λ _. refl, λ _. refl)
fresh_decided (Some constant) = (λ e. absurd (cc), λ h. absurd (cc))

module _ (size : ℕ) (pool : List PoolEntry) (head : ℕ × ℕ × ℕ) where
  abbrev static : Bool
  static = has_flag static_flag head.0

  abbrev is_value : ℕ → Bool
  is_value name = static && is_named (codes "ConstantValue") (utf8_at pool name)

  value_decided : (name : ℕ) → Decides (is_value name) (IsConstant pool static name)
  value_decided name = Decides-and _ _ (λ e. e, λ e. e) (named_decided (codes "ConstantValue") (utf8_at pool name))

  abbrev fits : ℕ → Bool
  fits constant = is_text_that (λ text. fits_constant text (entry_at pool constant)) (utf8_at pool head.2)

  fits_decided : (constant : ℕ) → Decides (fits constant) (IsSomeAnd (utf8_at pool head.2) (λ text. fits_constant text (entry_at pool constant) ≡ true))
  fits_decided constant = text_decided (λ text. (λ e. e, λ e. e)) (utf8_at pool head.2)

  -- an attribute, its steps in a row
  abbrev of_value : Option ℕ → ℕ → ℕ → List ℕ → Result (Option ℕ × List ℕ) ClassFault
  of_value known place count rest = passing (count == 2 && is_fresh known) CodeBounds place (number size 2 rest >>= λ constant. passing (fits constant.0) PoolIndex (place_of size rest) (Ok (Some constant.0, constant.1)))

  abbrev of_other : Option ℕ → ℕ → List ℕ → Result (Option ℕ × List ℕ) ClassFault
  of_other known count rest = bytes_of size count rest >>= λ content. Ok (known, content.1)

  abbrev in_a_row : Option ℕ → List ℕ → Result (Option ℕ × List ℕ) ClassFault
  in_a_row known rest = text_index size pool rest >>= λ name. number size 4 name.1 >>= λ count. if is_value name.0 then of_value known (place_of size name.1) count.0 count.1 else of_other known count.0 count.1

  value_in_a_row : (known : Option ℕ) (place count : ℕ) (rest : List ℕ) → ClassOrder.constant_value size pool head.2 known place count rest ≡ of_value known place count rest
  value_in_a_row None place count rest = by_answer (number size 2 rest) (λ f failed. rw failed refl) (λ constant is. rw is refl)
  value_in_a_row (Some index) place count rest = by_answer (number size 2 rest) (λ f failed. rw failed refl) (λ constant is. rw is refl)

  attribute_in_a_row : (known : Option ℕ) (rest : List ℕ) → field_attribute size pool head known rest ≡ in_a_row known rest
  unfolding field_attribute
  attribute_in_a_row known rest = by_answer (text_index size pool rest) (λ f failed. rw failed refl) (λ name named. rw named (
      by_answer (number size 4 name.1) (λ f failed. rw failed refl) (λ count counted. rw counted (
      elim (cases_Bool (is_value name.0)) [
        | inl is ↦ rw is (value_in_a_row known (place_of size name.1) count.0 count.1)
        | inr other ↦ rw other (by_answer (bytes_of size count.0 count.1) (λ f failed. rw failed refl) (λ content is. rw is refl))
      ]))))

  value_stops : (known : Option ℕ) (place count : ℕ) (rest : List ℕ) → AreBytes rest → StopsBy (of_value known place count rest) (ConstantStops size pool head.2 known place count rest)
  value_stops known place count rest bytes =
      check CodeBounds place (count == 2 && is_fresh known) (Decides-and _ _ (Decides-eqb count 2) (fresh_decided known)) (λ _.
      part (number_reads size 2) rest bytes _ (λ constant left t.
      check PoolIndex (place_of size rest) (fits constant) (fits_decided constant) (λ _. never)))

  attribute_stops : (known : Option ℕ) (rest : List ℕ) → AreBytes rest → StopsBy (field_attribute size pool head known rest) (FieldAttributeStops size pool static head.2 known rest)
  attribute_stops known rest bytes = reads_as (attribute_in_a_row known rest) (
      part (text_index_reads size pool) rest bytes _ (λ name at_length t.
      part (number_reads size 4) at_length t.bytes _ (λ count content u.
      elim (cases_Bool (is_value name)) [
        | inl is ↦ either_one ((value_decided name).0 is) (rw is (value_stops known (place_of size at_length) count content u.bytes))
        | inr other ↦ either_other (not_from_Decides _ (value_decided name) other) (rw other (then_ok _ _ (cut size count content _)))
      ])))

  -- what an attribute adds to those before it
  abbrev Adds : Option ℕ → Option ℕ → List ℕ → Type 0
  Adds known told text = (attribute : Attribute) × SpellsAttribute pool attribute text × ((before : List Attribute) → HasConstant pool static head.2 before known → HasConstant pool static head.2 (before ++ attribute ∷ []) told)

  other_adds : (attribute : Attribute) → (IsConstant pool static attribute.name → ⊥) → {before : List Attribute} {known : Option ℕ} → HasConstant pool static head.2 before known → HasConstant pool static head.2 (before ++ attribute ∷ []) known
  other_adds attribute other no_constant = not_constant attribute [] None (λ is named. other (is, named)) no_constant
  other_adds attribute other (not_constant first more constant unlike has) = not_constant first (more ++ attribute ∷ []) constant unlike (other_adds attribute other has)
  other_adds attribute other (constant_value first more constant is named value has) = constant_value first (more ++ attribute ∷ []) constant is named value (other_adds attribute other has)

  value_adds : (attribute : Attribute) (value : ℕ) → IsConstant pool static attribute.name → IsConstantValue pool head.2 attribute value → {before : List Attribute} → HasConstant pool static head.2 before None
      → HasConstant pool static head.2 (before ++ attribute ∷ []) (Some value)
  value_adds attribute value is fits_it no_constant = constant_value attribute [] value is.0 is.1 fits_it no_constant
  value_adds attribute value is fits_it (not_constant first more constant unlike has) = not_constant first (more ++ attribute ∷ []) (Some value) unlike (value_adds attribute value is fits_it has)

  attribute_adds : (known : Option ℕ) (rest : List ℕ) → AreBytes rest → IsReadAs (Adds known) rest (in_a_row known rest)
  attribute_adds known rest bytes = attribute_head_read pool size _ rest bytes (λ name count at_length content t.
      either (is_value name)
      (λ is. when (count == 2 && is_fresh known) CodeBounds (place_of size at_length) (λ fresh.
      then_read _ (number_read size 2 content t.bytes) (λ value left u.
      when (fits value) PoolIndex (place_of size content) (λ fit.
      let both = (Decides-and (count == 2) (is_fresh known) (Decides-eqb count 2) (fresh_decided known)).0 fresh in
      let attribute : Attribute = record { name = name; content = u.text } in
      ends (record {
        text = t.text ++ u.text;
        parts = joined _ _ _ t.parts u.parts;
        spells = (
          attribute,
          attribute_of pool t.spells (refl, ap length u.spells.0 ∙ sym both.0),
          λ before has. value_adds attribute value ((value_decided name).0 is) (u.spells.0, u.spells.1, (fits_decided value).0 fit) (subst (HasConstant pool static head.2 before) both.1 has),
        );
        bytes = u.bytes;
      })))))
      (λ other.
      then_read _ (bytes_read size count content t.bytes) (λ bytes_there left u. ends (record {
        text = t.text ++ u.text;
        parts = joined _ _ _ t.parts u.parts;
        spells = (record { name = name; content = bytes_there }, attribute_of pool t.spells u.spells, λ before has. other_adds (record { name = name; content = bytes_there }) (not_from_Decides _ (value_decided name) other) has);
        bytes = u.bytes;
      }))))

  constants_found : (n : ℕ) (known : Option ℕ) (before : List Attribute) (front rest whole : List ℕ) (f : ClassFault) → whole ≡ front ++ rest → AreBytes rest → SpellsEach (SpellsAttribute pool) before front → HasConstant pool static head.2 before known
      → field_attributes size pool head n known rest ≡ Err f → OneStops (SpellsAttribute pool) (BehindConstants size pool static head.2) (length before + n) whole f
  unfolding field_attributes
  constants_found zero known before front rest whole f parts bytes each has is = absurd (cc)
  constants_found (suc n) known before front rest whole f parts bytes each has is = by_answer (field_attribute size pool head known rest)
      (λ g failed. let same : g ≡ f = err_same (rw failed at is) in record {
        before = before;
        text = front;
        left = rest;
        parts = parts;
        spelled = each;
        fewer = omega arith;
        next = (known, has, (attribute_stops known rest bytes).found f (failed ∙ ap Err same));
      })
      (λ o given.
      let t = (attribute_adds known rest bytes).takes o (sym (attribute_in_a_row known rest) ∙ given) in
      let (attribute, spelled, adds) = t.spells in
      subst (λ (m : ℕ). OneStops (SpellsAttribute pool) (BehindConstants size pool static head.2) m whole f) (one_longer before attribute n)
      (constants_found n o.0 (before ++ attribute ∷ []) (front ++ t.text) o.1 whole f (joined front t.text o.1 parts t.parts) t.bytes (each_more (SpellsAttribute pool) before attribute front t.text each spelled) (adds before has) (rw given at is)))

  other_again : (known : Option ℕ) (attribute : Attribute) (rest text left : List ℕ) → rest ≡ text ++ left → SpellsAttribute pool attribute text → (IsConstant pool static attribute.name → ⊥) → field_attribute size pool head known rest ≡ Ok (known, left)
  other_again known attribute rest text left parts spelled other =
      attribute_in_a_row known rest ∙ attribute_again pool size _ attribute left parts spelled
      (rw (false_from_ne_true _ (λ is. other ((value_decided attribute.name).0 is)), bytes_again size attribute.content left refl) refl)

  value_again : (value : ℕ) (attribute : Attribute) (rest text left : List ℕ) → rest ≡ text ++ left → SpellsAttribute pool attribute text → IsConstant pool static attribute.name → IsConstantValue pool head.2 attribute value
      → field_attribute size pool head None rest ≡ Ok (Some value, left)
  value_again value attribute rest text left parts spelled is (content_is, small, fit) =
      let two : (length attribute.content == 2 && true) ≡ true = rw content_is refl in
      attribute_in_a_row None rest ∙ attribute_again pool size _ attribute left parts spelled
      (rw ((value_decided attribute.name).1 is) (pass _ _ two (step _ (number_again size 2 value left (ap (λ (t : List ℕ). t ++ left) content_is) small) (pass _ _ ((fits_decided value).1 fit) refl))))

  -- behind attributes that have a constant or none
  kept_again : {before : List Attribute} → HasConstant pool static head.2 before None → (known : Option ℕ) (n k : ℕ) (rest text left : List ℕ) → n ≡ length before + k → rest ≡ text ++ left → SpellsEach (SpellsAttribute pool) before text
      → field_attributes size pool head n known rest ≡ field_attributes size pool head k known left
  unfolding field_attributes
  kept_again no_constant known n k rest text left count parts none =
      let same : n ≡ k = omega (arith, count) in
      ap (λ (m : ℕ). field_attributes size pool head m known rest) same ∙ ap (field_attributes size pool head k known) (parts ∙ ap (λ (t : List ℕ). t ++ left) none)
  kept_again (not_constant attribute more constant other has) known zero k rest text left count parts each = absurd (omega (arith, count))
  kept_again (not_constant attribute more constant other has) known (suc n) k rest text left count parts (first, others, both, one, each) =
      goes_on _ (other_again known attribute rest first (others ++ left) (split first others left parts both) one (λ is. other is.0 is.1)) (kept_again has known n k (others ++ left) others left (omega (arith, count)) refl each)

  constants_again : {before : List Attribute} {known : Option ℕ} → HasConstant pool static head.2 before known → (n k : ℕ) (rest text left : List ℕ) → n ≡ length before + k → rest ≡ text ++ left → SpellsEach (SpellsAttribute pool) before text
      → field_attributes size pool head n None rest ≡ field_attributes size pool head k known left
  unfolding field_attributes
  constants_again no_constant n k rest text left count parts none = kept_again no_constant None n k rest text left count parts none
  constants_again (not_constant attribute more constant other has) zero k rest text left count parts each = absurd (omega (arith, count))
  constants_again (not_constant attribute more constant other has) (suc n) k rest text left count parts (first, others, both, one, each) =
      goes_on _ (other_again None attribute rest first (others ++ left) (split first others left parts both) one (λ is. other is.0 is.1)) (constants_again has n k (others ++ left) others left (omega (arith, count)) refl each)
  constants_again (constant_value attribute more value is named fits_it has) zero k rest text left count parts each = absurd (omega (arith, count))
  constants_again (constant_value attribute more value is named fits_it has) (suc n) k rest text left count parts (first, others, both, one, each) =
      goes_on _ (value_again value attribute rest first (others ++ left) (split first others left parts both) one (is, named) fits_it) (kept_again has (Some value) n k (others ++ left) others left (omega (arith, count)) refl each)

  constants_stop : (n : ℕ) (rest : List ℕ) → AreBytes rest → StopsBy (field_attributes size pool head n None rest) (OneStops (SpellsAttribute pool) (BehindConstants size pool static head.2) n rest)
  unfolding field_attributes
  constants_stop n rest bytes =
      let none : 0 + n ≡ n = omega arith in
      record {
        found = λ f is. subst (λ (m : ℕ). OneStops (SpellsAttribute pool) (BehindConstants size pool static head.2) m rest f) none (constants_found n None [] [] rest rest f refl bytes refl no_constant is);
        again = λ f one.
            let (known, has, next) = one.next in
            let k : ℕ = n - suc (length one.before) in
            constants_again has n (suc k) rest one.text one.left (omega (arith, one.fewer)) one.parts one.spelled
            ∙ fails_first _ ((attribute_stops known one.left (bytes_left rest one.text one.left one.parts bytes)).again f next);
      }

pub field_reads : (size : ℕ) (pool : List PoolEntry) → Reads (read_field size pool) (SpellsField pool) (FieldStops size pool)
unfolding read_field
field_reads size pool = record {
  spelled = field_read pool size;
  spells = field_again pool size;
  stopped = λ rest bytes.
      part (head_reads size pool Field) rest bytes _ (λ head at_count t.
      part (number_reads size 2) at_count t.bytes _ (λ n attributes u.
      then_ok _ _ (constants_stop size pool head n attributes u.bytes)));
}

pub field_fault : (size : ℕ) (pool : List PoolEntry) (rest : List ℕ) (f : ClassFault) → AreBytes rest → (read_field size pool rest ≡ Err f) ↔ FieldStops size pool rest f
field_fault size pool rest f bytes = let by = (field_reads size pool).stopped rest bytes in (by.found f, by.again f)

-- The whole class: what is read is spelled so, and what is spelled so is read.
use Rattle.std.proofs.Common.{◌≡◌, ◌↔◌, ℕ, ◌+◌, ◌^◌, ◌<◌, ◌≤◌, nat_le, true, ◌&&◌, ◌==◌, List, [], ◌++◌, length, Result, Ok, Err, refl, sym, ap, subst, ◌∙◌, append_assoc, arith}
use Rattle.std.specs.List.{AllByRecursion}
use Rattle.std.proofs.lemmas.Bool.{and_parts, and_from, eqb-true, leb-true, le-leb}
use Rattle.std.proofs.lemmas.List.{append-nil, nil_from_length}
use Rattle.jo_insn.proofs.Numbers.{AreBytes, are_bytes}
use Rattle.class_pool.specs.declared.entries.PoolEntry.{PoolEntry}
use Rattle.class_pool.specs.declared.classes.ClassFile.{ClassFile}
use Rattle.class_pool.specs.declared.faults.ClassFault.{ClassFault}
use Rattle.class_pool.specs.ClassOrder.{class_index, skip_attributes, read_field, read_method, read_behind, class_of}
use Rattle.class_pool.specs.ClassGrammar.{u2, u4, SpellsCounted, AreAttributes, SpellsField, SpellsMethod, IsClassIndex, SpellsClassIndex, IsClass}
use Rattle.class_pool.proofs.GrammarNumbers.{Takes, Yields, yields, yields_more, after, ends, then_read, when, joined, step, pass, number_read, number_again}
use Rattle.class_pool.proofs.GrammarMany.{counted_read, counted_again}
use Rattle.class_pool.proofs.GrammarPool.{SpellsPool, pool_read, pool_again}
use Rattle.class_pool.proofs.GrammarParts.{class_index_read, class_index_again, attributes_read, attributes_again, field_read, field_again}
use Rattle.class_pool.proofs.GrammarMethods.{method_read, method_again}

-- ---- behind the pool

-- the class has that version and pool, and these bytes, up to the end, spell the rest of it
record SpellsBehind (version : ℕ × ℕ) (pool : List PoolEntry) (bytes : List ℕ) (c : ClassFile) : Type 0 where
  interface_bytes : List ℕ
  field_bytes : List ℕ
  method_bytes : List ℕ
  attribute_bytes : List ℕ
  minor : c.minor ≡ version.0
  major : c.major ≡ version.1
  same_pool : c.pool ≡ pool
  spelled : bytes ≡ u2 c.flags ++ u2 c.this_class ++ u2 c.super_class ++ interface_bytes ++ field_bytes ++ method_bytes ++ attribute_bytes
  flags : c.flags < 2 ^ 16
  this_class : IsClassIndex c.pool c.this_class
  super_class : IsClassIndex c.pool c.super_class
  interfaces : SpellsCounted (SpellsClassIndex c.pool) c.interfaces interface_bytes
  fields : SpellsCounted (SpellsField c.pool) c.fields field_bytes
  methods : SpellsCounted (SpellsMethod c.pool) c.methods method_bytes
  attributes : AreAttributes c.pool attribute_bytes

module _ (size : ℕ) (version : ℕ × ℕ) (pool : List PoolEntry) where
  behind_read : (rest : List ℕ) → AreBytes rest → Yields (SpellsBehind version pool rest) (read_behind size version pool rest)
  unfolding read_behind
  behind_read rest bytes =
      then_read _ (number_read size 2 rest bytes) (λ flags r1 t1.
      then_read _ (class_index_read pool size r1 t1.bytes) (λ this_class r2 t2.
      then_read _ (class_index_read pool size r2 t2.bytes) (λ super_class r3 t3.
      counted_read (class_index size pool) (SpellsClassIndex pool) (class_index_read pool size) size r3 _ t3.bytes (λ interfaces r4 t4.
      counted_read (read_field size pool) (SpellsField pool) (field_read pool size) size r4 _ t4.bytes (λ fields r5 t5.
      counted_read (read_method size pool) (SpellsMethod pool) (method_read size pool) size r5 _ t5.bytes (λ methods r6 t6.
      after (skip_attributes size pool r6) _ (λ end is.
      let t7 = (attributes_read pool size r6 t6.bytes).takes end is in
      when (length end == 0) _ _ (λ none.
      let text : List ℕ = t1.text ++ t2.text ++ t3.text ++ t4.text ++ t5.text ++ t6.text ++ t7.text in
      let same : text ≡ u2 flags ++ u2 this_class ++ u2 super_class ++ t4.text ++ t5.text ++ t6.text ++ t7.text = cc (t1.spells.0, t2.spells.0, t3.spells.0) in
      let nothing : end ≡ [] = nil_from_length end (eqb-true (length end) 0 none) in
      let to_end : rest ≡ text ++ end = joined _ t7.text end (joined _ _ _ (joined _ _ _ (joined _ _ _ (joined _ _ _ (joined _ _ _ t1.parts t2.parts) t3.parts) t4.parts) t5.parts) t6.parts) t7.parts in
      yields (record {
        interface_bytes = t4.text;
        field_bytes = t5.text;
        method_bytes = t6.text;
        attribute_bytes = t7.text;
        minor = refl;
        major = refl;
        same_pool = refl;
        spelled = to_end ∙ ap (λ (e : List ℕ). text ++ e) nothing ∙ append-nil text ∙ same;
        flags = t1.spells.1;
        this_class = t2.spells.1;
        super_class = t3.spells.1;
        interfaces = t4.spells;
        fields = t5.spells;
        methods = t6.spells;
        attributes = t7.spells;
      })))))))))

-- ---- the whole file

abbrev SpellsVersion : ℕ × ℕ → List ℕ → Type 0
SpellsVersion version text = (text ≡ u2 version.0 ++ u2 version.1) × (version.0 < 2 ^ 16) × ((45 ≤ version.1) × (version.1 ≤ 52))

one_file : {file r2 r3 r4 : List ℕ} (magic version count entries f g h i j k l : List ℕ) → file ≡ magic ++ r2 → r2 ≡ version ++ r3 → r3 ≡ (count ++ entries) ++ r4 → r4 ≡ f ++ g ++ h ++ i ++ j ++ k ++ l
    → file ≡ magic ++ version ++ count ++ entries ++ f ++ g ++ h ++ i ++ j ++ k ++ l
one_file magic version count entries f g h i j k l at_version at_pool behind_pool last =
    at_version ∙ ap (λ (r : List ℕ). magic ++ r) (at_pool ∙ ap (λ (r : List ℕ). version ++ r) (behind_pool ∙ ap (λ (r : List ℕ). (count ++ entries) ++ r) last)) ∙ simp append_assoc

module _ (file : List ℕ) (version : ℕ × ℕ) (pool : List PoolEntry) (r2 r3 r4 : List ℕ) where
  class_is : file ≡ u4 0xcafebabe ++ r2 → Takes SpellsVersion r2 version r3 → Takes SpellsPool r3 pool r4 → (c : ClassFile) → SpellsBehind version pool r4 c → IsClass file c
  class_is front v p c h =
      let (entries, parts, short, spelled, refer) = subst (λ (these : List PoolEntry). SpellsPool these p.text) (sym h.same_pool) p.spells in
      let of_version : r2 ≡ (u2 c.minor ++ u2 c.major) ++ r3 = cc (v.parts, v.spells.0, h.minor, h.major) in
      let of_pool : r3 ≡ (u2 (length c.pool + 1) ++ entries) ++ r4 = p.parts ∙ ap (λ (t : List ℕ). t ++ r4) parts in
      record {
        pool_bytes = entries;
        interface_bytes = h.interface_bytes;
        field_bytes = h.field_bytes;
        method_bytes = h.method_bytes;
        attribute_bytes = h.attribute_bytes;
        spelled = one_file (u4 0xcafebabe) (u2 c.minor ++ u2 c.major) (u2 (length c.pool + 1)) entries (u2 c.flags) (u2 c.this_class) (u2 c.super_class) h.interface_bytes h.field_bytes h.method_bytes h.attribute_bytes front of_version of_pool h.spelled;
        minor = subst (λ (n : ℕ). n < 2 ^ 16) (sym h.minor) v.spells.1;
        oldest = subst (λ (n : ℕ). 45 ≤ n) (sym h.major) v.spells.2.0;
        newest = subst (λ (n : ℕ). n ≤ 52) (sym h.major) v.spells.2.1;
        pool_length = short;
        pool_spelled = spelled;
        references = refer;
        flags = h.flags;
        this_class = h.this_class;
        super_class = h.super_class;
        interfaces = h.interfaces;
        fields = h.fields;
        methods = h.methods;
        attributes = h.attributes;
      }

within : (major : ℕ) → (nat_le 45 major && nat_le major 52) ≡ true → (45 ≤ major) × (major ≤ 52)
within major is = let both = and_parts (nat_le 45 major) (nat_le major 52) is in (leb-true 45 major both.0, leb-true major 52 both.1)

class_read : (file : List ℕ) → AreBytes file → Yields (IsClass file) (class_of file)
unfolding class_of
class_read file bytes =
    let size : ℕ = length file in
    then_read _ (number_read size 4 file bytes) (λ magic r2 t1.
    then_read {Spells = λ version text. (magic ≡ 0xcafebabe) × SpellsVersion version text} {rest = r2} _
    (when (magic == 0xcafebabe) _ _ (λ is.
    then_read _ (number_read size 2 r2 t1.bytes) (λ minor middle t.
    then_read _ (number_read size 2 middle t.bytes) (λ major left u.
    when (nat_le 45 major && nat_le major 52) _ _ (λ known. ends (record {
      text = t.text ++ u.text;
      parts = joined _ _ _ t.parts u.parts;
      spells = (eqb-true magic 0xcafebabe is, (cc (t.spells.0, u.spells.0), t.spells.1, within major known));
      bytes = u.bytes;
    })))))) (λ version r3 t2.
    then_read _ (pool_read size r3 t2.bytes) (λ pool r4 t3.
    let front : file ≡ u4 0xcafebabe ++ r2 = cc (t1.parts, t1.spells.0, t2.spells.0) in
    let behind_magic : Takes SpellsVersion r2 version r3 = record { text = t2.text; parts = t2.parts; spells = t2.spells.1; bytes = t2.bytes } in
    yields_more (behind_read size version pool r4 t3.bytes) (class_is file version pool r2 r3 r4 front behind_magic t3))))

-- ---- what is spelled so is read

four_in_a_row : (i j k l : List ℕ) → i ++ j ++ k ++ l ≡ i ++ (j ++ (k ++ l))
four_in_a_row i j k l = simp append_assoc

parts_of_file : (magic version count entries f g h i j k l : List ℕ) → magic ++ version ++ count ++ entries ++ f ++ g ++ h ++ i ++ j ++ k ++ l ≡ (magic ++ version ++ (count ++ entries)) ++ (f ++ g ++ h ++ (i ++ j ++ k ++ l))
parts_of_file magic version count entries f g h i j k l = simp append_assoc

module _ (file : List ℕ) (c : ClassFile) (h : IsClass file c) where
  -- what stands behind the indices, and behind the pool
  abbrev others : List ℕ
  others = h.interface_bytes ++ h.field_bytes ++ h.method_bytes ++ h.attribute_bytes

  abbrev behind_pool : List ℕ
  behind_pool = u2 c.flags ++ u2 c.this_class ++ u2 c.super_class ++ others

  behind_again : (size : ℕ) → read_behind size (c.minor, c.major) c.pool behind_pool ≡ Ok c
  unfolding read_behind
  behind_again size =
      let behind_fields : List ℕ = h.method_bytes ++ h.attribute_bytes in
      let behind_interfaces : List ℕ = h.field_bytes ++ behind_fields in
      let in_a_row = four_in_a_row h.interface_bytes h.field_bytes h.method_bytes h.attribute_bytes in
      step _ (number_again size 2 c.flags (u2 c.this_class ++ u2 c.super_class ++ others) refl h.flags)
      (step _ (class_index_again c.pool size c.this_class (u2 c.this_class ++ u2 c.super_class ++ others) (u2 c.this_class) (u2 c.super_class ++ others) refl (refl, h.this_class))
      (step _ (class_index_again c.pool size c.super_class (u2 c.super_class ++ others) (u2 c.super_class) others refl (refl, h.super_class))
      (counted_again (class_index size c.pool) (SpellsClassIndex c.pool) (class_index_again c.pool size) size c.interfaces others h.interface_bytes behind_interfaces _ in_a_row h.interfaces
      (counted_again (read_field size c.pool) (SpellsField c.pool) (field_again c.pool size) size c.fields behind_interfaces h.field_bytes behind_fields _ refl h.fields
      (counted_again (read_method size c.pool) (SpellsMethod c.pool) (method_again size c.pool) size c.methods behind_fields h.method_bytes h.attribute_bytes _ refl h.methods
      (step _ (attributes_again c.pool size h.attribute_bytes h.attribute_bytes [] (sym (append-nil _)) h.attributes) refl))))))

  pub class_again : class_of file ≡ Ok c
  unfolding class_of
  class_again =
      let size : ℕ = length file in
      let version : List ℕ = u2 c.minor ++ u2 c.major in
      let count : List ℕ = u2 (length c.pool + 1) in
      let at_pool : List ℕ = (count ++ h.pool_bytes) ++ behind_pool in
      let whole : file ≡ u4 0xcafebabe ++ (version ++ at_pool) =
      h.spelled ∙ parts_of_file (u4 0xcafebabe) version count h.pool_bytes (u2 c.flags) (u2 c.this_class) (u2 c.super_class) h.interface_bytes h.field_bytes h.method_bytes h.attribute_bytes in
      let known = and_from (nat_le 45 c.major) (nat_le c.major 52) (le-leb 45 c.major h.oldest) (le-leb c.major 52 h.newest) in
      step _ (number_again size 4 0xcafebabe (version ++ at_pool) whole (omega arith))
      (step _ (step _ (number_again size 2 c.minor (u2 c.major ++ at_pool) refl h.minor) (step _ (number_again size 2 c.major at_pool refl (omega (arith, h.newest))) (pass _ _ known refl)))
      (step _ (pool_again size c.pool at_pool (count ++ h.pool_bytes) behind_pool refl (h.pool_bytes, refl, h.pool_length, h.pool_spelled, h.references)) (behind_again size)))

pub reading_is_the_grammar : (file : List ℕ) (class : ClassFile) → AllByRecursion (λ byte. byte < 2 ^ 8) file → (class_of file ≡ Ok class) ↔ IsClass file class
reading_is_the_grammar file class all = ((class_read file (are_bytes file all)).takes class, class_again file class)

abbrev read_or : ClassFile → Result ClassFile ClassFault → ClassFile
read_or other (Ok class) = class
read_or other (Err fault) = other

-- bytes are those of at most one class
pub one_class : (file : List ℕ) (one other : ClassFile) → IsClass file one → IsClass file other → one ≡ other
one_class file one other h k = ap (read_or one) (sym (class_again file one h) ∙ class_again file other k)

-- a file with a fault is that of no class
pub no_class : (file : List ℕ) (f : ClassFault) → class_of file ≡ Err f → (class : ClassFile) → IsClass file class → ⊥
no_class file f failed class h = let wrong : Ok class ≡ Err f = sym (class_again file class h) ∙ failed in absurd (cc)

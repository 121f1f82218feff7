-- The canonical spelling of what was read as a class is that of the same class.
use Rattle.std.proofs.Common.{◌≡◌, ℕ, zero, suc, ◌+◌, ◌*◌, ◌^◌, ◌<◌, inl, inr, Bool, true, List, [], ◌∷◌, ◌++◌, length, Option, Some, None, refl, sym, ap, subst, ◌∙◌, arith, length-append}
use Rattle.std.specs.Prelude.{codes, IsSomeAnd, slice_get}
use Rattle.std.specs.List.{AllByRecursion, flat_map}
use Rattle.std.proofs.lemmas.Bool.{cases_Bool}
use Rattle.std.proofs.lemmas.Slice.Eq.{bytes_eq-Decides}
use Rattle.std.proofs.lemmas.List.{append-nil}
use Rattle.jo_insn.proofs.Numbers.{are_bytes}
use Rattle.class_pool.specs.declared.entries.PoolEntry.{PoolEntry}
use Rattle.class_pool.specs.declared.entries.PoolEntry.TheVariants.{Second, Utf8, Integer, Float, Long, Double, Class, Text, FieldRef, MethodRef, InterfaceMethodRef, NameAndType, MethodHandle, MethodType, InvokeDynamic}
use Rattle.class_pool.specs.declared.classes.ClassFile.{ClassFile}
use Rattle.class_pool.specs.declared.classes.FieldInfo.{FieldInfo}
use Rattle.class_pool.specs.declared.classes.MethodInfo.{MethodInfo}
use Rattle.class_pool.specs.declared.classes.CodeInfo.{CodeInfo}
use Rattle.class_pool.specs.declared.classes.RowInfo.{RowInfo}
use Rattle.class_pool.specs.Pool.{utf8_of, utf8_at, entry_at}
use Rattle.class_pool.specs.Code.{canonical_code}
use Rattle.jo_insn.specs.AccessFlags.{has_flag, static_flag}
use Rattle.class_pool.specs.ClassOrder.{fits_constant}
use Rattle.class_pool.specs.Writing.{spelled_entry}
use Rattle.class_pool.specs.ClassGrammar.{u2, u4, SpellsEach, SpellsEntry, SpellsEntries, no_entry, single, twofold, Attribute, SpellsAttribute, SpellsAttributes, HasConstant, no_constant, not_constant, constant_value, SpellsField, SpellsRow, SpellsCode, HasCodes, no_code, not_code, code_attribute, codes_in, SpellsMethod, SpellsClassIndex, IsClass}
use Rattle.class_pool.specs.Fitting.{HasText, FitsContent}
use Rattle.class_write.specs.Spelling.{is_text_of, index_from, text_index, counted, spelled_constant, spelled_field, spelled_row, code_size, spelled_content, spelled_code, spelled_method, spelled_class}
use Rattle.class_pool.proofs.KeptSizes.{kept_length}
use Rattle.class_pool.proofs.KeptAgain.{again, all_same, code_same, jumps_again, rows_again}
use Rattle.class_pool.proofs.GrammarFits.{each_so, pool_fits, content_fits}
use Rattle.class_pool.proofs.GrammarBytes.{AllBytes, bytes_behind, InBytes, each_in_bytes, code_bytes, contents_bytes, methods_bytes}

-- ---- the first entry that spells a text

-- an entry of the text is found, the first one
record IsFound (k : ℕ) (text : List ℕ) (pool : List PoolEntry) : Type 0 where
  place : ℕ
  is : index_from k text pool ≡ k + place
  inside : place < length pool
  spells : utf8_of (slice_get pool place) ≡ Some text

spells_text : (text : List ℕ) (entry : PoolEntry) → is_text_of text entry ≡ true → utf8_of (Some entry) ≡ Some text
spells_text text (Utf8 other) is = ap Some ((bytes_eq-Decides other text).0 is)
spells_text text _ is = absurd (cc)

is_spelled : (text : List ℕ) (entry : PoolEntry) → utf8_of (Some entry) ≡ Some text → is_text_of text entry ≡ true
is_spelled text (Utf8 other) is = (bytes_eq-Decides other text).1 (cc)
is_spelled text _ is = absurd (cc)

found : (k : ℕ) (text : List ℕ) (pool : List PoolEntry) (n : ℕ) → utf8_of (slice_get pool n) ≡ Some text → IsFound k text pool
found k text [] n is = absurd (cc)
found k text (entry ∷ more) zero is = let here = is_spelled text entry is in record { place = 0; is = rw here (omega arith); inside = omega arith; spells = is }
found k text (entry ∷ more) (suc n) is = elim (cases_Bool (is_text_of text entry)) [
  | inl here ↦ record { place = 0; is = rw here (omega arith); inside = omega arith; spells = spells_text text entry here }
  | inr other ↦
      let later = found (suc k) text more n is in
      let next : index_from (suc k) text more ≡ suc k + later.place = later.is in
      let inside : later.place < length more = later.inside in
      record { place = suc later.place; is = rw other (omega arith); inside = omega arith; spells = later.spells }
]

-- the index of a text that the pool has
record IsIndex (pool : List PoolEntry) (text : List ℕ) : Type 0 where
  below : text_index pool text < 2 ^ 16
  spells : utf8_at pool (text_index pool text) ≡ Some text

index_right : (pool : List PoolEntry) (text : List ℕ) → length pool < 65535 → HasText pool text → IsIndex pool text
index_right pool text few (zero, is) = absurd (cc)
index_right pool text few (suc n, is) =
    let first = found 1 text pool n is in
    let place : text_index pool text ≡ suc first.place = first.is ∙ omega arith in
    let inside : first.place < length pool = first.inside in
    record { below = omega arith; spells = ap (utf8_at pool) place ∙ first.spells }

-- ---- items, one after another

each_again : {X : Type 0} (Spells : X → List ℕ → Type 0) (spelled : X → List ℕ) (xs : List X) → AllByRecursion (λ (x : X). Spells x (spelled x)) xs → SpellsEach Spells xs (flat_map spelled xs)
each_again Spells spelled [] all = refl
each_again Spells spelled (x ∷ xs) all = (spelled x, flat_map spelled xs, refl, all.0, each_again Spells spelled xs all.1)

one_attribute : (pool : List PoolEntry) (attribute : Attribute) (bytes : List ℕ) → SpellsAttribute pool attribute bytes → SpellsAttributes pool (attribute ∷ []) (u2 1 ++ bytes)
one_attribute pool attribute bytes spells = (bytes, refl, omega arith, (bytes, [], sym (append-nil bytes), spells, refl))

attribute_named : (pool : List PoolEntry) (text content : List ℕ) → length pool < 65535 → HasText pool text → length content < 2 ^ 32
    → SpellsAttribute pool (record { name = text_index pool text; content = content }) (u2 (text_index pool text) ++ u4 (length content) ++ content)
attribute_named pool text content few has short =
    let index = index_right pool text few has in
    (refl, index.below, short, rw index.spells tt)

no_attribute : (pool : List PoolEntry) → SpellsAttributes pool [] (u2 0)
no_attribute pool = ([], refl, omega arith, refl)

-- ---- the pool

entry_again : (entry : PoolEntry) (bytes : List ℕ) → SpellsEntry entry bytes → bytes ≡ spelled_entry entry
entry_again Second bytes h = absurd h
entry_again (Utf8 text) bytes h = h.0
entry_again (Integer n) bytes h = h.0
entry_again (Float bits) bytes h = h.0
entry_again (Long bits) bytes h = h.0
entry_again (Double bits) bytes h = h.0
entry_again (Class name) bytes h = h.0
entry_again (Text text) bytes h = h.0
entry_again (FieldRef class type) bytes h = h.0
entry_again (MethodRef class type) bytes h = h.0
entry_again (InterfaceMethodRef class type) bytes h = h.0
entry_again (NameAndType name desc) bytes h = h.0
entry_again (MethodHandle kind target) bytes h = h.0
entry_again (MethodType desc) bytes h = h.0
entry_again (InvokeDynamic method type) bytes h = h.0

entries_again : {entries : List PoolEntry} {bytes : List ℕ} → SpellsEntries entries bytes → bytes ≡ flat_map spelled_entry entries
entries_again no_entry = refl
entries_again (single entry more first rest one h others) = rw (entry_again entry first h, entries_again others) refl
entries_again (twofold entry more first rest two h others) = rw (entry_again entry first h, entries_again others) refl

-- ---- fields

abbrev ConstantFacts : List PoolEntry → Bool → ℕ → Option ℕ → Type 0
ConstantFacts pool static desc None = Unit {0}
ConstantFacts pool static desc (Some constant) = HasText pool (codes "ConstantValue") × (static ≡ true) × (constant < 2 ^ 16) × IsSomeAnd (utf8_at pool desc) (λ text. fits_constant text (entry_at pool constant) ≡ true)

constant_facts : {pool : List PoolEntry} {static : Bool} {desc : ℕ} {attributes : List Attribute} {constant : Option ℕ} → HasConstant pool static desc attributes constant → ConstantFacts pool static desc constant
constant_facts no_constant = tt
constant_facts (not_constant attribute more constant other has) = constant_facts has
constant_facts (constant_value attribute more constant is named value has) = ((attribute.name, named), is, value.1, value.2)

-- attributes that have the constant, and are spelled so
abbrev ConstantAgain : List PoolEntry → Bool → ℕ → Option ℕ → Type 0
ConstantAgain pool static desc constant = (attributes : List Attribute) × SpellsAttributes pool attributes (spelled_constant pool constant) × HasConstant pool static desc attributes constant

constant_again : (pool : List PoolEntry) (static : Bool) (desc : ℕ) (constant : Option ℕ) → length pool < 65535 → ConstantFacts pool static desc constant → ConstantAgain pool static desc constant
constant_again pool static desc None few facts = ([], no_attribute pool, no_constant)
constant_again pool static desc (Some constant) few (named, is, fits, right) =
    let name : List ℕ = codes "ConstantValue" in
    let index = index_right pool name few named in
    let attribute : Attribute = record { name = text_index pool name; content = u2 constant } in
    (attribute ∷ [], one_attribute pool attribute _ (attribute_named pool name (u2 constant) few named (omega arith)), constant_value attribute [] constant is index.spells (refl, fits, right) no_constant)

field_again : (pool : List PoolEntry) → length pool < 65535 → (f : FieldInfo) (bytes : List ℕ) → SpellsField pool f bytes → SpellsField pool f (spelled_field pool f)
field_again pool few f bytes h =
    let (attributes, spelled, has) = constant_again pool (has_flag static_flag f.flags) f.desc f.constant few (constant_facts h.constant) in
    record {
      attributes = attributes;
      others = spelled_constant pool f.constant;
      spelled = refl;
      flags = h.flags;
      name_index = h.name_index;
      desc_index = h.desc_index;
      name = h.name;
      desc = h.desc;
      attributes_spelled = spelled;
      constant = has;
    }

-- ---- methods

row_again : (row : RowInfo) (bytes : List ℕ) → SpellsRow row bytes → SpellsRow row (spelled_row row)
row_again row bytes (spelled, start, end, handler, catch_type) = (refl, start, end, handler, catch_type)

rows_length : (rows : List RowInfo) → length (flat_map spelled_row rows) ≡ 8 * length rows
rows_length [] = refl
rows_length (row ∷ rows) = let rest = rows_length rows in let both = length-append (spelled_row row) (flat_map spelled_row rows) in omega arith

content_length : (c : CodeInfo) → length (spelled_content c) ≡ code_size c
content_length c =
    let rows = rows_length c.rows in
    let limits : List ℕ = u2 c.max_stack ++ u2 c.max_locals ++ u4 (length c.bytes) in
    let one = length-append (limits ++ c.bytes) (counted spelled_row c.rows) in
    let two = length-append (limits ++ c.bytes ++ counted spelled_row c.rows) (u2 0) in
    omega arith

content_again : (pool : List PoolEntry) (c : CodeInfo) (content : List ℕ) → AllBytes content → SpellsCode pool c content → SpellsCode pool c (spelled_content c)
content_again pool c content all h =
    let code : List ℕ = h.code in
    let bytes = are_bytes code (code_bytes pool c content all h) in
    let (items, both, few, each) = h.rows_spelled in
    let rows = each_so SpellsRow (λ (row : RowInfo). SpellsRow row (spelled_row row)) row_again c.rows items each in
    let kept : c.bytes ≡ [] ++ canonical_code pool code h.insns = h.kept in
    let long = kept_length pool code h.instructions in
    let kept_as : length c.bytes ≡ length (canonical_code pool code h.insns) = ap length h.kept in
    let long_as : length code ≡ length c.bytes = omega arith in
    let same = all_same pool code bytes c.bytes [] h.instructions refl kept in
    let some : 0 < length code = h.not_empty in
    let short : length code < 2 ^ 16 = h.short in
    record {
      code = c.bytes;
      rows = counted spelled_row c.rows;
      attributes = u2 0;
      insns = h.insns;
      spelled = refl;
      stack = h.stack;
      locals = h.locals;
      not_empty = omega arith;
      short = omega arith;
      rows_spelled = (flat_map spelled_row c.rows, refl, few, each_again SpellsRow spelled_row c.rows rows);
      attributes_spelled = ([], no_attribute pool);
      instructions = again pool code bytes c.bytes [] h.instructions refl kept;
      jumps = jumps_again pool code bytes c.bytes h.insns h.insns same h.jumps;
      rows_fit = rows_again pool code bytes c.bytes h.insns c.rows long_as h.rows_fit;
      kept = h.kept ∙ sym (code_same pool code bytes c.bytes h.insns same);
    }

abbrev CodeFacts : List PoolEntry → CodeInfo → Type 0
CodeFacts pool c = HasText pool (codes "Code") × (length (spelled_content c) < 2 ^ 32) × SpellsCode pool c (spelled_content c)

content_short : (c : CodeInfo) → FitsContent c → length (spelled_content c) < 2 ^ 32
content_short c fits =
    let size = content_length c in
    let rows : length c.rows < 2 ^ 16 = fits.few_rows in
    let short : length c.bytes < 2 ^ 16 = fits.bytes in
    omega arith

codes_facts : {pool : List PoolEntry} {attributes : List Attribute} {found : List CodeInfo} → HasCodes pool attributes found → AllByRecursion (λ (attribute : Attribute). AllBytes attribute.content) attributes → AllByRecursion (CodeFacts pool) found
codes_facts no_code all = tt
codes_facts (not_code attribute more found other has) all = codes_facts has all.1
codes_facts {pool = pool} (code_attribute attribute more c found named spelled has) all =
    let h = content_again pool c attribute.content all.0 spelled in
    (((attribute.name, named), content_short c (content_fits pool c attribute.content spelled), h), codes_facts has all.1)

abbrev CodeAgain : List PoolEntry → Option CodeInfo → Type 0
CodeAgain pool code = (attributes : List Attribute) × SpellsAttributes pool attributes (spelled_code pool code) × HasCodes pool attributes (codes_in code)

code_again : (pool : List PoolEntry) (code : Option CodeInfo) → length pool < 65535 → AllByRecursion (CodeFacts pool) (codes_in code) → CodeAgain pool code
code_again pool None few facts = ([], no_attribute pool, no_code)
code_again pool (Some c) few facts =
    let (named, short, h) = facts.0 in
    let name : List ℕ = codes "Code" in
    let content : List ℕ = spelled_content c in
    let index = index_right pool name few named in
    let attribute : Attribute = record { name = text_index pool name; content = content } in
    let spelled = one_attribute pool attribute _ (attribute_named pool name content few named short) in
    let P : ℕ → Type 0 = λ size. SpellsAttributes pool (attribute ∷ []) (u2 1 ++ (u2 (text_index pool name) ++ u4 size ++ content)) in
    (attribute ∷ [], subst P (content_length c) spelled, code_attribute attribute [] c [] index.spells h no_code)

method_again : (pool : List PoolEntry) → length pool < 65535 → (m : MethodInfo) (bytes : List ℕ) → InBytes (SpellsMethod pool) m bytes → SpellsMethod pool m (spelled_method pool m)
method_again pool few m bytes (all, h) =
    let facts = codes_facts h.body (contents_bytes pool m bytes all h) in
    let (attributes, spelled, has) = code_again pool m.code few facts in
    record {
      attributes = attributes;
      others = spelled_code pool m.code;
      spelled = refl;
      flags = h.flags;
      name_index = h.name_index;
      desc_index = h.desc_index;
      name = h.name;
      desc = h.desc;
      attributes_spelled = spelled;
      body = has;
      has_body = h.has_body;
      not_synchronized = h.not_synchronized;
      not_wide = h.not_wide;
    }

-- ---- the class

pub written_is_read : (bytes : List ℕ) (c : ClassFile) → AllBytes bytes → IsClass bytes c → IsClass (spelled_class c) c
written_is_read bytes c all h =
    let few = (pool_fits bytes c h).few in
    let pool : List PoolEntry = c.pool in
    let (interfaces, at_interfaces, few_interfaces, each_interface) = h.interfaces in
    let (fields, at_fields, few_fields, each_field) = h.fields in
    let (methods, at_methods, few_methods, each_method) = h.methods in
    let inside = bytes_behind (u2 (length c.methods)) methods (subst AllBytes at_methods (methods_bytes bytes c all h)) in
    let interfaces_so = each_so (SpellsClassIndex pool) (λ (index : ℕ). SpellsClassIndex pool index (u2 index)) (λ index bytes spells. (refl, spells.1)) c.interfaces interfaces each_interface in
    let fields_so = each_so (SpellsField pool) (λ (f : FieldInfo). SpellsField pool f (spelled_field pool f)) (field_again pool few) c.fields fields each_field in
    let methods_so = each_so (InBytes (SpellsMethod pool)) (λ (m : MethodInfo). SpellsMethod pool m (spelled_method pool m)) (method_again pool few) c.methods methods (each_in_bytes (SpellsMethod pool) c.methods methods inside each_method) in
    record {
      pool_bytes = flat_map spelled_entry pool;
      interface_bytes = counted u2 c.interfaces;
      field_bytes = counted (spelled_field pool) c.fields;
      method_bytes = counted (spelled_method pool) c.methods;
      attribute_bytes = u2 0;
      spelled = refl;
      minor = h.minor;
      oldest = h.oldest;
      newest = h.newest;
      pool_length = h.pool_length;
      pool_spelled = subst (SpellsEntries pool) (entries_again h.pool_spelled) h.pool_spelled;
      references = h.references;
      flags = h.flags;
      this_class = h.this_class;
      super_class = h.super_class;
      interfaces = (flat_map u2 c.interfaces, refl, few_interfaces, each_again (SpellsClassIndex pool) u2 c.interfaces interfaces_so);
      fields = (flat_map (spelled_field pool) c.fields, refl, few_fields, each_again (SpellsField pool) (spelled_field pool) c.fields fields_so);
      methods = (flat_map (spelled_method pool) c.methods, refl, few_methods, each_again (SpellsMethod pool) (spelled_method pool) c.methods methods_so);
      attributes = ([], no_attribute pool);
    }

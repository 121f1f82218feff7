-- Indices, heads, attributes and fields: what is read is spelled so, and what is spelled so is read.
use Rattle.std.proofs.Common.{◌≡◌, ◌⊎◌, ℕ, zero, suc, ◌^◌, ◌<◌, Bool, true, false, ◌&&◌, ◌==◌, List, [], ◌∷◌, ◌++◌, length, map, Option, Some, None, Result, Ok, refl, sym, ap, subst, ◌∙◌, inl, inr}
use Rattle.std.specs.Prelude.{IsSomeAnd, codes}
use Rattle.std.specs.Bool.{Decides}
use Rattle.std.proofs.lemmas.Bool.{eqb-true, false_from_ne_true, true≢false, and_parts}
use Rattle.std.proofs.lemmas.Bool.Decides.{Decides-eqb, Decides-and, Decides-like, not_from_Decides}
use Rattle.std.proofs.lemmas.List.{length-map}
use Rattle.std.proofs.lemmas.Option.{same_Some}
use Rattle.std.proofs.lemmas.Slice.Eq.{bytes_eq-Decides}
use Rattle.jo_insn.proofs.Numbers.{AreBytes}
use Rattle.jo_text.specs.Descriptors.{IsMemberName, IsFieldDesc, IsMethodDesc}
use Rattle.jo_text.specs.Tests.{is_member_name}
use Rattle.jo_text.proofs.TestLaws.{field_decided, method_decided, member_decided}
use Rattle.class_pool.specs.declared.entries.PoolEntry.{PoolEntry}
use Rattle.class_pool.specs.declared.classes.MemberKind.{MemberKind}
use Rattle.class_pool.specs.declared.classes.MemberKind.TheVariants.{Field, Method}
use Rattle.class_pool.specs.declared.faults.ClassFault.{ClassFault}
use Rattle.class_pool.specs.Items.{◌>>=◌, place_of, number, bytes_of, many}
use Rattle.class_pool.specs.Pool.{entry_at, utf8_at, class_name_at, is_text, is_text_that}
use Rattle.class_pool.specs.Code.{dims_of, has_dims_that, dims_at}
use Rattle.class_pool.specs.ClassOrder
use Rattle.jo_insn.specs.AccessFlags.{has_flag, static_flag}
use Rattle.class_pool.specs.ClassOrder.{class_index, text_index, fits_kind, read_head, skip_attribute, skip_attributes, is_named, fits_constant, field_attribute, field_attributes, read_field}
use Rattle.class_pool.specs.ClassGrammar.{u2, u4, SpellsEach, Attribute, SpellsAttribute, AreAttributes, IsConstantValue, HasConstant, no_constant, not_constant, constant_value, SpellsField, SpellsClassIndex}
use Rattle.class_pool.proofs.GrammarNumbers.{Takes, Yields, yields, by_answer, ends, fails, then_read, when, either, joined, split, step, pass, number_read, number_again, SpellsBytes, bytes_read, bytes_again}
use Rattle.class_pool.proofs.GrammarMany.{EachIsSpelled, EachIsRead, counted, many_read, many_again}
use Rattle.class_pool.proofs.GrammarPool.{text_decided, there, there_decided}

-- a descriptor of a field, and of a method
abbrev pub IsDescOf : MemberKind → List ℕ → Type 0
IsDescOf Field text = IsFieldDesc text
IsDescOf Method text = IsMethodDesc text

kind_decided : (kind : MemberKind) (text : List ℕ) → Decides (fits_kind kind text) (IsDescOf kind text)
kind_decided Field text = field_decided text
kind_decided Method text = method_decided text

-- an attribute has that name
pub named_decided : (name : List ℕ) (text : Option (List ℕ)) → Decides (is_named name text) (text ≡ Some name)
named_decided name None = (λ e. absurd (cc), λ h. absurd (cc))
named_decided name (Some text) =
    Decides-like _ (λ (same : name ≡ text). ap Some (sym same)) (λ (is : Some text ≡ Some name). sym (same_Some text name is)) (bytes_eq-Decides name text)

module _ (pool : List PoolEntry) where
  -- ---- indices

  pub dims_decided : {test : ℕ → Bool} {P : ℕ → Type 0} → ((n : ℕ) → Decides (test n) (P n)) → (index : ℕ) → Decides (has_dims_that test (dims_at pool index)) (IsSomeAnd (class_name_at pool index) (λ name. P (dims_of name)))
  dims_decided {test} {P} each index = by (class_name_at pool index) refl
    where
      by : (o : Option (List ℕ)) → class_name_at pool index ≡ o → Decides (has_dims_that test (dims_at pool index)) (IsSomeAnd (class_name_at pool index) (λ name. P (dims_of name)))
      by None is = rw is (λ e. absurd (true≢false (sym e)), λ h. absurd h)
      by (Some name) is = rw is (each (dims_of name))

  no_array : (index : ℕ) → Decides (has_dims_that (λ dims. dims == 0) (dims_at pool index)) (IsSomeAnd (class_name_at pool index) (λ name. dims_of name ≡ 0))
  no_array index = dims_decided (λ n. Decides-eqb n 0) index

  pub class_index_read : (size : ℕ) → EachIsSpelled (class_index size pool) (SpellsClassIndex pool)
  class_index_read size rest bytes =
      then_read _ (number_read size 2 rest bytes) (λ index left t. when (has_dims_that (λ dims. dims == 0) (dims_at pool index)) _ _ (λ passed. ends (record {
        text = t.text;
        parts = t.parts;
        spells = (t.spells.0, (t.spells.1, (no_array index).0 passed));
        bytes = t.bytes;
      })))

  pub class_index_again : (size : ℕ) → EachIsRead (class_index size pool) (SpellsClassIndex pool)
  class_index_again size index rest text left parts (spelled, (small, class)) =
      step _ (number_again size 2 index left (parts ∙ ap (λ (t : List ℕ). t ++ left) spelled) small) (pass _ _ ((no_array index).1 class) refl)

  abbrev pub SpellsTextIndex : ℕ → List ℕ → Type 0
  SpellsTextIndex index text = (text ≡ u2 index) × (index < 2 ^ 16) × IsSomeAnd (utf8_at pool index) (λ _. Unit {0})

  pub text_index_read : (size : ℕ) → EachIsSpelled (text_index size pool) SpellsTextIndex
  text_index_read size rest bytes =
      then_read _ (number_read size 2 rest bytes) (λ index left t. when (is_text (utf8_at pool index)) _ _ (λ passed. ends (record {
        text = t.text;
        parts = t.parts;
        spells = (t.spells.0, t.spells.1, (there_decided (utf8_at pool index)).0 passed);
        bytes = t.bytes;
      })))

  pub text_index_again : (size index : ℕ) {rest : List ℕ} (left : List ℕ) → rest ≡ u2 index ++ left → index < 2 ^ 16 → is_text (utf8_at pool index) ≡ true → text_index size pool rest ≡ Ok (index, left)
  text_index_again size index left parts small named = step _ (number_again size 2 index left parts small) (pass _ _ named refl)

  -- ---- heads

  pub record SpellsHead (kind : MemberKind) (head : ℕ × ℕ × ℕ) (text : List ℕ) : Type 0 where
    pub spelled : text ≡ u2 head.0 ++ u2 head.1 ++ u2 head.2
    pub flags : head.0 < 2 ^ 16
    pub name_index : head.1 < 2 ^ 16
    pub desc_index : head.2 < 2 ^ 16
    pub name : IsSomeAnd (utf8_at pool head.1) IsMemberName
    pub desc : IsSomeAnd (utf8_at pool head.2) (IsDescOf kind)

  pub head_read : (size : ℕ) (kind : MemberKind) → EachIsSpelled (read_head size pool kind) (SpellsHead kind)
  unfolding read_head
  head_read size kind rest bytes =
      then_read _ (number_read size 2 rest bytes) (λ flags behind_flags t.
      then_read _ (text_index_read size behind_flags t.bytes) (λ name behind_name u.
      then_read _ (text_index_read size behind_name u.bytes) (λ desc left v.
      when (is_text_that is_member_name (utf8_at pool name)) _ _ (λ member.
      when (is_text_that (fits_kind kind) (utf8_at pool desc)) _ _ (λ fits. ends (record {
        text = t.text ++ u.text ++ v.text;
        parts = joined _ _ _ (joined _ _ _ t.parts u.parts) v.parts;
        spells = record {
          spelled = cc (t.spells.0, u.spells.0, v.spells.0);
          flags = t.spells.1;
          name_index = u.spells.1;
          desc_index = v.spells.1;
          name = (text_decided member_decided (utf8_at pool name)).0 member;
          desc = (text_decided (kind_decided kind) (utf8_at pool desc)).0 fits;
        };
        bytes = v.bytes;
      }))))))

  pub head_again : (size : ℕ) (kind : MemberKind) → EachIsRead (read_head size pool kind) (SpellsHead kind)
  unfolding read_head
  head_again size kind head rest text left parts h =
      let behind : List ℕ = u2 head.1 ++ (u2 head.2 ++ left) in
      step _ (number_again size 2 head.0 behind (split (u2 head.0 ++ u2 head.1) (u2 head.2) left parts h.spelled) h.flags)
      (step _ (text_index_again size head.1 (u2 head.2 ++ left) refl h.name_index (there IsMemberName _ h.name))
      (step _ (text_index_again size head.2 left refl h.desc_index (there (IsDescOf kind) _ h.desc))
      (pass _ _ ((text_decided member_decided (utf8_at pool head.1)).1 h.name) (pass _ _ ((text_decided (kind_decided kind) (utf8_at pool head.2)).1 h.desc) refl))))

  -- ---- attributes

  -- the index of an attribute's name, and how many bytes its content has
  abbrev pub SpellsAttributeHead : ℕ × ℕ → List ℕ → Type 0
  SpellsAttributeHead head text = (text ≡ u2 head.0 ++ u4 head.1) × (head.0 < 2 ^ 16) × (head.1 < 2 ^ 32) × IsSomeAnd (utf8_at pool head.0) (λ _. Unit {0})

  module _ {B : Type 0} {P : B → Type 0} (size : ℕ) (more : ℕ × List ℕ → ℕ × List ℕ → Result B ClassFault) where
    pub attribute_head_read : (rest : List ℕ) → AreBytes rest
        → ((name count : ℕ) (middle left : List ℕ) → Takes SpellsAttributeHead rest (name, count) left → Yields P (more (name, middle) (count, left)))
        → Yields P (text_index size pool rest >>= (λ name. number size 4 name.1 >>= more name))
    attribute_head_read rest bytes goes =
        then_read _ (text_index_read size rest bytes) (λ name middle t.
        then_read _ (number_read size 4 middle t.bytes) (λ count left u. goes name count middle left (record {
          text = t.text ++ u.text;
          parts = joined _ _ _ t.parts u.parts;
          spells = (cc (t.spells.0, u.spells.0), t.spells.1, u.spells.1, t.spells.2);
          bytes = u.bytes;
        })))

  -- the head and the content
  pub attribute_of : {name count : ℕ} {content head text : List ℕ} → SpellsAttributeHead (name, count) head → SpellsBytes count content text → SpellsAttribute pool (record { name = name; content = content }) (head ++ text)
  attribute_of head content = (cc (head.0, content.0, content.1), head.1, subst (λ (n : ℕ). n < 2 ^ 32) (sym content.1) head.2, head.3)

  pub attribute_again : {B : Type 0} (size : ℕ) (more : ℕ × List ℕ → ℕ × List ℕ → Result B ClassFault) (attribute : Attribute) {rest text : List ℕ} (left : List ℕ) {b : B} → rest ≡ text ++ left → SpellsAttribute pool attribute text
      → more (attribute.name, u4 (length attribute.content) ++ attribute.content ++ left) (length attribute.content, attribute.content ++ left) ≡ Ok b
      → (text_index size pool rest >>= (λ name. number size 4 name.1 >>= more name)) ≡ Ok b
  attribute_again size more attribute left parts (spelled, small, short, named) is =
      let content : List ℕ = attribute.content in
      step _ (text_index_again size attribute.name (u4 (length content) ++ content ++ left) (split (u2 attribute.name ++ u4 (length content)) content left parts spelled) small ((there_decided _).1 named))
      (step _ (number_again size 4 (length content) (content ++ left) refl short) is)

  -- attributes that are stepped over
  abbrev pub SpellsSkipped : Unit {0} → List ℕ → Type 0
  SpellsSkipped skipped text = (attribute : Attribute) × SpellsAttribute pool attribute text

  skip_read : (size : ℕ) → EachIsSpelled (skip_attribute size pool) SpellsSkipped
  unfolding skip_attribute
  skip_read size rest bytes =
      then_read {Spells = SpellsAttributeHead} _ (attribute_head_read size _ rest bytes (λ name count middle left t. ends t)) (λ head middle t.
      then_read _ (bytes_read size head.1 middle t.bytes) (λ content left u. ends (record {
        text = t.text ++ u.text;
        parts = joined _ _ _ t.parts u.parts;
        spells = (record { name = head.0; content = content }, attribute_of t.spells u.spells);
        bytes = u.bytes;
      })))

  skip_again : (size : ℕ) → EachIsRead (skip_attribute size pool) SpellsSkipped
  unfolding skip_attribute
  skip_again size skipped rest text left parts (attribute, spelled) =
      step _ (attribute_again size _ attribute left parts spelled refl) (step _ (bytes_again size attribute.content left refl) refl)

  kept : (skipped : List (Unit {0})) (text : List ℕ) → SpellsEach SpellsSkipped skipped text → (attributes : List Attribute) × SpellsEach (SpellsAttribute pool) attributes text × (length attributes ≡ length skipped)
  kept [] text is = ([], is, refl)
  kept (one ∷ more) text (first, rest, parts, (attribute, spelled), others) = let behind = kept more rest others in (attribute ∷ behind.0, (first, rest, parts, spelled, behind.1), ap suc behind.2)

  skipped : (attributes : List Attribute) (text : List ℕ) → SpellsEach (SpellsAttribute pool) attributes text → SpellsEach SpellsSkipped (map (λ _. tt) attributes) text
  skipped [] text is = is
  skipped (attribute ∷ more) text (first, rest, parts, spelled, others) = (first, rest, parts, (attribute, spelled), skipped more rest others)

  abbrev pub SkipsAttributes : List ℕ → List ℕ → Type 0
  SkipsAttributes rest left = Takes {X = Unit {0}} (λ _ text. AreAttributes pool text) rest tt left

  pub attributes_read : (size : ℕ) (rest : List ℕ) → AreBytes rest → Yields (SkipsAttributes rest) (skip_attributes size pool rest)
  attributes_read size rest bytes =
      then_read _ (number_read size 2 rest bytes) (λ count middle t.
      then_read _ (many_read (skip_attribute size pool) SpellsSkipped (skip_read size) count middle t.bytes) (λ skipped_ones left u.
      let found = kept skipped_ones u.text u.spells.0 in
      yields {P = SkipsAttributes rest} (record {
        text = t.text ++ u.text;
        parts = joined _ _ _ t.parts u.parts;
        spells = (found.0, counted (SpellsAttribute pool) found.0 u.text t.spells found.1 (found.2 ∙ u.spells.1));
        bytes = u.bytes;
      })))

  pub attributes_again : (size : ℕ) (rest text left : List ℕ) → rest ≡ text ++ left → AreAttributes pool text → skip_attributes size pool rest ≡ Ok left
  attributes_again size rest text left parts (attributes, (items, both, few, spelled)) =
      let units : List (Unit {0}) = map (λ _. tt) attributes in
      step _ (number_again size 2 (length attributes) (items ++ left) (split (u2 (length attributes)) items left parts both) few)
      (step _ (ap (λ (n : ℕ). many (skip_attribute size pool) n (items ++ left)) (sym (length-map attributes (λ _. tt)))
      ∙ many_again (skip_attribute size pool) SpellsSkipped (skip_again size) units (items ++ left) items left refl (skipped attributes items spelled)) refl)

  -- ---- fields

  module _ (size : ℕ) (head : ℕ × ℕ × ℕ) where
    abbrev static : Bool
    static = has_flag static_flag head.0

    abbrev IsConstant : ℕ → Type 0
    IsConstant name = (static ≡ true) × (utf8_at pool name ≡ Some (codes "ConstantValue"))

    -- what an attribute makes known
    abbrev Tells : Option ℕ → Attribute → Option ℕ → Type 0
    Tells known attribute told = ((told ≡ known) × (IsConstant attribute.name → ⊥)) ⊎ (IsConstant attribute.name × (known ≡ None) × ((constant : ℕ) × (told ≡ Some constant) × IsConstantValue pool head.2 attribute constant))

    abbrev SpellsTold : Option ℕ → Option ℕ → List ℕ → Type 0
    SpellsTold known told text = (attribute : Attribute) × SpellsAttribute pool attribute text × Tells known attribute told

    -- the content of an attribute with that name which is a ConstantValue, where none is known yet
    abbrev SpellsConstant : ℕ → Option ℕ → ℕ → Option ℕ → List ℕ → Type 0
    SpellsConstant name known count told text = (length text ≡ count) × (known ≡ None) × ((constant : ℕ) × (told ≡ Some constant) × IsConstantValue pool head.2 (record { name = name; content = text }) constant)

    fits_decided : (constant : ℕ) → Decides (is_text_that (λ text. fits_constant text (entry_at pool constant)) (utf8_at pool head.2)) (IsSomeAnd (utf8_at pool head.2) (λ text. fits_constant text (entry_at pool constant) ≡ true))
    fits_decided constant = text_decided (λ text. (λ e. e, λ e. e)) (utf8_at pool head.2)

    constant_read : (name : ℕ) (known : Option ℕ) (place count : ℕ) → EachIsSpelled (ClassOrder.constant_value size pool head.2 known place count) (SpellsConstant name known count)
    constant_read name (Some index) place count rest bytes = when (count == 2 && false) _ _ (λ is. absurd (true≢false (sym (and_parts _ _ is).1)))
    constant_read name None place count rest bytes = when (count == 2 && true) _ _ (λ is. by_answer (number size 2 rest) (λ f failed. rw failed fails) (λ index given.
        let t = (number_read size 2 rest bytes).takes index given in
        rw given (when (is_text_that (λ text. fits_constant text (entry_at pool index.0)) (utf8_at pool head.2)) _ _ (λ fits. ends (record {
          text = t.text;
          parts = t.parts;
          spells = (ap length t.spells.0 ∙ sym (eqb-true _ _ (and_parts _ _ is).0), refl, (index.0, refl, (t.spells.0, t.spells.1, (fits_decided index.0).0 fits)));
          bytes = t.bytes;
        })))))

    constant_again : (place constant : ℕ) (attribute : Attribute) (left : List ℕ) → IsConstantValue pool head.2 attribute constant
        → ClassOrder.constant_value size pool head.2 None place (length attribute.content) (attribute.content ++ left) ≡ Ok (Some constant, left)
    constant_again place constant attribute left (is, small, fits) =
        let two : (length attribute.content == 2 && true) ≡ true = rw is refl in
        pass _ _ two (rw (number_again size 2 constant left (ap (λ (t : List ℕ). t ++ left) is) small) (pass _ _ ((fits_decided constant).1 fits) refl))

    is_constant : (name : ℕ) → Decides (static && is_named (codes "ConstantValue") (utf8_at pool name)) (IsConstant name)
    is_constant name = Decides-and _ _ (λ e. e, λ e. e) (named_decided (codes "ConstantValue") (utf8_at pool name))

    field_attribute_read : (known : Option ℕ) → EachIsSpelled (field_attribute size pool head known) (SpellsTold known)
    unfolding field_attribute
    field_attribute_read known rest bytes = attribute_head_read size _ rest bytes (λ name count middle left t.
        either (static && is_named (codes "ConstantValue") (utf8_at pool name))
        (λ is. record {
          takes = λ r given. let u = (constant_read name known (place_of size middle) count left t.bytes).takes r given in record {
            text = t.text ++ u.text;
            parts = joined _ _ _ t.parts u.parts;
            spells = (record { name = name; content = u.text }, attribute_of t.spells (refl, u.spells.0), inr ((is_constant name).0 is, u.spells.1, u.spells.2));
            bytes = u.bytes;
          };
        })
        (λ other. by_answer (bytes_of size count left) (λ f failed. rw failed fails) (λ content given.
        let u = (bytes_read size count left t.bytes).takes content given in
        rw given (ends (record {
          text = t.text ++ u.text;
          parts = joined _ _ _ t.parts u.parts;
          spells = (record { name = name; content = content.0 }, attribute_of t.spells u.spells, inl (refl, not_from_Decides _ (is_constant name) other));
          bytes = u.bytes;
        })))))

    field_attribute_again : (known : Option ℕ) → EachIsRead (field_attribute size pool head known) (SpellsTold known)
    unfolding field_attribute
    field_attribute_again known told rest text left parts (attribute, spelled, inl (same, other)) =
        attribute_again size _ attribute left parts spelled
        (rw (false_from_ne_true _ (λ is. other ((is_constant attribute.name).0 is)), bytes_again size attribute.content left refl) (ap (λ (o : Option ℕ). Ok (o, left)) (sym same)))
    field_attribute_again known told rest text left parts (attribute, spelled, inr (is, fresh, (constant, same, value))) =
        attribute_again size _ attribute left parts spelled
        (rw ((is_constant attribute.name).1 is, fresh) (constant_again _ constant attribute left value ∙ ap (λ (o : Option ℕ). Ok (o, left)) (sym same)))

    -- the constant that was known, or else the one that is told
    abbrev Joins : Option ℕ → Option ℕ → Option ℕ → Type 0
    Joins None constant told = told ≡ constant
    Joins (Some index) constant told = (constant ≡ None) × (told ≡ Some index)

    joins_none : (known told : Option ℕ) → Joins known None told → told ≡ known
    joins_none None told is = is
    joins_none (Some index) told (none, is) = is

    joins_some : (known told : Option ℕ) (constant : ℕ) → Joins known (Some constant) told → (known ≡ None) × (told ≡ Some constant)
    joins_some None told constant is = (refl, is)
    joins_some (Some index) told constant (none, is) = absurd (cc)

    abbrev Constant : List Attribute → Option ℕ → Type 0
    Constant attributes constant = HasConstant pool static head.2 attributes constant

    abbrev FindsConstant : Option ℕ → List Attribute → Option ℕ → Type 0
    FindsConstant known attributes told = (constant : Option ℕ) × Constant attributes constant × Joins known constant told

    one_more : (known next told : Option ℕ) (attribute : Attribute) (more : List Attribute) → Tells known attribute next → FindsConstant next more told → FindsConstant known (attribute ∷ more) told
    one_more known next told attribute more (inl (same, other)) (constant, has, joins) =
        (constant, not_constant attribute more constant (λ is named. other (is, named)) has, subst (λ (k : Option ℕ). Joins k constant told) same joins)
    one_more known next told attribute more (inr (is, fresh, (index, same, value))) (constant, has, joins) =
        let behind = subst (λ (k : Option ℕ). Joins k constant told) same joins in
        (Some index, constant_value attribute more index is.0 is.1 value (subst (Constant more) behind.0 has), subst (λ (k : Option ℕ). Joins k (Some index) told) (sym fresh) behind.1)

    abbrev SpellsConstants : Option ℕ → ℕ → Option ℕ → List ℕ → Type 0
    SpellsConstants known n told text = (attributes : List Attribute) × SpellsEach (SpellsAttribute pool) attributes text × (length attributes ≡ n) × FindsConstant known attributes told

    field_attributes_read : (n : ℕ) (known : Option ℕ) → EachIsSpelled (field_attributes size pool head n known) (SpellsConstants known n)
    unfolding field_attributes
    field_attributes_read zero known rest bytes = ends (record { text = []; parts = refl; spells = ([], refl, refl, (None, no_constant, known_joins known)); bytes = bytes })
      where
        known_joins : (known : Option ℕ) → Joins known None known
        known_joins None = refl
        known_joins (Some index) = (refl, refl)
    field_attributes_read (suc n) known rest bytes =
        then_read _ (field_attribute_read known rest bytes) (λ next middle t.
        let others = field_attributes_read n next middle t.bytes in record {
          takes = λ r is. let u = others.takes r is in record {
            text = t.text ++ u.text;
            parts = joined _ _ _ t.parts u.parts;
            spells = (t.spells.0 ∷ u.spells.0, (t.text, u.text, refl, t.spells.1, u.spells.1), ap suc u.spells.2, one_more known next r.0 t.spells.0 u.spells.0 t.spells.2 u.spells.3);
            bytes = u.bytes;
          };
        })

    field_attributes_again : {attributes : List Attribute} {constant : Option ℕ} → Constant attributes constant → (known told : Option ℕ) → Joins known constant told → (rest text left : List ℕ) → rest ≡ text ++ left
        → SpellsEach (SpellsAttribute pool) attributes text → field_attributes size pool head (length attributes) known rest ≡ Ok (told, left)
    unfolding field_attributes
    field_attributes_again no_constant known told joins rest text left parts each =
        let same = sym (joins_none known told joins) in
        let at_end : rest ≡ left = parts ∙ ap (λ (t : List ℕ). t ++ left) each in
        cc (same, at_end)
    field_attributes_again (not_constant attribute more constant other has) known told joins rest text left parts (first, others, both, one, each) =
        step _ (field_attribute_again known known rest first (others ++ left) (split first others left parts both) (attribute, one, inl (refl, λ is. other is.0 is.1)))
        (field_attributes_again has known told joins (others ++ left) others left refl each)
    field_attributes_again (constant_value attribute more index is named value has) known told joins rest text left parts (first, others, both, one, each) =
        let now = joins_some known told index joins in
        step _ (field_attribute_again known (Some index) rest first (others ++ left) (split first others left parts both) (attribute, one, inr ((is, named), now.0, (index, refl, value))))
        (field_attributes_again has (Some index) told (refl, now.1) (others ++ left) others left refl each)

  pub field_read : (size : ℕ) → EachIsSpelled (read_field size pool) (SpellsField pool)
  unfolding read_field
  field_read size rest bytes =
      then_read _ (head_read size Field rest bytes) (λ head behind t.
      then_read _ (number_read size 2 behind t.bytes) (λ count middle u.
      then_read _ (field_attributes_read size head count None middle u.bytes) (λ constant left v. ends (record {
        text = t.text ++ (u.text ++ v.text);
        parts = joined _ _ _ t.parts (joined _ _ _ u.parts v.parts);
        spells = record {
          attributes = v.spells.0;
          others = u.text ++ v.text;
          spelled = cc (t.spells.spelled);
          flags = t.spells.flags;
          name_index = t.spells.name_index;
          desc_index = t.spells.desc_index;
          name = t.spells.name;
          desc = t.spells.desc;
          attributes_spelled = counted (SpellsAttribute pool) v.spells.0 v.text u.spells v.spells.1 v.spells.2;
          constant = subst (HasConstant pool (has_flag static_flag head.0) head.2 v.spells.0) (sym v.spells.3.2) v.spells.3.1;
        };
        bytes = v.bytes;
      }))))

  pub field_again : (size : ℕ) → EachIsRead (read_field size pool) (SpellsField pool)
  unfolding read_field
  field_again size field rest text left parts h =
      let head : ℕ × ℕ × ℕ = (field.flags, field.name, field.desc) in
      let front : List ℕ = u2 field.flags ++ u2 field.name ++ u2 field.desc in
      let (items, both, few, each) = h.attributes_spelled in
      let spelled : SpellsHead Field head front = record { spelled = refl; flags = h.flags; name_index = h.name_index; desc_index = h.desc_index; name = h.name; desc = h.desc } in
      step _ (head_again size Field head rest front (h.others ++ left) (split front h.others left parts h.spelled) spelled)
      (step _ (number_again size 2 (length h.attributes) (items ++ left) (split (u2 (length h.attributes)) items left refl both) few)
      (step _ (field_attributes_again size head h.constant None field.constant refl (items ++ left) items left refl each) refl))

-- In a program without a fault the operands of instructions are sound.
use Rattle.std.proofs.Common.{◌≡◌, ◌∙◌, ℕ, zero, suc, ◌≤◌, ◌+◌, ◌^◌, Bool, true, false, ◌&&◌, ◌||◌, not, List, [], ◌∷◌, length, Option, Some, None, refl, sym, subst, ap, inr, arith}
use Rattle.std.specs.Prelude.{◌==◌, nat_le, nat_lt, slice_get, if◌then◌else◌, option_and_then, option_map}
use Rattle.std.specs.List.{Contains, flat_map, position_from}
use Rattle.std.specs.Str.{bytes_eq}
use Rattle.std.specs.Cmp.Lexicographic.{bytes_decides}
use Rattle.std.proofs.lemmas.Bool.{or_left, or_right, leb-true, eqb-true, eq-eqb, lt-ltb, cond-true, false_from_ne_true}
use Rattle.std.proofs.lemmas.List.Elements.{Contains-append_left}
use Rattle.std.proofs.lemmas.Option.{same_Some, none-some, slice_get_read}
use Rattle.jo_ids.specs.Path.{stays}
use Rattle.jo_text.specs.declared.descriptors.Base.{Base}
use Rattle.jo_text.specs.declared.descriptors.Base.TheVariants.{Byte, Char, Double, Float, Int as IntBase, Long, Short, Boolean, Class as OfName}
use Rattle.jo_text.specs.declared.descriptors.FieldDesc.{FieldDesc}
use Rattle.jo_insn.specs.AccessFlags.{has_flag, static_flag}
use Rattle.jo_insn.specs.declared.instructions.Insn.{Insn}
use Rattle.jo_insn.specs.declared.instructions.Insn.TheVariants as insns
use Rattle.jo_prog.specs.declared.program.Program.{Program}
use Rattle.jo_prog.specs.declared.program.Class.{Class}
use Rattle.jo_prog.specs.declared.program.Code.{Code}
use Rattle.jo_prog.specs.declared.program.Field.{Field}
use Rattle.jo_prog.specs.declared.program.Method.{Method}
use Rattle.jo_prog.specs.declared.program.MemberRef.{MemberRef}
use Rattle.jo_prog.specs.declared.program.Operand.{Operand}
use Rattle.jo_prog.specs.declared.program.Operand.TheVariants.{Unused, Int as IntOperand, Text, OfType, Member as OfMember}
use Rattle.jo_prog.specs.declared.program.TypeRef.{TypeRef}
use Rattle.jo_prog.specs.declared.program.TypeRef.TheVariants.{Class as OfClass, Array as OfArray}
use Rattle.jo_prog.specs.Program.{class_at, method_at, code_at, operand_at}
use Rattle.jo_prog.specs.Constants.{text_of, texts_of, string_address}
use Rattle.jo_prog.specs.Calls.{receiver_class}
use Rattle.jo_prog.specs.Hierarchy.{is_subtype, resolve_method, resolve_field, interfaces_of}
use Rattle.jo_prog.specs.MethodTypes.{field_desc_in}
use Rattle.jo_prog.specs.Operations.{within}
use Rattle.jo_prog.specs.Sites.{insns_in}
use Rattle.jo_prog.specs.Types.{is_subtype_of, is_object, base_fits, array_fits}
use Rattle.jo_prog.specs.Shapes.{is_interface, takes_type}
use Rattle.jo_prog.specs.Values.{array}
use Rattle.jo_prog.proofs.HierarchyLemmas.{subtype_every}
use Rattle.jo_prog.proofs.WalkLemmas.{here, to_flat_map}
use Rattle.hierarchy.specs.declared.resolutions.Member.{Member}
use Rattle.hierarchy.specs.declared.resolutions.Member.TheVariants.{Field as OfField, Method as OfMethod}
use Rattle.hierarchy.specs.Resolutions.{is_of_method, field_of, member_of, resolved_operand, resolved_at}
use Rattle.program_faults.specs.declared.uses.Use.{Use}
use Rattle.program_faults.specs.UsedOperands.{used_at, used_in, used_in_method, methods_of, uses_of, operand_in}
use Rattle.program_faults.specs.MemberFaults.{takes_field, takes_method, needs_static, is_static_field, is_as_needed, can_take, LacksMember}
use Rattle.program_faults.specs.BodyFaults.{is_abstract_in, is_abstract_type, names_abstract, makes_abstract, calls_nothing, IsNotImplemented}
use Rattle.machine.specs.Instructions.{element_type, class_name}
use Rattle.machine.specs.Invocation.{type_of}
use Rattle.step_laws.specs.TypedStates.{has_dims, has_objects}
use Rattle.step_laws.specs.Premises.{HasSoundHierarchy}
use Rattle.step_laws.specs.Tables.{IsSoundType, IsSoundField, IsSoundOperand, IsSoundInsn, HasSoundCode}
use Rattle.linked_laws.specs.Codes.{IsBaseThere, IsTypeThere, HasItsType, IsSoundEntry, HasSoundPools, HasSoundMembers, HasSoundInsns}
use Rattle.linked_laws.proofs.FieldLemmas.{resolved_above, each_holds}
use Rattle.linked_laws.proofs.ReachLemmas.{reached_listed}
use Rattle.linked_laws.proofs.Lists.{contains_at}

-- ---- tests

apart : false ≡ true → ⊥
apart e = absurd (cc)

and_both : (a b : Bool) → (a && b) ≡ true → (a ≡ true) × (b ≡ true)
and_both true b h = (refl, h)
and_both false b h = absurd (cc)

both_and : {a b : Bool} → a ≡ true → b ≡ true → (a && b) ≡ true
both_and p q = rw (p, q) refl

low_and_high : (op : ℕ) → within 178 181 op ≡ true → within 182 185 op ≡ true → ⊥
low_and_high op low high =
    let below : op ≤ 181 = leb-true op 181 (and_both (nat_le 178 op) (nat_le op 181) low).1 in
    let above : 182 ≤ op = leb-true 182 op (and_both (nat_le 182 op) (nat_le op 185) high).0 in
    omega (arith, below, above)

no_call : (op : ℕ) → within 178 181 op ≡ true → (op == 184) ≡ false
no_call op low = false_from_ne_true (op == 184) (λ same. past (subst (λ (n : ℕ). within 178 181 n ≡ true) (eqb-true op 184 same) low))
  where
    past : within 178 181 184 ≡ true → ⊥
    past e = absurd (cc)

needs_by : (a b c : Bool) → c ≡ false → (a || (b || c)) ≡ (a || b)
needs_by true b c e = refl
needs_by false true c e = refl
needs_by false false c e = e

static_by : (needed is : Bool) → is_as_needed needed is ≡ true → is ≡ needed
static_by true is e = e
static_by false true e = absurd (cc)
static_by false false e = refl

-- ---- types

module _ (program : Program) (sound : HasSoundHierarchy program) where
  itself_below : (c : ℕ) → is_subtype program c c ≡ true
  itself_below c = subtype_every program sound.no_cycle c c (stays c)

  base_itself : (base : Base) → IsBaseThere program base → base_fits program base base ≡ true
  base_itself Byte there = refl
  base_itself Char there = refl
  base_itself Double there = refl
  base_itself Float there = refl
  base_itself IntBase there = refl
  base_itself Long there = refl
  base_itself Short there = refl
  base_itself Boolean there = refl
  base_itself (OfName name) there = ap (λ (o : Option ℕ). is_subtype_of program o o) there.1 ∙ itself_below there.0

  fits_itself : (desc : FieldDesc) → base_fits program desc.base desc.base ≡ true → array_fits program desc desc ≡ true
  fits_itself desc fits =
      cond-true (desc.dims == desc.dims) (base_fits program desc.base desc.base) (if nat_lt desc.dims desc.dims then is_object desc.base else false) (eq-eqb desc.dims desc.dims refl) ∙ fits

  array_itself : (type : FieldDesc) → IsBaseThere program type.base → takes_type program (type_of (array type 0)) (type_of (array type 0)) ≡ true
  array_itself type there = fits_itself (record { dims = type.dims + 1; base = type.base }) (base_itself type.base there)

  -- a class that is there is found by its name, or an earlier one is
  is_found : (name : List ℕ) (classes : List Class) (c k : ℕ) (class : Class) → slice_get classes c ≡ Some class → class.name ≡ name
      → (n : ℕ) × (position_from (λ (other : Class). bytes_eq other.name name) k classes ≡ Some n)
  is_found name [] c k class at is = absurd (none-some class at)
  is_found name (first ∷ more) zero k class at is =
      (k, cond-true (bytes_eq first.name name) (Some k) _ ((bytes_decides first.name name).1 (ap (λ (own : Class). own.name) (same_Some first class at) ∙ is)))
  is_found name (first ∷ more) (suc c) k class at is = by_test (bytes_eq first.name name) (is_found name more c (k + 1) class at is)
    where
      by_test : (b : Bool) → (n : ℕ) × (position_from (λ (other : Class). bytes_eq other.name name) (k + 1) more ≡ Some n)
          → (n : ℕ) × ((if b then Some k else position_from (λ (other : Class). bytes_eq other.name name) (k + 1) more) ≡ Some n)
      by_test true found = (k, refl)
      by_test false found = found

  element_there : (type : TypeRef) → IsTypeThere program type → IsBaseThere program (element_type program type).base
  element_there (OfClass c) (class, at) =
      is_found (class_name (class_at program c)) program.classes c 0 class at (sym (ap (λ (o : Option Class). class_name o) at))
  element_there (OfArray desc) there = there.1

  dims_there : (type : TypeRef) → IsTypeThere program type → has_dims type ≡ true
  dims_there (OfClass c) there = refl
  dims_there (OfArray desc) there = lt-ltb 0 desc.dims there.0

  -- ---- what the instructions of a method use

  module _ (pools : HasSoundPools program) (members : HasSoundMembers program) (lacks : (c : ℕ) → LacksMember program c → ⊥) (bodiless : (c : ℕ) → IsNotImplemented program c → ⊥)
      (implemented : (c p : ℕ) → Contains (interfaces_of program c) p → is_interface program (OfClass p) ≡ true)
      (addresses : (k : ℕ) (text : List ℕ) → slice_get (texts_of program) k ≡ Some text → (a : ℕ) × (string_address program text ≡ Some a))
      (m : ℕ) (method : Method) (is_method : method_at program m ≡ Some method) (code : Code) (has_code : method.code ≡ Some code) (insns_sound : HasSoundInsns program m code) where
    code_is : code_at program m ≡ Some code
    code_is = ap (λ (o : Option Method). option_and_then (λ (own : Method). own.code) o) is_method ∙ has_code

    used_there : (pc next op index : ℕ) → Contains (insns_in code.bytes) (record { pc = pc; insn = insns.Pooled op index; next = next }) → Contains (uses_of program method.class) (record { op = op; index = index })
    used_there pc next op index among =
        to_flat_map (used_in_method program) (methods_of program method.class) m _ (members.listed m method is_method)
        (subst (λ (o : Option Code). Contains (used_in o) (record { op = op; index = index })) (sym code_is)
        (subst (λ (us : List Use). Contains us (record { op = op; index = index })) (sym (cond-true (nat_lt (length code.bytes) (2 ^ 16)) (flat_map used_at (insns_in code.bytes)) [] (lt-ltb (length code.bytes) (2 ^ 16) insns_sound.whole.short)))
        (to_flat_map used_at (insns_in code.bytes) (record { pc = pc; insn = insns.Pooled op index; next = next }) _ among (here _ []))))

    operand_is : (index : ℕ) → operand_at program m index ≡ operand_in program method.class index
    operand_is index = ap (λ (o : Option Method). option_and_then (λ (class : Class). slice_get class.operands index) (option_and_then (λ (own : Method). class_at program own.class) o)) is_method

    -- an operand that is there is of a class, whose pool has it
    entry_sound : (index : ℕ) (operand : Operand) → operand_at program m index ≡ Some operand → IsSoundEntry program operand
    entry_sound index operand is = by_class (class_at program method.class) refl (sym (operand_is index) ∙ is)
      where
        by_class : (o : Option Class) → class_at program method.class ≡ o → option_and_then (λ (class : Class). slice_get class.operands index) o ≡ Some operand → IsSoundEntry program operand
        by_class None at found = absurd (none-some operand found)
        by_class (Some class) at found = pools method.class index class operand at found

    -- ---- texts

    text_there : (index : ℕ) (text : List ℕ) → operand_at program m index ≡ Some (Text text) → (a : ℕ) × (string_address program text ≡ Some a)
    text_there index text is = by_class (class_at program method.class) refl (sym (operand_is index) ∙ is)
      where
        by_class : (o : Option Class) → class_at program method.class ≡ o → option_and_then (λ (class : Class). slice_get class.operands index) o ≡ Some (Text text) → (a : ℕ) × (string_address program text ≡ Some a)
        by_class None at found = absurd (none-some _ found)
        by_class (Some class) at found =
            let among : Contains (texts_of program) text =
            Contains-append_left (flat_map (λ (own : Class). flat_map text_of own.operands) program.classes) _ text
            (to_flat_map (λ (own : Class). flat_map text_of own.operands) program.classes class text (contains_at program.classes method.class class at)
            (to_flat_map text_of class.operands (Text text) text (contains_at class.operands index (Text text) found) (here text []))) in
            addresses among.0 text (slice_get_read (texts_of program) (length (texts_of program)) among.0 text refl among.1 (sym among.2))

    -- ---- types

    type_sound : (pc next op index : ℕ) (type : TypeRef) → Contains (insns_in code.bytes) (record { pc = pc; insn = insns.Pooled op index; next = next }) → operand_at program m index ≡ Some (OfType type)
        → IsSoundType program op type
    type_sound pc next op index type among is = record {
      made = λ new. made_by op new among;
      elements = λ array_made. array_itself (element_type program type) (element_there type there);
      dims = dims_there type there;
    }
      where
        there : IsTypeThere program type
        there = entry_sound index (OfType type) is

        concrete : Contains (uses_of program method.class) (record { op = 187; index = index }) → is_abstract_type program type ≡ false
        concrete used = false_from_ne_true (is_abstract_type program type) (λ flag. bodiless method.class (inr (record {
          used = record { op = 187; index = index };
          is_there = used;
          is_bodiless = or_right (calls_nothing program method.class (record { op = 187; index = index })) (makes_abstract program method.class (record { op = 187; index = index })) (ap (names_abstract program) (sym (operand_is index) ∙ is) ∙ flag);
        })))

        made_class : (own : TypeRef) → IsTypeThere program own → is_abstract_type program own ≡ false → (c : ℕ) → own ≡ OfClass c → (class : Class) × (class_at program c ≡ Some class) × (has_objects class ≡ true)
        made_class (OfClass d) (class, at) flag c same = subst (λ (n : ℕ). (own : Class) × (class_at program n ≡ Some own) × (has_objects own ≡ true)) (same_class same) (class, at, ap not (sym (ap (λ (o : Option Class). is_abstract_in o) at) ∙ flag))
          where
            same_class : OfClass d ≡ OfClass c → d ≡ c
            same_class e = cc
        made_class (OfArray desc) at flag c same = absurd (cc)

        made_by : (code_op : ℕ) → code_op ≡ 187 → Contains (insns_in code.bytes) (record { pc = pc; insn = insns.Pooled code_op index; next = next })
            → (c : ℕ) × (class : Class) × (type ≡ OfClass c) × (class_at program c ≡ Some class) × (has_objects class ≡ true)
        made_by code_op new placed =
            let at : Contains (insns_in code.bytes) (record { pc = pc; insn = insns.Pooled 187 index; next = next }) =
            subst (λ (n : ℕ). Contains (insns_in code.bytes) (record { pc = pc; insn = insns.Pooled n index; next = next })) new placed in
            let named = insns_sound.new_classes pc next index type at is in
            let class = made_class type there (concrete (used_there pc next 187 index at)) named.0 named.1 in
            (named.0, class.0, named.1, class.1, class.2)

    -- ---- fields

    taken : (op index : ℕ) (ref : MemberRef) → operand_at program m index ≡ Some (OfMember ref) → within 178 181 op ≡ true → Contains (uses_of program method.class) (record { op = op; index = index })
        → can_take program op (member_of program ref.owner ref.name ref.desc) ≡ true
    taken op index ref is low used = by_can (can_take program op (member_of program ref.owner ref.name ref.desc)) refl
      where
        resolved : resolved_at program method.class index ≡ member_of program ref.owner ref.name ref.desc
        resolved = ap (λ (o : Option Operand). option_and_then (resolved_operand program) o) (sym (operand_is index) ∙ is)

        by_can : (b : Bool) → can_take program op (member_of program ref.owner ref.name ref.desc) ≡ b → can_take program op (member_of program ref.owner ref.name ref.desc) ≡ true
        by_can true e = e
        by_can false e = absurd (lacks method.class (record {
          used = record { op = op; index = index };
          is_there = used;
          is_wrong = both_and (or_left (takes_field op) (takes_method op) low) (or_left (not (can_take program op (resolved_at program method.class index))) _ (ap (λ (o : Option Member). not (can_take program op o)) resolved ∙ ap not e));
        }))

    field_by : (op : ℕ) (ref : MemberRef) → HasItsType ref → within 178 181 op ≡ true → (owner : TypeRef) → (b : Bool) → is_of_method ref.desc ≡ b
        → can_take program op (if b then option_map (λ own. OfMethod own) (resolve_method program (receiver_class owner) ref.name ref.desc) else field_of program owner ref.name ref.desc) ≡ true
        → IsSoundField program op (record { owner = owner; name = ref.name; desc = ref.desc })
    field_by op ref typed low owner true of_method can = absurd (no_method (resolve_method program (receiver_class owner) ref.name ref.desc) can)
      where
        no_method : (o : Option ℕ) → can_take program op (option_map (λ own. OfMethod own) o) ≡ true → ⊥
        no_method None e = absurd (cc)
        no_method (Some own) e = low_and_high op low (and_both (takes_method op) _ e).0
    field_by op ref typed low (OfArray desc) false of_field can = absurd (cc)
    field_by op ref typed low (OfClass d) false of_field can = by_field (resolve_field program d ref.name ref.desc) refl can
      where
        by_field : (o : Option ℕ) → resolve_field program d ref.name ref.desc ≡ o → can_take program op (option_map (λ own. OfField own) o) ≡ true
            → IsSoundField program op (record { owner = OfClass d; name = ref.name; desc = ref.desc })
        by_field None found e = absurd (cc)
        by_field (Some f) found e =
            let stands = resolved_above program d f ref.name ref.desc found in
            let type = typed of_field in
            let type_is : field_desc_in stands.field.desc ≡ Some type.0 = ap field_desc_in stands.desc_is ∙ type.1 in
            let flag : has_flag static_flag stands.field.flags ≡ (op == 178 || op == 179) =
            sym (ap (λ (o : Option Field). is_static_field o) stands.is_field) ∙ static_by (needs_static op) _ (and_both (takes_field op) _ e).1 ∙ needs_by (op == 178) (op == 179) (op == 184) (no_call op low) in
            record {
              field = f;
              type = type.0;
              is_named = found;
              is_typed = type.1;
              static = λ is. record { field = stands.field; is_field = stands.is_field; is_static = flag ∙ is; type_is = type_is };
              own = λ is. record { field = stands.field; is_field = stands.is_field; type_is = type_is };
              held = λ is. each_holds program sound implemented members d f ref.desc stands (flag ∙ is);
            }

    field_sound : (pc next op index : ℕ) (ref : MemberRef) → Contains (insns_in code.bytes) (record { pc = pc; insn = insns.Pooled op index; next = next }) → operand_at program m index ≡ Some (OfMember ref)
        → within 178 181 op ≡ true → IsSoundField program op ref
    field_sound pc next op index ref among is low =
        field_by op ref (entry_sound index (OfMember ref) is) low ref.owner (is_of_method ref.desc) refl (taken op index ref is low (used_there pc next op index among))

    -- ---- all operands

    operand_sound : (pc next op index : ℕ) → Contains (insns_in code.bytes) (record { pc = pc; insn = insns.Pooled op index; next = next }) → (o : Option Operand) → operand_at program m index ≡ o
        → IsSoundOperand program op o
    operand_sound pc next op index among None is = tt
    operand_sound pc next op index among (Some Unused) is = tt
    operand_sound pc next op index among (Some (IntOperand z)) is = entry_sound index (IntOperand z) is
    operand_sound pc next op index among (Some (Text text)) is = text_there index text is
    operand_sound pc next op index among (Some (OfType type)) is = type_sound pc next op index type among is
    operand_sound pc next op index among (Some (OfMember ref)) is = λ low. field_sound pc next op index ref among is low

    insn_sound : (pc next : ℕ) (insn : Insn) → Contains (insns_in code.bytes) (record { pc = pc; insn = insn; next = next }) → IsSoundInsn program m insn
    insn_sound pc next (insns.Plain op) among = tt
    insn_sound pc next (insns.Local op index wide) among = tt
    insn_sound pc next (insns.Iinc index by wide) among = tt
    insn_sound pc next (insns.Push op value) among = tt
    insn_sound pc next (insns.Pooled op index) among = operand_sound pc next op index among (operand_at program m index) refl
    insn_sound pc next (insns.Array kind) among = tt
    insn_sound pc next (insns.Jump op by) among = tt
    insn_sound pc next (insns.TableSwitch other low high at) among = tt
    insn_sound pc next (insns.LookupSwitch other pairs at) among = tt

    pub code_sound : HasSoundCode program m code
    code_sound = record {
      bytes = insns_sound.bytes;
      operands = λ pc next insn reached is. insn_sound pc next insn (reached_listed program m method code is_method has_code insns_sound.whole pc next insn reached is);
    }

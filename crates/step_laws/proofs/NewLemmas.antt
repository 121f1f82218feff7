-- A new object or array is typed, and leaves the state typed.
use Rattle.std.proofs.Common.{◌≡◌, ◌⊎◌, ◌∙◌, ℕ, suc, zero, ◌<◌, Bool, true, false, not, ◌&&◌, List, [], ◌∷◌, ◌++◌, replicate, Option, Some, None, pos, refl, sym, ap, subst, inl, inr, arith, append-nil}
use Rattle.std.specs.Prelude.{◌==◌, slice_get, if◌then◌else◌, option_and_then, Contains}
use Rattle.std.proofs.lemmas.Bool.{ne_eqb, cond-false}
use Rattle.std.proofs.lemmas.List.{length-replicate}
use Rattle.jo_text.specs.declared.descriptors.Base.{Base}
use Rattle.jo_text.specs.declared.descriptors.Base.TheVariants.{Byte, Char, Double, Float, Int as IntBase, Long, Short, Boolean, Class as OfName}
use Rattle.jo_text.specs.declared.descriptors.FieldDesc.{FieldDesc}
use Rattle.jo_text.specs.Descriptors.{field_text}
use Rattle.jo_text.specs.Scan.{read_field}
use Rattle.jo_text.proofs.DescriptorFields.{field_taken}
use Rattle.jo_insn.specs.AccessFlags.{has_flag, static_flag}
use Rattle.jo_prog.specs.declared.program.Program.{Program}
use Rattle.jo_prog.specs.declared.program.Class.{Class}
use Rattle.jo_prog.specs.declared.program.Field.{Field}
use Rattle.jo_prog.specs.declared.program.TypeRef.TheVariants.{Class as OfClass, Array as OfArray}
use Rattle.jo_prog.specs.Program.{class_at}
use Rattle.jo_prog.specs.Constants.{default_value}
use Rattle.jo_prog.specs.MethodTypes.{whole, field_desc_in}
use Rattle.jo_prog.specs.Hierarchy.{superclasses}
use Rattle.jo_prog.specs.Types.{class_named}
use Rattle.jo_prog.specs.Typing.{Kind, Int, Ref}
use Rattle.jo_prog.specs.Shapes.{class_kind, base_kind, kind_of_type}
use Rattle.jo_prog.specs.Values.{Value, int, null, Info, object, array}
use Rattle.jo_prog.specs.Machine.{HeapObject, State}
use Rattle.jo_prog.proofs.WalkLemmas.{none_there, head_or_behind, here, behind, in_flat_map}
use Rattle.machine.specs.Heaps.{is_class_type, first_element, first_content, own_contents, first_contents, new_object, with_new}
use Rattle.step_laws.specs.TypedStates.{an_int, no_object, unset, set, IsOnStack, kind_of_desc, IsFieldContent, IsTypedObject, of_class, of_array, IsTypedState}
use Rattle.step_laws.specs.Growth.{GrowsTo, CanBeMade}
use Rattle.step_laws.proofs.KeptLemmas.{state_kept, object_kept}

-- ---- lists

same_some : {X : Type 0} {x y : X} → Some x ≡ Some y → x ≡ y
same_some e = cc

contains_at : {X : Type 0} (xs : List X) (k : ℕ) (x : X) → slice_get xs k ≡ Some x → Contains xs x
contains_at [] k x e = absurd (cc)
contains_at {X = X} (y ∷ ys) zero x e = subst (λ (z : X). Contains (y ∷ ys) z) (same_some e) (here y ys)
contains_at (y ∷ ys) (suc k) x e = behind y ys x (contains_at ys k x e)

replicated : {X : Type 0} (n : ℕ) (x : X) (k : ℕ) (y : X) → slice_get (replicate n x) k ≡ Some y → x ≡ y
replicated zero x k y e = absurd (cc)
replicated (suc n) x zero y e = same_some e
replicated (suc n) x (suc k) y e = replicated n x k y e

pub push_kept : {X : Type 0} (xs : List X) (y : X) (k : ℕ) (x : X) → slice_get xs k ≡ Some x → slice_get (xs ++ y ∷ []) k ≡ Some x
push_kept [] y k x e = absurd (cc)
push_kept (z ∷ zs) y zero x e = e
push_kept (z ∷ zs) y (suc k) x e = push_kept zs y k x e

pub push_read : {X : Type 0} (xs : List X) (y : X) (k : ℕ) (x : X) → slice_get (xs ++ y ∷ []) k ≡ Some x → (y ≡ x) ⊎ (slice_get xs k ≡ Some x)
push_read [] y zero x e = inl (same_some e)
push_read [] y (suc k) x e = absurd (cc)
push_read (z ∷ zs) y zero x e = inr e
push_read (z ∷ zs) y (suc k) x e = push_read zs y k x e

-- ---- first values

module _ (program : Program) (heap : List HeapObject) where
  zero_holds : IsOnStack program heap Int (int (pos 0))
  zero_holds = set Int (int (pos 0)) (an_int (pos 0) (record { sfits = omega arith }))

  null_holds : (o : Option ℕ) → IsOnStack program heap (class_kind o) null
  null_holds None = unset (Some null)
  null_holds (Some c) = set (Ref (OfClass c)) null (no_object (OfClass c))

  array_null : (type : FieldDesc) → 0 < type.dims → IsOnStack program heap (kind_of_type program type) null
  array_null type some =
      subst (λ (kind : Kind). IsOnStack program heap kind null) (sym (cond-false (type.dims == 0) (base_kind program type.base) (Ref (OfArray type)) (ne_eqb type.dims 0 (λ e. omega arith))))
      (set (Ref (OfArray type)) null (no_object (OfArray type)))

  element_holds : (type : FieldDesc) → IsOnStack program heap (kind_of_type program type) (first_element type)
  element_holds type = by_dims (type.dims == 0)
    where
      by_base : (base : Base) → IsOnStack program heap (base_kind program base) (if not (is_class_type base) then int (pos 0) else null)
      by_base Byte = zero_holds
      by_base Char = zero_holds
      by_base Double = unset (Some (int (pos 0)))
      by_base Float = unset (Some (int (pos 0)))
      by_base IntBase = zero_holds
      by_base Long = unset (Some (int (pos 0)))
      by_base Short = zero_holds
      by_base Boolean = zero_holds
      by_base (OfName name) = null_holds (class_named program name)

      by_dims : (b : Bool) → IsOnStack program heap (if b then base_kind program type.base else Ref (OfArray type)) (if b && not (is_class_type type.base) then int (pos 0) else null)
      by_dims true = by_base type.base
      by_dims false = set (Ref (OfArray type)) null (no_object (OfArray type))

  default_of : (dims : ℕ) (base : Base) → IsOnStack program heap (kind_of_type program (record { dims = dims; base = base })) (default_value (field_text (record { dims = dims; base = base })))
  default_of zero Byte = zero_holds
  default_of zero Char = zero_holds
  default_of zero Double = unset (Some (int (pos 0)))
  default_of zero Float = unset (Some (int (pos 0)))
  default_of zero IntBase = zero_holds
  default_of zero Long = unset (Some (int (pos 0)))
  default_of zero Short = zero_holds
  default_of zero Boolean = zero_holds
  default_of zero (OfName name) = null_holds (class_named program name)
  default_of (suc n) base = array_null (record { dims = suc n; base = base }) (omega arith)

  spelled : (desc : List ℕ) (found : Option (FieldDesc × List ℕ)) → read_field desc ≡ found → (type : FieldDesc) → option_and_then whole found ≡ Some type → desc ≡ field_text type
  spelled desc None e type is = absurd (cc)
  spelled desc (Some (own, [])) e type is = (field_taken desc own [] (sym e)).0 ∙ append-nil (field_text own) ∙ ap field_text (same_some is)
  spelled desc (Some (own, b ∷ rest)) e type is = absurd (cc)

  pub default_holds : (desc : List ℕ) → IsOnStack program heap (kind_of_desc program (field_desc_in desc)) (default_value desc)
  default_holds desc = by_type (field_desc_in desc) refl
    where
      by_type : (o : Option FieldDesc) → field_desc_in desc ≡ o → IsOnStack program heap (kind_of_desc program o) (default_value desc)
      by_type None e = unset (Some (default_value desc))
      by_type (Some type) e =
          subst (λ (d : List ℕ). IsOnStack program heap (kind_of_type program type) (default_value d)) (sym (spelled desc (read_field desc) refl type e)) (default_of type.dims type.base)

  -- ---- the fields of an object

  content_first : (f : ℕ) (o : Option Field) → slice_get program.fields f ≡ o → (content : ℕ × Value ℕ) → Contains (first_content f o) content → IsFieldContent program heap content
  content_first f None is content there = absurd (none_there content there)
  content_first f (Some own) is content there = by_test (has_flag static_flag own.flags) there
    where
      by_test : (b : Bool) → Contains (if b then [] else (f, default_value own.desc) ∷ []) content → IsFieldContent program heap content
      by_test true there = absurd (none_there content there)
      by_test false there = elim (head_or_behind (f, default_value own.desc) [] content there) [
        | inl same ↦ subst (IsFieldContent program heap) same (record { field = own; is_field = is; fits = default_holds own.desc })
        | inr later ↦ absurd (none_there content later)
      ]

  contents_own : (o : Option Class) (content : ℕ × Value ℕ) → Contains (own_contents program o) content → IsFieldContent program heap content
  contents_own None content there = absurd (none_there content there)
  contents_own (Some class) content there =
      let found = in_flat_map (λ f. first_content f (slice_get program.fields f)) class.fields content there in
      content_first found.0 (slice_get program.fields found.0) refl content found.2

  contents_first : (c : ℕ) (content : ℕ × Value ℕ) → Contains (first_contents program c) content → IsFieldContent program heap content
  contents_first c content there =
      let found = in_flat_map (λ above. own_contents program (class_at program above)) (superclasses program c) content there in
      contents_own (class_at program found.0) content found.2

  pub new_typed : (info : Info) → CanBeMade program info → IsTypedObject program heap (new_object program info)
  new_typed (object c) can =
      of_class (new_object program (object c)) c can.0 refl can.1 can.2 refl (λ k content at. contents_first c content (contains_at (first_contents program c) k content at))
  new_typed (array type count) can =
      of_array (new_object program (array type count)) type count refl (length-replicate count (first_element type)) can
      (λ k v at. subst (λ (x : Value ℕ). IsOnStack program heap (kind_of_type program type) x) (replicated count (first_element type) k v at) (element_holds type))

-- ---- the state

pub new_kept : (program : Program) (s : State) → IsTypedState program s → (info : Info) → CanBeMade program info → IsTypedState program (with_new s (new_object program info))
new_kept program s state info can = state_kept program s (s.heap ++ new_object program info ∷ []) s.statics state grows objects refl (λ f v at. inl at)
  where
    grows : GrowsTo s.heap (s.heap ++ new_object program info ∷ [])
    grows = record { keeps = λ a o is. record { found = o; is_there = push_kept s.heap (new_object program info) a o is; same_info = refl; started = λ h. h } }

    objects : (a : ℕ) (o : HeapObject) → slice_get (s.heap ++ new_object program info ∷ []) a ≡ Some o → IsTypedObject program (s.heap ++ new_object program info ∷ []) o
    objects a o at = elim (push_read s.heap (new_object program info) a o at) [
      | inl same ↦ subst (IsTypedObject program (s.heap ++ new_object program info ∷ [])) same (new_typed program (s.heap ++ new_object program info ∷ []) info can)
      | inr before ↦ object_kept program s.heap (s.heap ++ new_object program info ∷ []) grows o (state.objects a o before)
    ]

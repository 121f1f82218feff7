-- A value of a kind is as an instruction asks, where the kind passes.
use Rattle.std.proofs.Common.{◌≡◌, ◌∙◌, ℕ, ◌+◌, true, false, not, List, [], ◌∷◌, Option, Some, ℤ, w32, FitsSigned, refl, sym, ap, subst, inl, inr, arith}
use Rattle.std.specs.Prelude.{◌==◌, nat_lt, slice_get}
use Rattle.std.specs.List.{list_any}
use Rattle.std.proofs.lemmas.Bool.{or_cases, or_left, or_right, and_parts, and_from, cases_Bool, eqb-true, eq-eqb, ne_eqb, ltb-true, not_from_false}
use Rattle.jo_text.specs.declared.descriptors.FieldDesc.{FieldDesc}
use Rattle.jo_prog.specs.declared.program.Program.{Program}
use Rattle.jo_prog.specs.declared.program.TypeRef.{TypeRef}
use Rattle.jo_prog.specs.declared.program.TypeRef.TheVariants.{Class as OfClass, Array as OfArray}
use Rattle.jo_prog.specs.PreludeClasses.{object_number}
use Rattle.jo_prog.specs.Types.{letter_of, array_fits, type_fits}
use Rattle.jo_prog.specs.Typing.{Kind, Int, Null, Ref, Unset}
use Rattle.jo_prog.specs.Shapes.{Need, Anything, AnInt, AReference, OfEach, AnArray, ArrayOfReferences, ArrayOf, Nothing, takes_type, fits_each, is_class_base, has_references, is_array_of, array_passes, object_passes, null_passes, int_passes, unset_passes, passes, need_of}
use Rattle.jo_prog.specs.Values.{Value, int, null, ref, Info, object, array}
use Rattle.jo_prog.specs.Machine.{HeapObject}
use Rattle.machine.specs.Invocation.{type_of}
use Rattle.step_laws.specs.TypedStates.{HasKind, an_int, a_null, no_object, an_object, PlaceHasKind, unset, set, IsOnStack, IsTypedObject, of_class, of_array, has_dims}
use Rattle.step_laws.specs.Premises.{HasSoundHierarchy, IsBelowObject}
use Rattle.step_laws.specs.Needs.{IsArrayWith, is_reference_type, has_letter, IntMeets, ReferenceMeets, Meets, IsPlainNeed, HasDims, AreTypedObjects}
use Rattle.step_laws.proofs.TypeLemmas.{never, takes_on, arrays_fit, by_letters, letters, is_class, object_base}

module _ (program : Program) (sound : HasSoundHierarchy program) (heap : List HeapObject) (typed : AreTypedObjects program heap) where
  -- ---- what stands on the heap is below java/lang/Object

  object_below : (o : HeapObject) → IsTypedObject program heap o → IsBelowObject program (type_of o.info)
  object_below o (of_class _ c class is found made fields contents) =
      subst (λ (info : Info). IsBelowObject program (type_of info)) (sym is) (sound.below_object c class found)
  object_below o (of_array _ type count is long fits elements) =
      subst (λ (info : Info). IsBelowObject program (type_of info)) (sym is) (eq-eqb object_number object_number refl)

  pub below_object : (a : ℕ) (o : HeapObject) → slice_get heap a ≡ Some o → IsBelowObject program (type_of o.info)
  below_object a o is = object_below o (typed a o is)

  -- ---- each need

  int_meets : (need : Need) (z : ℤ) → int_passes need ≡ true → FitsSigned w32 z → IntMeets need z
  int_meets Anything z p f = tt
  int_meets AnInt z p f = f
  int_meets AReference z p f = never p
  int_meets (OfEach types) z p f = never p
  int_meets AnArray z p f = never p
  int_meets ArrayOfReferences z p f = never p
  int_meets (ArrayOf letters) z p f = never p
  int_meets Nothing z p f = never p

  null_meets : (need : Need) (type : TypeRef) → passes program need (Ref type) ≡ true → null_passes need ≡ true
  null_meets Anything type p = refl
  null_meets AnInt (OfClass c) p = never p
  null_meets AnInt (OfArray desc) p = never p
  null_meets AReference type p = refl
  null_meets (OfEach types) type p = refl
  null_meets AnArray type p = refl
  null_meets ArrayOfReferences type p = refl
  null_meets (ArrayOf letters) type p = refl
  null_meets Nothing (OfClass c) p = never p
  null_meets Nothing (OfArray desc) p = never p

  each_along : (given type : TypeRef) (types : List TypeRef) → IsBelowObject program given → takes_type program given type ≡ true
      → fits_each program type types ≡ true → fits_each program given types ≡ true
  each_along given type [] below takes p = refl
  each_along given type (needed ∷ more) below takes p =
      let both = and_parts (takes_type program type needed) (fits_each program type more) p in
      and_from (takes_type program given needed) (fits_each program given more)
      (takes_on program sound given type needed below takes both.0) (each_along given type more below takes both.1)

  -- what fits an array type is an array
  array_of_type : (P : FieldDesc → Type 0) (desc : FieldDesc) (info : Info) → type_fits program (type_of info) (OfArray desc) ≡ true
      → ((type : FieldDesc) → array_fits program (record { dims = type.dims + 1; base = type.base }) desc ≡ true → P type) → IsArrayWith P info
  array_of_type P desc (object c) fits holds = never fits
  array_of_type P desc (array type count) fits holds = holds type fits

  references_in : (type desc : FieldDesc) → array_fits program (record { dims = type.dims + 1; base = type.base }) desc ≡ true
      → has_references desc ≡ true → nat_lt 0 desc.dims ≡ true → is_reference_type type ≡ true
  references_in type desc fits has dims = elim (arrays_fit program (record { dims = type.dims + 1; base = type.base }) desc fits) [
    | inl h ↦ elim (or_cases (nat_lt 1 desc.dims) (is_class_base desc.base) has) [
      | inl deep ↦ or_left (not (type.dims == 0)) (is_class_base type.base) (not_from_false (type.dims == 0) (ne_eqb type.dims 0 (λ e. omega (arith, h.0, ltb-true 1 desc.dims deep))))
      | inr named ↦ or_right (not (type.dims == 0)) (is_class_base type.base) (ap is_class_base (is_class program sound type.base desc.base h.1 named).1)
    ]
    | inr h ↦ or_left (not (type.dims == 0)) (is_class_base type.base) (not_from_false (type.dims == 0) (ne_eqb type.dims 0 (λ e. omega (arith, h.0, ltb-true 0 desc.dims dims))))
  ]

  letters_in : (these : List ℕ) (type desc : FieldDesc) → array_fits program (record { dims = type.dims + 1; base = type.base }) desc ≡ true
      → is_array_of these desc ≡ true → list_any (λ letter. letter == 76) these ≡ false → has_letter these type ≡ true
  letters_in these type desc fits has plain = by_parts (and_parts (desc.dims == 1) (list_any (λ letter. letter == letter_of desc.base) these) has)
    where
      of_class_base : letter_of desc.base ≡ 76 → list_any (λ letter. letter == letter_of desc.base) these ≡ true → has_letter these type ≡ true
      of_class_base e any = never (sym plain ∙ subst (λ (n : ℕ). list_any (λ letter. letter == n) these ≡ true) e any)

      of_named : is_class_base desc.base ≡ true → list_any (λ letter. letter == letter_of desc.base) these ≡ true → has_letter these type ≡ true
      of_named is any = of_class_base (eqb-true (letter_of desc.base) 76 (sym (letters desc.base) ∙ is)) any

      by_parts : ((desc.dims == 1) ≡ true) × (list_any (λ letter. letter == letter_of desc.base) these ≡ true) → has_letter these type ≡ true
      by_parts both = elim (arrays_fit program (record { dims = type.dims + 1; base = type.base }) desc fits) [
        | inl h ↦ elim (cases_Bool (is_class_base desc.base)) [
          | inl is ↦ of_named is both.1
          | inr other ↦
              let flat : type.dims ≡ 0 = omega (arith, h.0, eqb-true desc.dims 1 both.0) in
              let same : letter_of type.base ≡ letter_of desc.base = eqb-true (letter_of type.base) (letter_of desc.base) (sym (by_letters program type.base desc.base other) ∙ h.1) in
              and_from (type.dims == 0) (list_any (λ letter. letter == letter_of type.base) these) (eq-eqb type.dims 0 flat)
              (subst (λ (n : ℕ). list_any (λ letter. letter == n) these ≡ true) (sym same) both.1)
        ]
        | inr h ↦ of_named (ap is_class_base (object_base desc.base h.1)) both.1
      ]

  module _ (a : ℕ) (o : HeapObject) (is : slice_get heap a ≡ Some o) where
    class_meets : (need : Need) (c : ℕ) → takes_type program (type_of o.info) (OfClass c) ≡ true → object_passes program need c ≡ true → ReferenceMeets program heap need a
    class_meets Anything c takes p = tt
    class_meets AnInt c takes p = never p
    class_meets AReference c takes p = record { found = o; is_there = is; fits = tt }
    class_meets (OfEach types) c takes p = record { found = o; is_there = is; fits = each_along (type_of o.info) (OfClass c) types (below_object a o is) takes p }
    class_meets AnArray c takes p = never p
    class_meets ArrayOfReferences c takes p = never p
    class_meets (ArrayOf letters) c takes p = never p
    class_meets Nothing c takes p = never p

    array_meets : (need : Need) (desc : FieldDesc) → IsPlainNeed need → nat_lt 0 desc.dims ≡ true
        → takes_type program (type_of o.info) (OfArray desc) ≡ true → array_passes program need desc ≡ true → ReferenceMeets program heap need a
    array_meets Anything desc plain dims takes p = tt
    array_meets AnInt desc plain dims takes p = never p
    array_meets AReference desc plain dims takes p = record { found = o; is_there = is; fits = tt }
    array_meets (OfEach types) desc plain dims takes p = record { found = o; is_there = is; fits = each_along (type_of o.info) (OfArray desc) types (below_object a o is) takes p }
    array_meets AnArray desc plain dims takes p = record { found = o; is_there = is; fits = array_of_type (λ type. Unit {0}) desc o.info takes (λ type fits. tt) }
    array_meets ArrayOfReferences desc plain dims takes p = record {
      found = o;
      is_there = is;
      fits = array_of_type (λ type. is_reference_type type ≡ true) desc o.info takes (λ type fits. references_in type desc fits p dims);
    }
    array_meets (ArrayOf letters) desc plain dims takes p = record {
      found = o;
      is_there = is;
      fits = array_of_type (λ type. has_letter letters type ≡ true) desc o.info takes (λ type fits. letters_in letters type desc fits p plain);
    }
    array_meets Nothing desc plain dims takes p = never p

    ref_meets : (need : Need) (type : TypeRef) → IsPlainNeed need → has_dims type ≡ true
        → takes_type program (type_of o.info) type ≡ true → passes program need (Ref type) ≡ true → ReferenceMeets program heap need a
    ref_meets need (OfClass c) plain dims takes p = class_meets need c takes p
    ref_meets need (OfArray desc) plain dims takes p = array_meets need desc plain dims takes p

  pub kind_meets : (need : Need) (kind : Kind) (v : Value ℕ) → IsPlainNeed need → passes program need kind ≡ true → HasKind program heap kind v → Meets program heap need v
  kind_meets need kind v plain p (an_int z fits) = int_meets need z p fits
  kind_meets need kind v plain p a_null = p
  kind_meets need kind v plain p (no_object type) = null_meets need type p
  kind_meets need kind v plain p (an_object type a o is takes dims) = ref_meets a o is need type plain dims takes p

  -- of an unset place nothing is known, and anything passes alone
  anything_meets : (need : Need) (v : Value ℕ) → unset_passes need ≡ true → Meets program heap need v
  anything_meets Anything (int z) p = tt
  anything_meets Anything null p = refl
  anything_meets Anything (ref a) p = tt
  anything_meets AnInt v p = never p
  anything_meets AReference v p = never p
  anything_meets (OfEach types) v p = never p
  anything_meets AnArray v p = never p
  anything_meets ArrayOfReferences v p = never p
  anything_meets (ArrayOf letters) v p = never p
  anything_meets Nothing v p = never p

  pub place_meets : (need : Need) (kind : Kind) (v : Value ℕ) → IsPlainNeed need → passes program need kind ≡ true → IsOnStack program heap kind v → Meets program heap need v
  place_meets need kind v plain p holds = by_content need kind (Some v) v refl plain p holds
    where
      by_content : (need : Need) (kind : Kind) (o : Option (Value ℕ)) (v : Value ℕ) → o ≡ Some v → IsPlainNeed need → passes program need kind ≡ true → PlaceHasKind program heap kind o → Meets program heap need v
      by_content need kind o v e plain p (unset content) = anything_meets need v p
      by_content need kind o v e plain p (set _ w holds) = subst (λ (x : Value ℕ). Meets program heap need x) (some_same w v e) (kind_meets need kind w plain p holds)
        where
          some_same : (x y : Value ℕ) → Some x ≡ Some y → x ≡ y
          some_same x y f = cc

  -- ---- what meets the need of a kind is of the kind

  pub meets_kind : (kind : Kind) (v : Value ℕ) → HasDims kind → Meets program heap (need_of kind) v → HasKind program heap kind v
  meets_kind Int (int z) dims m = an_int z m
  meets_kind Int null dims m = never m
  meets_kind Int (ref a) dims m = absurd m.fits
  meets_kind Null (int z) dims m = absurd m
  meets_kind Null null dims m = never m
  meets_kind Null (ref a) dims m = absurd m.fits
  meets_kind (Ref type) (int z) dims m = absurd m
  meets_kind (Ref type) null dims m = no_object type
  meets_kind (Ref type) (ref a) dims m =
      an_object type a m.found m.is_there (and_parts (takes_type program (type_of m.found.info) type) true m.fits).0 dims
  meets_kind Unset (int z) dims m = absurd m
  meets_kind Unset null dims m = never m
  meets_kind Unset (ref a) dims m = absurd m.fits

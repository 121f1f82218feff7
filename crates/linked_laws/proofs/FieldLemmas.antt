-- A field that a class resolves is one of a class above it, and where it is of instances each object of the class has it.
use Rattle.std.proofs.Common.{◌≡◌, ◌∙◌, ℕ, Bool, true, false, ◌&&◌, List, [], ◌∷◌, map, length, Option, Some, None, refl, sym, subst, ◌⊎◌, inl, inr}
use Rattle.std.specs.Prelude.{◌==◌, slice_get, if◌then◌else◌, option_and_then}
use Rattle.std.specs.List.{Contains}
use Rattle.std.specs.Str.{bytes_eq}
use Rattle.std.specs.Cmp.Lexicographic.{bytes_decides}
use Rattle.std.proofs.lemmas.Bool.{or_cases, eqb-true}
use Rattle.std.proofs.lemmas.Option.{same_Some}
use Rattle.std.proofs.lemmas.List.Elements.{Contains-append_cases, Contains-append_right}
use Rattle.jo_ids.specs.Path.{Path, stays, goes}
use Rattle.jo_ids.proofs.PathLemmas.{path_on, kept_along}
use Rattle.jo_insn.specs.AccessFlags.{has_flag, static_flag}
use Rattle.jo_prog.specs.declared.program.Program.{Program}
use Rattle.jo_prog.specs.declared.program.Class.{Class}
use Rattle.jo_prog.specs.declared.program.Field.{Field}
use Rattle.jo_prog.specs.declared.program.TypeRef.TheVariants.{Class as OfClass}
use Rattle.jo_prog.specs.Program.{class_at}
use Rattle.jo_prog.specs.PreludeClasses.{object_number}
use Rattle.jo_prog.specs.Constants.{default_value}
use Rattle.jo_prog.specs.Hierarchy.{superclass_of, interfaces_of, parents_of, Subtype, most_steps, supertypes, superclasses, is_subtype, is_field, first_field, own_field, resolve_field}
use Rattle.jo_prog.specs.Shapes.{is_interface}
use Rattle.jo_prog.specs.Values.{Value}
use Rattle.jo_prog.specs.Walks.{Leads}
use Rattle.jo_prog.proofs.WalkLemmas.{here, behind, head_or_behind, none_there, to_flat_map, walk_reaches, walk_has_reached, is_first}
use Rattle.jo_prog.proofs.HierarchyLemmas.{parents_inside, from_superclass, no_superclass_cycle, subtype_along}
use Rattle.machine.specs.Heaps.{first_content, own_contents, first_contents}
use Rattle.step_laws.specs.Premises.{HasSoundHierarchy}
use Rattle.step_laws.specs.Effects.{HasField}
use Rattle.linked_laws.specs.Codes.{HasSoundMembers}

-- ---- what is resolved

-- a class at or above another lists the field, with this descriptor
pub record StandsAbove (program : Program) (d f : ℕ) (desc : List ℕ) : Type 0 where
  pub above : ℕ
  pub way : Subtype program d above
  pub class : Class
  pub is_class : class_at program above ≡ Some class
  pub listed : Contains class.fields f
  pub field : Field
  pub is_field : slice_get program.fields f ≡ Some field
  pub desc_is : field.desc ≡ desc

and_both : (a b : Bool) → (a && b) ≡ true → (a ≡ true) × (b ≡ true)
and_both true b h = (refl, h)
and_both false b h = absurd (cc)

module _ (program : Program) where
  abbrev IsSuch : ℕ → List ℕ → Type 0
  IsSuch f desc = (field : Field) × (slice_get program.fields f ≡ Some field) × (field.desc ≡ desc)

  such : (name desc : List ℕ) (f : ℕ) (o : Option Field) → slice_get program.fields f ≡ o → is_field name desc o ≡ true → IsSuch f desc
  such name desc f None at is = absurd (cc)
  such name desc f (Some field) at is = (field, at, (bytes_decides field.desc desc).0 (and_both (bytes_eq field.name name) (bytes_eq field.desc desc) is).1)

  first_in : (name desc : List ℕ) (fs : List ℕ) (f : ℕ) → first_field program name desc fs ≡ Some f → Contains fs f × IsSuch f desc
  first_in name desc [] f found = absurd (cc)
  first_in name desc (g ∷ gs) f found = by_test (is_field name desc (slice_get program.fields g)) refl found (λ rest. first_in name desc gs f rest)
    where
      by_test : (b : Bool) → is_field name desc (slice_get program.fields g) ≡ b → (if b then Some g else first_field program name desc gs) ≡ Some f
          → (first_field program name desc gs ≡ Some f → Contains gs f × IsSuch f desc) → Contains (g ∷ gs) f × IsSuch f desc
      by_test true is at further =
          subst (λ (h : ℕ). Contains (g ∷ gs) h × IsSuch h desc) (same_Some g f at) (here g gs, such name desc g (slice_get program.fields g) refl is)
      by_test false is at further = let more = further at in (behind g gs f more.0, more.1)

  in_supertypes : (d k : ℕ) → Contains (supertypes program d) k → Subtype program d k
  unfolding supertypes
  in_supertypes d k among = walk_reaches (parents_of program) (most_steps program) d k among

  pub resolved_above : (d f : ℕ) (name desc : List ℕ) → resolve_field program d name desc ≡ Some f → StandsAbove program d f desc
  resolved_above d f name desc found =
      let first = is_first (own_field program name desc) (supertypes program d) f found in
      let among : Contains (supertypes program d) first.0 = subst (λ (ks : List ℕ). Contains ks first.0) (sym first.3) (Contains-append_right first.1 (first.0 ∷ first.2) first.0 (here first.0 first.2)) in
      by_class first.0 (in_supertypes d first.0 among) (class_at program first.0) refl first.5
    where
      by_class : (k : ℕ) → Subtype program d k → (o : Option Class) → class_at program k ≡ o → option_and_then (λ (class : Class). first_field program name desc class.fields) o ≡ Some f → StandsAbove program d f desc
      by_class k way None at is = absurd (cc)
      by_class k way (Some class) at is =
          let own = first_in name desc class.fields f is in
          record { above = k; way = way; class = class; is_class = at; listed = own.0; field = own.1.0; is_field = own.1.1; desc_is = own.1.2 }

  -- ---- above a class that is no interface stand classes

  module _ (sound : HasSoundHierarchy program) (implemented : (c p : ℕ) → Contains (interfaces_of program c) p → is_interface program (OfClass p) ≡ true) where
    abbrev IsHigh : ℕ → Type 0
    IsHigh c = (is_interface program (OfClass c) ≡ true) ⊎ (c ≡ object_number)

    stays_high : (a b : ℕ) → Leads (parents_of program) a b → IsHigh a → IsHigh b
    stays_high a b edge (inl flag) = sound.interfaces a b flag edge
    stays_high a b edge (inr same) =
        absurd (none_there b (subst (λ (ps : List ℕ). Contains ps b) sound.object_first (subst (λ (n : ℕ). Contains (parents_of program n) b) same edge)))

    pub high_above : (c k : ℕ) → Subtype program c k → IsHigh c → IsHigh k
    high_above c k way high = kept_along IsHigh stays_high way high

    pub by_superclasses : (c k : ℕ) → Subtype program c k → (IsHigh k → ⊥) → Path (Leads (superclass_of program)) c k
    by_superclasses c k (stays _) low = stays c
    by_superclasses c k (goes _ p _ edge more) low = elim (Contains-append_cases (interfaces_of program c) (superclass_of program c) p edge) [
      | inl first ↦ absurd (low (high_above p k more (inl (implemented c p first))))
      | inr last ↦ goes c p k last (by_superclasses p k more low)
    ]

    pub in_superclasses : (c k : ℕ) → Path (Leads (superclass_of program)) c k → Contains (superclasses program c) k
    unfolding superclasses
    in_superclasses c k way =
        walk_has_reached (superclass_of program) (no_superclass_cycle program sound.no_cycle) (length program.classes) (λ a b edge. parents_inside program a b (from_superclass program a b edge)) c k way

    -- ---- fields of instances

    mapped : {X Y : Type 0} (g : X → Y) (xs : List X) (x : X) → Contains xs x → Contains (map g xs) (g x)
    mapped g [] x among = absurd (none_there x among)
    mapped g (y ∷ ys) x among = elim (head_or_behind y ys x among) [
      | inl same ↦ subst (λ z. Contains (g y ∷ map g ys) (g z)) same (here (g y) (map g ys))
      | inr more ↦ behind (g y) (map g ys) (g x) (mapped g ys x more)
    ]

    module _ (members : HasSoundMembers program) (d f : ℕ) (desc : List ℕ) (found : StandsAbove program d f desc) (own : has_flag static_flag found.field.flags ≡ false) where
      not_high : IsHigh found.above → ⊥
      not_high (inl flag) = absurd (differ (sym own ∙ members.interface_fields found.above f found.class found.field found.is_class flag found.listed found.is_field))
        where
          differ : false ≡ true → ⊥
          differ e = absurd (cc)
      not_high (inr same) =
          none_there f (subst (λ (fs : List ℕ). Contains fs f) (members.object_fields found.class (subst (λ (n : ℕ). class_at program n ≡ Some found.class) same found.is_class)) found.listed)

      abbrev content : ℕ × Value ℕ
      content = (f, default_value found.field.desc)

      one_content : (b : Bool) → b ≡ false → Contains (if b then [] else content ∷ []) content
      one_content true e = absurd (cc)
      one_content false e = here content []

      in_class : Contains (own_contents program (class_at program found.above)) content
      in_class =
          subst (λ (o : Option Class). Contains (own_contents program o) content) (sym found.is_class)
          (to_flat_map (λ g. first_content g (slice_get program.fields g)) found.class.fields f content found.listed
          (subst (λ (o : Option Field). Contains (first_content f o) content) (sym found.is_field) (one_content (has_flag static_flag found.field.flags) own)))

      in_object : (c : ℕ) → Subtype program c found.above → Contains (map (λ (held : ℕ × Value ℕ). held.0) (first_contents program c)) f
      in_object c way =
          mapped (λ (held : ℕ × Value ℕ). held.0) (first_contents program c) content
          (to_flat_map (λ above. own_contents program (class_at program above)) (superclasses program c) found.above content (in_superclasses c found.above (by_superclasses c found.above way not_high)) in_class)

      low_owner : is_interface program (OfClass d) ≡ true → ⊥
      low_owner flag = not_high (high_above d found.above found.way (inl flag))

      pub each_holds : HasField program (OfClass d) f
      each_holds = record {
        objects = λ c class at takes. elim (or_cases (is_interface program (OfClass d)) (is_subtype program c d) takes) [
          | inl flag ↦ absurd (low_owner flag)
          | inr below ↦ in_object c (path_on (subtype_along program c d below) found.way)
        ];
        no_array = λ type takes. elim (or_cases (is_interface program (OfClass d)) (d == object_number) takes) [
          | inl flag ↦ low_owner flag
          | inr same ↦ not_high (high_above d found.above found.way (inr (eqb-true d object_number same)))
        ];
      }

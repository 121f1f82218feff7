-- With what a program begins.
use Rattle.std.proofs.Common.{◌≡◌, ◌⊎◌, inl, inr, ℕ, ◌+◌, ◌<◌, Bool, true, false, ◌&&◌, if◌then◌else◌, nat_lt, codes, List, [], length, Option, Some, None, slice_get, refl, sym, ap, ◌∙◌, subst, IsTrue, arith}
use Rattle.std.specs.Prelude.{◌↔◌}
use Rattle.std.proofs.lemmas.Bool.Decides.{nat_tests}
use Rattle.std.proofs.lemmas.Option.{same_Some, slice_get_within}
use Rattle.jo_insn.specs.AccessFlags.{has_flag, static_flag}
use Rattle.jo_text.specs.declared.descriptors.MethodDesc.{MethodDesc}
use Rattle.jo_text.specs.Descriptors.{SpellsMethod}
use Rattle.jo_text.proofs.DescriptorMethods.{method_once}
use Rattle.jo_prog.specs.declared.program.Program.{Program}
use Rattle.jo_prog.specs.declared.program.Field.{Field}
use Rattle.jo_prog.specs.declared.program.Method.{Method}
use Rattle.dep_nodes.specs.declared.kinds.NodeKind.TheVariants.{Param}
use Rattle.dependence.specs.declared.facts.FactCell.TheVariants.{Static}
use Rattle.dependence.specs.declared.facts.Fact.{Fact}
use Rattle.dependence.specs.declared.facts.Fact.TheVariants.{Reached, Holds, CellHolds}
use Rattle.dependence.specs.NodePlaces.{HasParameters}
use Rattle.dependence.specs.FactRules.{instance_at, string_object, args_object, is_text, IsTextField}
use Rattle.jo_ids.specs.declared.ObjKey.{ObjKey}
use Rattle.dependence.specs.declared.facts.InstKey.{InstKey}
use Rattle.fact_sets.specs.Seen.{instance_seen}
use Rattle.fact_rules.specs.Adds.{Adds, FromBelow}
use Rattle.fact_rules.specs.FirstRules
use Rattle.fact_rules.specs.FirstRules.{ByFirst, HasParameter, IsText, EntryGives, FieldGives}

same_parameters : (program : Program) (m one other : ℕ) → HasParameters program m one → HasParameters program m other → one ≡ other
same_parameters program m one other a b =
    let method : a.method ≡ b.method = same_Some a.method b.method (sym a.is ∙ b.is) in
    let desc : a.desc ≡ b.desc = method_once b.method.desc a.desc b.desc (subst (λ (x : Method). SpellsMethod a.desc x.desc) method a.spells) b.spells in
    let count : length a.desc.params + (if has_flag static_flag a.method.flags then 0 else 1) ≡ length b.desc.params + (if has_flag static_flag b.method.flags then 0 else 1) =
    ap (λ (d : MethodDesc). length d.params + (if has_flag static_flag a.method.flags then 0 else 1)) desc ∙ ap (λ (x : Method). length b.desc.params + (if has_flag static_flag x.flags then 0 else 1)) method in
    a.counts ∙ count ∙ sym b.counts

pub told_by_count : (program : Program) (m count : ℕ) → HasParameters program m count → IsTrue (nat_lt 0 count) ↔ HasParameter program m
told_by_count program m count has = (λ h. (count, has, positive h), back)
  where
    positive : IsTrue (nat_lt 0 count) → 0 < count
    positive h = grind (arith, nat_tests)

    told : 0 < count → IsTrue (nat_lt 0 count)
    told above = grind (arith, nat_tests)

    back : HasParameter program m → IsTrue (nat_lt 0 count)
    back (other, with, above) = told (subst (λ n. 0 < n) (same_parameters program m other count with has) above)

pub none_of_count : (program : Program) (m : ℕ) → ((count : ℕ) → HasParameters program m count → ⊥) → IsTrue false ↔ HasParameter program m
none_of_count program m none = (λ e. absurd (cc), back)
  where
    back : HasParameter program m → IsTrue false
    back (count, has, above) = absurd (none count has)

-- ---- fields

pub text_field : (program : Program) (f : ℕ) (field : Field) → slice_get program.fields f ≡ Some field → IsText field ↔ IsTextField program f
text_field program f field found = (λ is. record { field = field; found = found; is_static = is.is_static; desc = is.desc; has_value = is.has_value }, back)
  where
    back : IsTextField program f → IsText field
    back is =
        let same : is.field ≡ field = same_Some is.field field (sym is.found ∙ found) in
        subst IsText same (record { is_static = is.is_static; desc = is.desc; has_value = is.has_value })

-- ---- all together

abbrev AFact : Type 0
AFact = Fact (List ℕ)

within_fields : (program : Program) (f : ℕ) → IsTextField program f → f < length program.fields
within_fields program f is = at program.fields f is.field is.found
  where
    at : (fields : List Field) (k : ℕ) (field : Field) → slice_get fields k ≡ Some field → k < length fields
    at fields k field found = slice_get_within fields k field found

-- the three steps are the three rules
pub first_is : (program : Program) (entry : ℕ) (g : AFact)
    → ByFirst program entry g ↔ (((g ≡ Reached (instance_at entry [])) ⊎ EntryGives program entry g) ⊎ FromBelow (length program.fields) (FieldGives program) g)
first_is program entry g = (there, back)
  where
    there : {g : AFact} → ByFirst program entry g → ((g ≡ Reached (instance_at entry [])) ⊎ EntryGives program entry g) ⊎ FromBelow (length program.fields) (FieldGives program) g
    there FirstRules.enters = inl (inl refl)
    there (FirstRules.is_given count has above) = inl (inr ((count, has, above), refl))
    there (FirstRules.begins_with f is) = inr (f, within_fields program f is, (is, refl))

    back : ((g ≡ Reached (instance_at entry [])) ⊎ EntryGives program entry g) ⊎ FromBelow (length program.fields) (FieldGives program) g → ByFirst program entry g
    back (inl (inl e)) = subst (ByFirst program entry) (sym e) FirstRules.enters
    back (inl (inr ((count, has, above), e))) = subst (ByFirst program entry) (sym e) (FirstRules.is_given count has above)
    back (inr (f, below, (is, e))) = subst (ByFirst program entry) (sym e) (FirstRules.begins_with f is)

-- what one object gives
pub field_gives : (program : Program) (f : ℕ) (o : ObjKey (List ℕ)) → o ≡ string_object → IsTextField program f → (g : AFact) → (g ≡ CellHolds (Static f) o) ↔ FieldGives program f g
field_gives program f o is text g = (λ e. (text, e ∙ ap (CellHolds (Static f)) is), λ h. h.1 ∙ sym (ap (CellHolds (Static f)) is))

pub field_gives_none : (program : Program) (f : ℕ) → (IsTextField program f → ⊥) → (g : AFact) → FieldGives program f g → ⊥
field_gives_none program f none g h = none h.0

pub entry_gives : (program : Program) (entry : ℕ) (i : InstKey (List ℕ)) (o : ObjKey (List ℕ)) → i ≡ instance_at entry [] → o ≡ args_object → HasParameter program entry
    → (g : AFact) → (g ≡ Holds i (Param 0) o) ↔ EntryGives program entry g
entry_gives program entry i o same is has g =
    let e : Holds i (Param 0) o ≡ Holds (instance_at entry []) (Param 0) args_object = ap (λ (k : InstKey (List ℕ)). Holds k (Param 0) o) same ∙ ap (Holds (instance_at entry []) (Param 0)) is in
    (λ h. (has, h ∙ e), λ h. h.1 ∙ sym e)

pub entry_gives_none : (program : Program) (entry : ℕ) → (HasParameter program entry → ⊥) → (g : AFact) → EntryGives program entry g → ⊥
entry_gives_none program entry none g h = none h.0

-- an instance whose context is the first one
pub in_first : {C : Type 0} (list : C → List ℕ) (m : ℕ) (c : C) → list c ≡ [] → instance_seen list (record { method = m; context = c }) ≡ instance_at m []
in_first list m c e = ap (λ (s : List ℕ). instance_at m s) e

pub same_goal : {a b : AFact} → a ≡ b → (g : AFact) → (g ≡ a) ↔ (g ≡ b)
same_goal e g = (λ h. h ∙ e, λ h. h ∙ sym e)

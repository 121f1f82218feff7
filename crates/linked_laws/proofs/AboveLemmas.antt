-- Above each class of a linked program stands java/lang/Object, and above an interface stand interfaces and java/lang/Object alone.
use Rattle.std.proofs.Common.{◌≡◌, ◌∙◌, ℕ, zero, suc, ◌<◌, true, false, List, [], ◌∷◌, length, Option, Some, None, refl, sym, subst, ap, ◌⊎◌, inl, inr, arith}
use Rattle.std.specs.Prelude.{◌==◌, Bool, option_and_then, slice_get}
use Rattle.std.specs.List.{Contains}
use Rattle.std.specs.Option.{option_to_list}
use Rattle.std.proofs.lemmas.Bool.{eqb-true, eq-eqb}
use Rattle.std.proofs.lemmas.Option.{slice_get_within, same_Some}
use Rattle.std.proofs.lemmas.List.Elements.{Contains-append_cases}
use Rattle.jo_ids.specs.Path.{stays, goes}
use Rattle.jo_prog.specs.declared.program.Program.{Program}
use Rattle.jo_prog.specs.declared.program.Class.{Class}
use Rattle.jo_prog.specs.declared.program.TypeRef.TheVariants.{Class as OfClass}
use Rattle.jo_prog.specs.Program.{class_at}
use Rattle.jo_prog.specs.PreludeClasses.{object_number}
use Rattle.jo_prog.specs.Calls.{superclass_at}
use Rattle.jo_prog.specs.Hierarchy.{superclass_in, superclass_of, interfaces_of, parents_of, Subtype, HasNoCycle}
use Rattle.jo_prog.specs.Shapes.{is_interface, is_interface_class}
use Rattle.jo_prog.specs.Walks.{Leads, EndsWithin}
use Rattle.jo_prog.proofs.WalkLemmas.{here, head_or_behind, none_there, ends}
use Rattle.jo_prog.proofs.HierarchyLemmas.{parents_inside, from_superclass, no_superclass_cycle, subtype_every}
use Rattle.hierarchy.specs.Hierarchies.{HasItsParents}
use Rattle.program_faults.specs.SuperFaults.{is_interface_in, HasMisplacedParent, IsCyclicSuper, implements_class, interface_elsewhere}
use Rattle.step_laws.specs.Premises.{HasSoundHierarchy}
use Rattle.kept_laws.specs.Going.{HasRaisedClasses}
use Rattle.linked_laws.proofs.Outlines.{BeginsWithPrelude, HasSuperclasses, object_named, object_first, throwable_class, raised_below, raised_made}

pub class_within : (classes : List Class) (c : ℕ) → c < length classes → (class : Class) × (slice_get classes c ≡ Some class)
class_within [] c inside = absurd (omega (arith, inside))
class_within (class ∷ more) zero inside = (class, refl)
class_within (class ∷ more) (suc c) inside = class_within more c (omega (arith, inside))

-- ---- upwards

module _ (program : Program) (none : HasNoCycle program) (there : HasItsParents program) (supers : HasSuperclasses program) where
  walk_up : (steps c : ℕ) → c < length program.classes → EndsWithin (superclass_of program) steps c → Subtype program c object_number
  walk_up zero c inside end = absurd end
  walk_up (suc steps) zero inside end = stays 0
  walk_up (suc steps) (suc k) inside end =
      let found = class_within program.classes (suc k) inside in
      let above = supers (suc k) found.0 found.1 (λ e. omega (arith, e)) in
      let edge : Leads (superclass_of program) (suc k) above.0 =
      subst (λ (o : Option Class). Contains (superclass_in o) above.0) (sym found.1) (subst (λ (o : Option ℕ). Contains (option_to_list o) above.0) (sym above.1) (here above.0 [])) in
      let leads = from_superclass program (suc k) above.0 edge in
      goes (suc k) above.0 object_number leads (walk_up steps above.0 (there (suc k) above.0 leads) (end above.0 edge))

  pub all_below_object : (c : ℕ) (class : Class) → class_at program c ≡ Some class → Subtype program c object_number
  all_below_object c class at =
      walk_up (suc (length program.classes)) c (slice_get_within program.classes c class at)
      (ends (superclass_of program) (no_superclass_cycle program none) (length program.classes) (λ a b edge. parents_inside program a b (from_superclass program a b edge)) c)

-- ---- parents that stand where they may

interface_same : (o : Option Class) → is_interface_class o ≡ is_interface_in o
interface_same None = refl
interface_same (Some class) = refl

module _ (program : Program) (placed : (c : ℕ) → HasMisplacedParent program c → ⊥) where
  pub implemented : (c p : ℕ) → Contains (interfaces_of program c) p → is_interface program (OfClass p) ≡ true
  implemented c p among = by_flag (is_interface program (OfClass p)) refl
    where
      by_flag : (b : Bool) → is_interface program (OfClass p) ≡ b → is_interface program (OfClass p) ≡ true
      by_flag true is = is
      by_flag false is = absurd (placed c (implements_class p among (sym (interface_same (class_at program p)) ∙ is)))

  superclass_among : (o : Option Class) (p : ℕ) → Contains (superclass_in o) p → option_and_then (λ (class : Class). class.superclass) o ≡ Some p
  superclass_among None p among = absurd (none_there p among)
  superclass_among (Some class) p among = by_superclass class.superclass among
    where
      by_superclass : (o : Option ℕ) → Contains (option_to_list o) p → o ≡ Some p
      by_superclass None c = absurd (none_there p c)
      by_superclass (Some s) c = elim (head_or_behind s [] p c) [
        | inl e ↦ ap (λ (n : ℕ). Some n) e
        | inr more ↦ absurd (none_there p more)
      ]

  extended : (c p : ℕ) → is_interface program (OfClass c) ≡ true → Contains (superclass_of program c) p → p ≡ object_number
  extended c p flag among = by_number (p == object_number) refl
    where
      super_is : superclass_at program c ≡ Some p
      super_is = superclass_among (class_at program c) p among

      by_number : (b : Bool) → (p == object_number) ≡ b → p ≡ object_number
      by_number true is = eqb-true p object_number is
      by_number false is = absurd (placed c (interface_elsewhere (sym (interface_same (class_at program c)) ∙ flag) (λ e. apart (sym is ∙ eq-eqb p object_number (same_Some p object_number (sym super_is ∙ e))))))
        where
          apart : false ≡ true → ⊥
          apart e = absurd (cc)

  pub above_interfaces : (c p : ℕ) → is_interface program (OfClass c) ≡ true → Contains (parents_of program c) p
      → (is_interface program (OfClass p) ≡ true) ⊎ (p ≡ object_number)
  above_interfaces c p flag among = elim (Contains-append_cases (interfaces_of program c) (superclass_of program c) p among) [
    | inl first ↦ inl (implemented c p first)
    | inr last ↦ inr (extended c p flag last)
  ]

-- ---- the whole

pub no_cycle : (program : Program) → ((c : ℕ) → IsCyclicSuper program c → ⊥) → HasNoCycle program
no_cycle program sound a b edge way = sound a (inl (b, edge, way))

module _ (program : Program) (begins : BeginsWithPrelude program) (sound : (c : ℕ) → IsCyclicSuper program c → ⊥) where
  abbrev acyclic : HasNoCycle program
  acyclic = no_cycle program sound

  pub sound_hierarchy : HasItsParents program → HasSuperclasses program → HasSoundHierarchy program
  sound_hierarchy there supers = record {
    no_cycle = acyclic;
    object_named = object_named program begins;
    object_first = object_first program begins;
    below_object = λ c class at. subtype_every program acyclic c object_number (all_below_object program acyclic there supers c class at);
    interfaces = above_interfaces program (λ c misplaced. sound c (inr misplaced));
    throwable_class = throwable_class program begins;
  }

  pub raised_classes : HasRaisedClasses program
  raised_classes cause =
      let at = raised_made program begins cause in
      record { class = at.class; is_there = at.is_there; made = at.made; is_throwable = subtype_every program acyclic _ 4 (raised_below program begins cause) }

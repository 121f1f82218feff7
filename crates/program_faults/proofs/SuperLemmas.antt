-- Misplaced parents, as a relation and as a test.
use Rattle.std.proofs.Common.{◌≡◌, ◌∙◌, ℕ, ◌<◌, Bool, true, false, ◌&&◌, not, List, length, Option, Some, None, refl, sym, subst, ap, inl, inr}
use Rattle.std.specs.Prelude.{◌==◌, option_and_then}
use Rattle.std.specs.List.{Contains, list_any}
use Rattle.std.proofs.lemmas.Bool.{or_cases, or_left, or_right, eqb-true, false_from_ne_true, false≢true}
use Rattle.std.proofs.lemmas.Option.{slice_get_within}
use Rattle.jo_insn.specs.AccessFlags.{has_flag}
use Rattle.jo_prog.specs.declared.program.Program.{Program}
use Rattle.jo_prog.specs.declared.program.Class.{Class}
use Rattle.jo_prog.specs.PreludeClasses.{object_number}
use Rattle.jo_prog.specs.Program.{class_at}
use Rattle.jo_prog.specs.Calls.{superclass_at}
use Rattle.jo_prog.specs.Hierarchy.{interfaces_in, interfaces_of, IsAboveItself, HasNoCycle}
use Rattle.jo_prog.proofs.WalkLemmas.{none_there}
use Rattle.hierarchy.specs.declared.HierarchyFault.{HierarchyFault}
use Rattle.hierarchy.specs.declared.HierarchyFault.TheVariants.{Cyclic, Memory}
use Rattle.hierarchy.specs.Hierarchies.{IsFaultOf}
use Rattle.program_faults.specs.SuperFaults.{interface_flag}
use Rattle.program_faults.specs.FirstFaults.{IsFirstIfAny}
use Rattle.program_faults.specs.SuperFaults.{is_interface_in, is_interface, is_some_interface, is_object, is_no_interface, misplaces_parent, HasMisplacedParent, extends_interface, implements_class, interface_elsewhere, IsSuperFault, earlier_fault}
use Rattle.program_faults.proofs.FirstLemmas.{some_item, some_passes, first_of_both}

true_from_not : (b : Bool) → not b ≡ true → b ≡ false
true_from_not true h = absurd (cc)
true_from_not false h = refl

and_both : (a b : Bool) → (a && b) ≡ true → (a ≡ true) × (b ≡ true)
and_both true b h = (refl, h)
and_both false b h = absurd (cc)

module _ (program : Program) (c : ℕ) where
  by_super : (o : Option ℕ) → superclass_at program c ≡ o → is_some_interface program o ≡ true → HasMisplacedParent program c
  by_super None at h = absurd (cc)
  by_super (Some s) at h = extends_interface s at h

  not_object : (o : Option ℕ) → superclass_at program c ≡ o → not (is_object o) ≡ true → superclass_at program c ≡ Some object_number → ⊥
  not_object o at h is = false≢true (sym (falls o (sym at ∙ is) h))
    where
      falls : (p : Option ℕ) → p ≡ Some object_number → not (is_object p) ≡ true → true ≡ false
      falls p e h2 = ap (λ (q : Option ℕ). is_object q) (sym e) ∙ true_from_not (is_object p) h2

  module _ (class : Class) (at : class_at program c ≡ Some class) where
    super_is : superclass_at program c ≡ class.superclass
    super_is = ap (λ (o : Option Class). option_and_then (λ (k : Class). k.superclass) o) at

    interfaces_are : interfaces_of program c ≡ class.interfaces
    interfaces_are = ap (λ (o : Option Class). interfaces_in o) at

    flag_is : is_interface program c ≡ has_flag interface_flag class.flags
    flag_is = ap (λ (o : Option Class). is_interface_in o) at

    misplaced_there : misplaces_parent program (Some class) ≡ true → HasMisplacedParent program c
    misplaced_there h = elim (or_cases (is_some_interface program class.superclass) _ h) [
      | inl extended ↦ by_super class.superclass super_is extended
      | inr more ↦ elim (or_cases (list_any (is_no_interface program) class.interfaces) _ more) [
        | inl some ↦
            let found = some_item (is_no_interface program) class.interfaces some in
            implements_class found.0 (subst (λ (ys : List ℕ). Contains ys found.0) (sym interfaces_are) found.1) (true_from_not (is_interface program found.0) found.2)
        | inr last ↦
            let both = and_both (has_flag interface_flag class.flags) (not (is_object class.superclass)) last in
            interface_elsewhere (flag_is ∙ both.0) (not_object class.superclass super_is both.1)
      ]
    ]

    test_extends : (s : ℕ) → superclass_at program c ≡ Some s → is_interface program s ≡ true → misplaces_parent program (Some class) ≡ true
    test_extends s is h = or_left _ _ (ap (is_some_interface program) (sym super_is ∙ is) ∙ h)

    test_implements : (i : ℕ) → Contains (interfaces_of program c) i → is_interface program i ≡ false → misplaces_parent program (Some class) ≡ true
    test_implements i among h =
        or_right (is_some_interface program class.superclass) _
        (or_left _ _ (some_passes (is_no_interface program) class.interfaces i (subst (λ (ys : List ℕ). Contains ys i) interfaces_are among) (ap not h)))

    is_elsewhere : (o : Option ℕ) → (o ≡ Some object_number → ⊥) → not (is_object o) ≡ true
    is_elsewhere None h = refl
    is_elsewhere (Some s) h = ap not (false_from_ne_true (s == object_number) (λ same. h (ap (λ (n : ℕ). Some n) (eqb-true s object_number same))))

    test_elsewhere : is_interface program c ≡ true → (superclass_at program c ≡ Some object_number → ⊥) → misplaces_parent program (Some class) ≡ true
    test_elsewhere h apart =
        let flag : has_flag interface_flag class.flags ≡ true = sym flag_is ∙ h in
        let elsewhere : not (is_object class.superclass) ≡ true = is_elsewhere class.superclass (λ is. apart (super_is ∙ is)) in
        or_right (is_some_interface program class.superclass) _
        (or_right (list_any (is_no_interface program) class.interfaces) _ (both flag elsewhere))
      where
        both : {a b : Bool} → a ≡ true → b ≡ true → (a && b) ≡ true
        both p q = rw (p, q) refl

    tested : HasMisplacedParent program c → misplaces_parent program (Some class) ≡ true
    tested (extends_interface s is h) = test_extends s is h
    tested (implements_class i among h) = test_implements i among h
    tested (interface_elsewhere h apart) = test_elsewhere h apart

  nothing_misplaced : class_at program c ≡ None → HasMisplacedParent program c → ⊥
  nothing_misplaced missing (extends_interface s is h) = absurd (no_super (sym is ∙ ap (λ (o : Option Class). option_and_then (λ (k : Class). k.superclass) o) missing))
    where
      no_super : (Some s ≡ None) → ⊥
      no_super e = absurd (cc)
  nothing_misplaced missing (implements_class i among h) = none_there i (subst (λ (ys : List ℕ). Contains ys i) (ap (λ (o : Option Class). interfaces_in o) missing) among)
  nothing_misplaced missing (interface_elsewhere h apart) = absurd (no_flag (sym h ∙ ap (λ (o : Option Class). is_interface_in o) missing))
    where
      no_flag : true ≡ false → ⊥
      no_flag e = absurd (cc)

  pub is_misplaced : misplaces_parent program (class_at program c) ≡ true → HasMisplacedParent program c
  is_misplaced h = by_class (class_at program c) refl h
    where
      by_class : (o : Option Class) → class_at program c ≡ o → misplaces_parent program o ≡ true → HasMisplacedParent program c
      by_class None at t = absurd (cc)
      by_class (Some class) at t = misplaced_there class at t

  pub is_tested : HasMisplacedParent program c → misplaces_parent program (class_at program c) ≡ true
  is_tested h = by_class (class_at program c) refl
    where
      by_class : (o : Option Class) → class_at program c ≡ o → misplaces_parent program o ≡ true
      by_class None at = absurd (nothing_misplaced at h)
      by_class (Some class) at = tested class at h

  pub is_inside : HasMisplacedParent program c → c < length program.classes
  is_inside h = by_class (class_at program c) refl
    where
      by_class : (o : Option Class) → class_at program c ≡ o → c < length program.classes
      by_class None at = absurd (nothing_misplaced at h)
      by_class (Some class) at = slice_get_within program.classes c class at

  pub no_cycle : HasNoCycle program → IsAboveItself program c → ⊥
  no_cycle none (p, leads, way) = none c p leads way

-- the first of both faults
pub earliest : (program : Program) (fault : HierarchyFault) (o : Option ℕ) → IsFaultOf program fault → IsFirstIfAny (HasMisplacedParent program) o → IsSuperFault program (earlier_fault fault o)
earliest program (Cyclic c) o found misplaced = first_of_both (IsAboveItself program) (HasMisplacedParent program) c o found.0 found.1 misplaced
earliest program Memory o found misplaced = tt

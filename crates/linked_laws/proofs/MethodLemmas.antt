-- A class that may have objects selects what can be taken for each instance method that stands in it or above it.
use Rattle.std.proofs.Common.{◌≡◌, ◌⊎◌, ◌∙◌, ℕ, zero, suc, ◌<◌, Bool, true, false, not, List, [], length, Option, Some, None, refl, sym, subst, ap, inl, inr, arith}
use Rattle.std.specs.Prelude.{if◌then◌else◌, option_and_then}
use Rattle.std.specs.List.{Contains}
use Rattle.std.specs.Option.{option_to_list}
use Rattle.std.proofs.lemmas.Bool.{cases_Bool, cases_eq}
use Rattle.std.proofs.lemmas.Option.{slice_get_within, same_Some}
use Rattle.jo_ids.specs.Path.{Path, stays, goes}
use Rattle.jo_prog.specs.declared.calls.Taken.{Taken}
use Rattle.jo_prog.specs.declared.calls.Taken.TheVariants.{Code as TakesCode, Start, Join, Native, Nothing}
use Rattle.jo_prog.specs.declared.labels.Labels.{Labels}
use Rattle.jo_prog.specs.declared.program.Program.{Program}
use Rattle.jo_prog.specs.declared.program.Class.{Class}
use Rattle.jo_prog.specs.declared.program.Code.{Code}
use Rattle.jo_prog.specs.declared.program.Method.{Method}
use Rattle.jo_prog.specs.declared.program.TypeRef.TheVariants.{Class as OfClass}
use Rattle.jo_prog.specs.Calls.{taken_from}
use Rattle.jo_prog.specs.Hierarchy.{superclass_in, superclass_of, Subtype, is_subtype, superclasses, own_method, is_static_method, unless_static, own_instance_method, search_from, select}
use Rattle.jo_prog.specs.PreludeClasses.{object_number, thread_number}
use Rattle.jo_prog.specs.Program.{class_at, method_at}
use Rattle.jo_prog.specs.Shapes.{is_interface}
use Rattle.jo_prog.specs.Walks.{Leads, EndsWithin}
use Rattle.jo_prog.proofs.WalkLemmas.{here, ends, none_found}
use Rattle.jo_prog.proofs.HierarchyLemmas.{parents_inside, from_superclass, no_superclass_cycle, subtype_along}
use Rattle.hierarchy.specs.Hierarchies.{HasItsParents}
use Rattle.machine.specs.Steps.{class_of_method}
use Rattle.program_faults.specs.SuperFaults.{HasMisplacedParent}
use Rattle.program_faults.specs.UsedOperands.{methods_in}
use Rattle.program_faults.specs.BodyFaults.{is_abstract, is_abstract_in, is_abstract_method, is_abstract_method_in, IsNotImplemented}
use Rattle.step_laws.specs.TypedStates.{has_objects}
use Rattle.step_laws.specs.Premises.{HasSoundHierarchy}
use Rattle.kept_laws.specs.Premises.{HasSoundMethods, AreNativesLabelled}
use Rattle.kept_laws.proofs.MemberLemmas.{Declares, own_declared, selected}
use Rattle.kept_laws.proofs.TakenLemmas.{IsOfThread, Tells, tells}
use Rattle.linked_laws.specs.Bodies.{HasSoundBodies}
use Rattle.linked_laws.proofs.AboveLemmas.{class_within, implemented}
use Rattle.linked_laws.proofs.FieldLemmas.{by_superclasses, in_superclasses}

never : {X : Type 0} → false ≡ true → X
never e = absurd (cc)

module _ (program : Program) (labels : Labels) (sound : HasSoundHierarchy program) (there : HasItsParents program) (placed : (c : ℕ) → HasMisplacedParent program c → ⊥)
    (bodiless : (c : ℕ) → IsNotImplemented program c → ⊥) (bodies : HasSoundBodies program) (natives : AreNativesLabelled program labels) where
  -- ---- superclasses lead up to java/lang/Object

  up_by : (steps c : ℕ) → c < length program.classes → EndsWithin (superclass_of program) steps c → Path (Leads (superclass_of program)) c object_number
  up_by zero c inside end = absurd end
  up_by (suc steps) zero inside end = stays 0
  up_by (suc steps) (suc k) inside end =
      let found = class_within program.classes (suc k) inside in
      let above = bodies.superclasses (suc k) found.0 found.1 (λ e. omega (arith, e)) in
      let edge : Leads (superclass_of program) (suc k) above.0 =
      subst (λ (o : Option Class). Contains (superclass_in o) above.0) (sym found.1) (subst (λ (o : Option ℕ). Contains (option_to_list o) above.0) (sym above.1) (here above.0 [])) in
      goes (suc k) above.0 object_number edge (up_by steps above.0 (there (suc k) above.0 (from_superclass program (suc k) above.0 edge)) (end above.0 edge))

  object_above : (c : ℕ) (class : Class) → class_at program c ≡ Some class → Path (Leads (superclass_of program)) c object_number
  object_above c class at = up_by (suc (length program.classes)) c (slice_get_within program.classes c class at)
      (ends (superclass_of program) (no_superclass_cycle program sound.no_cycle) (length program.classes) (λ a b edge. parents_inside program a b (from_superclass program a b edge)) c)

  -- a class above another stands among its superclasses
  class_among : (c above : ℕ) (class : Class) → class_at program c ≡ Some class → Subtype program c above → is_interface program (OfClass above) ≡ false → Contains (superclasses program c) above
  class_among c above class at way no_interface = in_superclasses program sound (implemented program placed) c above (elim (cases_eq above object_number) [
    | inl same ↦ subst (λ (k : ℕ). Path (Leads (superclass_of program)) c k) (sym same) (object_above c class at)
    | inr other ↦ by_superclasses program sound (implemented program placed) c above way (not_high other)
  ])
    where
      not_high : (above ≡ object_number → ⊥) → (is_interface program (OfClass above) ≡ true) ⊎ (above ≡ object_number) → ⊥
      not_high other (inl flag) = never (sym no_interface ∙ flag)
      not_high other (inr same) = other same

  -- ---- a method that isn't abstract stands in a class

  in_class : (above m : ℕ) (name desc : List ℕ) (declared : Declares program name desc above m) → is_static_method (method_at program m) ≡ false → (t : Taken) → taken_from program (Some m) ≡ t
      → (t ≡ Nothing → ⊥) → is_interface program (OfClass above) ≡ false
  in_class above m name desc declared no_static t is some = by_taken t (tells program m t is) is some
    where
      same : declared.method.class ≡ above
      same = bodies.of_class above m declared.class declared.method declared.is_class declared.among declared.is_method

      of_thread : IsOfThread program m → is_interface program (OfClass above) ≡ false
      of_thread own =
          let method_is : declared.method ≡ own.method = same_Some declared.method own.method (sym declared.is_method ∙ own.is_method) in
          let number : above ≡ thread_number = sym same ∙ ap (λ (x : Method). x.class) method_is ∙ own.of_thread in
          subst (λ (k : ℕ). is_interface program (OfClass k) ≡ false) (sym number) bodies.thread

      by_taken : (t : Taken) → Tells program m t → taken_from program (Some m) ≡ t → (t ≡ Nothing → ⊥) → is_interface program (OfClass above) ≡ false
      by_taken (TakesCode n) own is some = subst (λ (k : ℕ). is_interface program (OfClass k) ≡ false) same
          (bodies.interfaces m declared.method own.code declared.is_method (ap (λ (x : Method). x.code) (same_Some declared.method own.method (sym declared.is_method ∙ own.is_method)) ∙ own.has_code))
      by_taken Start own is some = of_thread own
      by_taken Join own is some = of_thread own
      by_taken (Native n) own is some =
          let label = natives m (is ∙ ap (λ (k : ℕ). Native k) own) in
          never (sym no_static ∙ ap is_static_method label.is_method ∙ label.is_static)
      by_taken Nothing own is some = absurd (some refl)

  -- ---- what is selected

  module _ (c : ℕ) (class : Class) (at : class_at program c ≡ Some class) (made : has_objects class ≡ true) where
    concrete : is_abstract program c ≡ false
    concrete = ap is_abstract_in at ∙ not_true (is_abstract_in (Some class)) made
      where
        not_true : (b : Bool) → not b ≡ true → b ≡ false
        not_true true e = absurd (cc)
        not_true false e = refl

    -- a class lacks a body for an abstract method that it selects nothing for
    lacks : (above m : ℕ) (name desc : List ℕ) → Subtype program c above → Declares program name desc above m → is_abstract_method program m ≡ true → taken_from program (select program c m) ≡ Nothing → ⊥
    lacks above m name desc way declared abstract_one nothing = bodiless c (inl (record {
      concrete = concrete;
      above = above;
      is_above = way;
      method = m;
      of_above = subst (λ (o : Option Class). Contains (methods_in o) m) (sym declared.is_class) declared.among;
      abstract_one = abstract_one;
      nothing = nothing;
    }))

    -- what is found is taken
    found_taken : (name desc : List ℕ) (m : ℕ) → search_from program c name desc ≡ Some m → taken_from program (Some m) ≡ Nothing → ⊥
    found_taken name desc m is nothing =
        let own = selected program name desc sound.no_cycle c m is in
        let flag : is_abstract_method program m ≡ true = ap is_abstract_method_in own.declared.is_method ∙ bodies.kinds m own.declared.method own.declared.is_method nothing in
        let same : select program c m ≡ Some m =
        ap (option_and_then (λ (method : Method). search_from program c method.name method.desc)) own.declared.is_method
        ∙ ap (λ (n : List ℕ). search_from program c n own.declared.method.desc) own.declared.name_is
        ∙ ap (λ (d : List ℕ). search_from program c name d) own.declared.desc_is ∙ is in
        lacks own.above m name desc (subtype_along program c own.above own.is_above) own.declared flag (ap (taken_from program) same ∙ nothing)

    module _ (above m : ℕ) (method : Method) (way : is_subtype program c above ≡ true) (own : own_method program method.name method.desc above ≡ Some m) (is_method : method_at program m ≡ Some method)
        (no_static : is_static_method (method_at program m) ≡ false) where
      declared : Declares program method.name method.desc above m
      declared = own_declared program method.name method.desc above m own

      select_is : select program c m ≡ search_from program c method.name method.desc
      select_is = ap (option_and_then (λ (x : Method). search_from program c x.name x.desc)) is_method

      -- one that isn't abstract is found, if no other is before
      some_found : (taken_from program (Some m) ≡ Nothing → ⊥) → search_from program c method.name method.desc ≡ None → ⊥
      some_found some none =
          let no_interface = in_class above m method.name method.desc declared no_static (taken_from program (Some m)) refl some in
          let among = class_among c above class at (subtype_along program c above way) no_interface in
          let look : own_instance_method program method.name method.desc above ≡ Some m =
          ap (option_and_then (unless_static program)) own ∙ ap (λ (b : Bool). if b then None else Some m) no_static in
          differ (sym look ∙ none_found (own_instance_method program method.name method.desc) (superclasses program c) none above among)
        where
          differ : Some m ≡ None → ⊥
          differ e = cc

      takes_some : taken_from program (select program c m) ≡ Nothing → ⊥
      takes_some nothing = elim (cases_Bool (is_abstract_method program m)) [
        | inl flag ↦ lacks above m method.name method.desc (subtype_along program c above way) declared flag nothing
        | inr plain ↦ by_search plain (search_from program c method.name method.desc) refl (ap (taken_from program) (sym select_is) ∙ nothing)
      ]
        where
          some : is_abstract_method program m ≡ false → taken_from program (Some m) ≡ Nothing → ⊥
          some plain e = never (sym plain ∙ ap is_abstract_method_in is_method ∙ bodies.kinds m method is_method e)

          by_search : is_abstract_method program m ≡ false → (o : Option ℕ) → search_from program c method.name method.desc ≡ o → taken_from program o ≡ Nothing → ⊥
          by_search plain None is e = some_found (some plain) is
          by_search plain (Some k) is e = found_taken method.name method.desc k is e

  pub sound_methods : HasSoundMethods program
  sound_methods = record {
    of_class = bodies.of_class;
    bodies = λ m code is. by_method m code (method_at program m) refl is;
    selected = λ c above m class method at made way own is_method no_static nothing. takes_some c class at made above m method way own is_method no_static nothing;
    object = bodies.object;
  }
    where
      by_method : (m : ℕ) (code : Code) (o : Option Method) → method_at program m ≡ o → option_and_then (λ (method : Method). method.code) o ≡ Some code → is_interface program (OfClass (class_of_method o)) ≡ false
      by_method m code None is has = absurd (cc)
      by_method m code (Some method) is has = bodies.interfaces m method code is has

-- Natives have labels, and threads have a method run with code.
use Rattle.std.proofs.Common.{◌≡◌, ◌∙◌, ℕ, Bool, true, false, ◌&&◌, List, [], ◌∷◌, Option, Some, None, refl, sym, subst, ap}
use Rattle.std.specs.Prelude.{◌==◌, is_some, IsSome, if◌then◌else◌, option_and_then, codes}
use Rattle.std.specs.List.{AllByRecursion}
use Rattle.std.specs.Str.{bytes_eq}
use Rattle.std.specs.Cmp.Lexicographic.{bytes_decides}
use Rattle.std.proofs.lemmas.Bool.{and_parts, eqb-true}
use Rattle.std.proofs.lemmas.Option.{same_Some}
use Rattle.jo_insn.specs.AccessFlags.{has_flag, native_flag}
use Rattle.jo_prog.specs.declared.calls.Taken.{Taken}
use Rattle.jo_prog.specs.declared.calls.Taken.TheVariants.{Code as TakesCode, Start, Join, Native, Nothing}
use Rattle.jo_prog.specs.declared.labels.Label.{Label}
use Rattle.jo_prog.specs.declared.labels.Labels.{Labels}
use Rattle.jo_prog.specs.declared.program.Program.{Program}
use Rattle.jo_prog.specs.declared.program.Class.{Class}
use Rattle.jo_prog.specs.declared.program.Method.{Method}
use Rattle.jo_prog.specs.Calls.{is_machine_method, taken_if, taken_from, run_of}
use Rattle.jo_prog.specs.FileClasses.{is_of_files}
use Rattle.jo_prog.specs.Hierarchy.{is_subtype, own_method, is_static_method, search_from, select}
use Rattle.jo_prog.specs.Labels.{label_among, label_of}
use Rattle.jo_prog.specs.PlainCode.{IsLabelledNative, IsWellLabelled}
use Rattle.jo_prog.specs.PreludeClasses.{thread_number}
use Rattle.jo_prog.specs.Program.{class_at, method_at}
use Rattle.step_laws.specs.TypedStates.{has_objects}
use Rattle.step_laws.specs.Premises.{HasSoundHierarchy}
use Rattle.kept_laws.specs.Premises.{HasSoundMethods, HasThreadMethods, IsLabelled, AreNativesLabelled}
use Rattle.kept_laws.proofs.MemberLemmas.{Declares, own_declared, selected}
use Rattle.kept_laws.proofs.TakenLemmas.{IsOfThread, tells, found_method}
use Rattle.linked_laws.specs.Bodies.{HasSoundBodies, HasPreludeMethods}

never : {X : Type 0} → false ≡ true → X
never e = absurd (cc)

-- ---- what is taken as a native is one

module _ (program : Program) (m : ℕ) where
  -- the machine's method of that name
  pub record IsNamed (name : List ℕ) : Type 0 where
    pub method : Method
    pub is_method : method_at program m ≡ Some method
    pub name_is : method.name ≡ name

  record IsNative : Type 0 where
    method : Method
    is_method : method_at program m ≡ Some method
    is_native : has_flag native_flag method.flags ≡ true

  named_by : (name : List ℕ) (method : Method) → method_at program m ≡ Some method → is_machine_method name method ≡ true → IsNamed name
  named_by name method is h =
      let first = and_parts (method.class == thread_number && bytes_eq method.name name) (bytes_eq method.desc (codes "()V")) h in
      let second = and_parts (method.class == thread_number) (bytes_eq method.name name) first.0 in
      record { method = method; is_method = is; name_is = (bytes_decides method.name name).0 second.1 }

  abbrev Means : Taken → Type 0
  Means Start = IsNamed (codes "start")
  Means Join = IsNamed (codes "join")
  Means (Native n) = IsNative
  Means _ = Unit {0}

  means : (t : Taken) → taken_from program (Some m) ≡ t → Means t
  means t e = by_method (method_at program m) refl e
    where
      along : (x : Taken) → Means x → x ≡ t → Means t
      along x h is = subst Means is h

      by_tests : (method : Method) → method_at program m ≡ Some method → (o a b c : Bool) → is_machine_method (codes "start") method ≡ a → is_machine_method (codes "join") method ≡ b
          → has_flag native_flag method.flags ≡ c → (if o then TakesCode m else if a then Start else if b then Join else if c then Native m else Nothing) ≡ t → Means t
      by_tests method is true a b c ea eb ec at = along (TakesCode m) tt at
      by_tests method is false true b c ea eb ec at = along Start (named_by (codes "start") method is ea) at
      by_tests method is false false true c ea eb ec at = along Join (named_by (codes "join") method is eb) at
      by_tests method is false false false true ea eb ec at = along (Native m) (record { method = method; is_method = is; is_native = ec }) at
      by_tests method is false false false false ea eb ec at = along Nothing tt at

      by_method : (o : Option Method) → method_at program m ≡ o → taken_if m o ≡ t → Means t
      by_method None is at = along Nothing tt at
      by_method (Some method) is at = by_tests method is (is_some method.code) (is_machine_method (codes "start") method) (is_machine_method (codes "join") method) (has_flag native_flag method.flags) refl refl refl at

-- ---- natives have labels

labelled_native : (program : Program) (labels : Labels) (items : List (ℕ × Label)) (m : ℕ) (label : Label) → AllByRecursion (IsLabelledNative program labels) items → label_among items m ≡ Some label
    → IsLabelledNative program labels (m, label)
labelled_native program labels [] m label all is = absurd (cc)
labelled_native program labels (item ∷ items) m label all is = by_test (item.0 == m) refl is (labelled_native program labels items m label all.1)
  where
    by_test : (b : Bool) → (item.0 == m) ≡ b → (if b then Some item.1 else label_among items m) ≡ Some label → (label_among items m ≡ Some label → IsLabelledNative program labels (m, label)) → IsLabelledNative program labels (m, label)
    by_test true same at later =
        let number : item.0 ≡ m = eqb-true item.0 m same in
        let label_is : item.1 ≡ label = same_Some item.1 label at in
        subst (λ (k : ℕ). IsLabelledNative program labels (k, label)) number (subst (λ (l : Label). IsLabelledNative program labels (item.0, l)) label_is all.0)
    by_test false other at later = later at

module _ (program : Program) (labels : Labels) (well : IsWellLabelled program labels) (prelude : HasPreludeMethods program) where
  pub natives_labelled : AreNativesLabelled program labels
  natives_labelled m is =
      let own : IsNative program m = means program m (Native m) is in
      by_label own (label_of labels m) refl (well.each_native m own.method own.is_method (of_files own (is_of_files program own.method) refl) own.is_native)
    where
      of_files : (own : IsNative program m) (b : Bool) → is_of_files program own.method ≡ b → is_of_files program own.method ≡ true
      of_files own true e = e
      of_files own false e = never (sym (prelude.no_native m own.method own.is_method e) ∙ own.is_native)

      by_label : (own : IsNative program m) (o : Option Label) → label_of labels m ≡ o → IsSome o → IsLabelled program labels m
      by_label own None e some = absurd (cc)
      by_label own (Some label) e some =
          let native = labelled_native program labels labels.labelled m label well.natives e in
          record { method = native.method; is_method = native.found; is_static = native.is_static; label = label; is_labelled = e; shape = native.shape }

-- ---- threads

module _ (program : Program) (labels : Labels) (sound : HasSoundHierarchy program) (bodies : HasSoundBodies program) (methods : HasSoundMethods program) (natives : AreNativesLabelled program labels)
    (prelude : HasPreludeMethods program) where
  no_static : (m : ℕ) → IsOfThread program m → is_static_method (method_at program m) ≡ false
  no_static m own = ap is_static_method own.is_method ∙ prelude.thread_instances m own.method own.is_method own.of_thread

  module _ (c : ℕ) (class : Class) (at : class_at program c ≡ Some class) (made : has_objects class ≡ true) (below : is_subtype program c thread_number ≡ true) where
    abbrev r : ℕ
    r = prelude.thread_run.0

    run : Declares program (codes "run") (codes "()V") thread_number r
    run = own_declared program (codes "run") (codes "()V") thread_number r prelude.thread_run.1

    run_instance : is_static_method (method_at program r) ≡ false
    run_instance = ap is_static_method run.is_method ∙ prelude.thread_instances r run.method run.is_method (methods.of_class thread_number r run.class run.method run.is_class run.among run.is_method)

    run_is : select program c r ≡ search_from program c (codes "run") (codes "()V")
    run_is =
        ap (option_and_then (λ (method : Method). search_from program c method.name method.desc)) run.is_method
        ∙ ap (λ (name : List ℕ). search_from program c name run.method.desc) run.name_is ∙ ap (λ (desc : List ℕ). search_from program c (codes "run") desc) run.desc_is

    some : run_of program c ≡ Nothing → ⊥
    some none = methods.selected c thread_number r class run.method at made below
        (ap (λ (name : List ℕ). own_method program name run.method.desc thread_number) run.name_is ∙ ap (λ (desc : List ℕ). own_method program (codes "run") desc thread_number) run.desc_is ∙ prelude.thread_run.1)
        run.is_method run_instance (ap (taken_from program) run_is ∙ none)

    -- what is found is named run, and isn't static
    other_name : (m : ℕ) (name : List ℕ) → bytes_eq (codes "run") name ≡ false → search_from program c (codes "run") (codes "()V") ≡ Some m → IsNamed program m name → ⊥
    other_name m name apart found named =
        let own = selected program (codes "run") (codes "()V") sound.no_cycle c m found in
        let same : codes "run" ≡ name =
        sym own.declared.name_is ∙ ap (λ (x : Method). x.name) (same_Some own.declared.method named.method (sym own.declared.is_method ∙ named.is_method)) ∙ named.name_is in
        never (sym apart ∙ (bytes_decides (codes "run") name).1 same)

    no_native_run : (m n : ℕ) → search_from program c (codes "run") (codes "()V") ≡ Some m → taken_from program (Some m) ≡ Native n → ⊥
    no_native_run m n found is =
        let own = selected program (codes "run") (codes "()V") sound.no_cycle c m found in
        let label = natives m (is ∙ ap (λ (k : ℕ). Native k) (tells program m (Native n) is)) in
        never (sym own.no_static ∙ ap is_static_method label.is_method ∙ label.is_static)

    by_taken : (m : ℕ) → search_from program c (codes "run") (codes "()V") ≡ Some m → (t : Taken) → taken_from program (Some m) ≡ t → (t ≡ Nothing → ⊥) → (n : ℕ) × (t ≡ TakesCode n)
    by_taken m found (TakesCode n) is there = (n, refl)
    by_taken m found Start is there = absurd (other_name m (codes "start") refl found (means program m Start is))
    by_taken m found Join is there = absurd (other_name m (codes "join") refl found (means program m Join is))
    by_taken m found (Native n) is there = absurd (no_native_run m n found is)
    by_taken m found Nothing is there = absurd (there refl)

    runs_code : (m : ℕ) × (run_of program c ≡ TakesCode m)
    runs_code =
        let found = found_method program (search_from program c (codes "run") (codes "()V")) some in
        let same : run_of program c ≡ taken_from program (Some found.0) = ap (taken_from program) found.1 in
        let taken = by_taken found.0 found.1 (taken_from program (Some found.0)) refl (λ none. some (same ∙ none)) in
        (taken.0, same ∙ taken.1)

  pub thread_methods : HasThreadMethods program
  thread_methods = record {
    thread_class = bodies.thread;
    start = λ m is. no_static m (tells program m Start is);
    join = λ m is. no_static m (tells program m Join is);
    run = λ c class at made below. runs_code c class at made below;
  }

-- A call in a typed state comes to something, by its opcode.
use Rattle.std.proofs.Common.{◌≡◌, ◌∙◌, ℕ, ◌≤◌, Bool, true, false, not, ◌||◌, List, [], ◌∷◌, ◌++◌, map, Option, Some, None, refl, sym, ap, subst, inl, inr, arith}
use Rattle.std.specs.Prelude.{◌==◌, ℤ, slice_get, if◌then◌else◌, option_and_then, FitsSigned}
use Rattle.std.specs.Int.{w32}
use Rattle.std.proofs.lemmas.Bool.{cases_eq, and_parts, or_left, or_right, eqb-false, eq-eqb}
use Rattle.std.proofs.lemmas.List.{reverse-append, reverse-reverse}
use mathlib.Core.List.{reverse, reverse_aux}
use Rattle.std.specs.List.{AllByRecursion, Contains}
use Rattle.std.specs.Option.{option_to_list}
use Rattle.jo_insn.specs.AccessFlags.{has_flag, static_flag}
use Rattle.jo_text.specs.declared.descriptors.FieldDesc.{FieldDesc}
use Rattle.jo_text.specs.declared.descriptors.MethodDesc.{MethodDesc}
use Rattle.jo_ids.specs.Path.{stays, goes}
use Rattle.jo_prog.specs.declared.calls.Taken.{Taken}
use Rattle.jo_prog.specs.declared.calls.Taken.TheVariants.{Code as TakesCode, Start, Join, Native, Nothing}
use Rattle.jo_prog.specs.declared.labels.Label.{Label}
use Rattle.jo_prog.specs.declared.labels.Label.TheVariants.{Source, Sink, Release}
use Rattle.jo_prog.specs.declared.labels.Labels.{Labels}
use Rattle.jo_prog.specs.declared.program.Program.{Program}
use Rattle.jo_prog.specs.declared.program.Class.{Class}
use Rattle.jo_prog.specs.declared.program.Method.{Method}
use Rattle.jo_prog.specs.declared.program.MemberRef.{MemberRef}
use Rattle.jo_prog.specs.declared.program.TypeRef.{TypeRef}
use Rattle.jo_prog.specs.declared.program.TypeRef.TheVariants.{Class as OfClass}
use Rattle.jo_prog.specs.declared.sites.Cause.TheVariants.{NullBase, MissingInterface}
use Rattle.jo_prog.specs.Calls.{receiver_class, superclass_at, is_taken_as_resolved, special_in, special, taken_from, takes}
use Rattle.jo_prog.specs.Hierarchy.{superclass_in, is_subtype, own_method, is_static_method, search_from, select}
use Rattle.jo_prog.specs.Labels.{label_of}
use Rattle.jo_prog.specs.MethodTypes.{method_desc_in}
use Rattle.jo_prog.specs.PreludeClasses.{object_number}
use Rattle.jo_prog.specs.Program.{class_at, method_at}
use Rattle.jo_prog.specs.Types.{type_fits}
use Rattle.jo_prog.specs.Typing.{Kind, Ref}
use Rattle.jo_prog.specs.Shapes.{Need, AnInt, OfEach, is_interface, takes_type, fits_each, kind_of_type, need_of}
use Rattle.jo_prog.specs.InsnTyping.{receiver_kinds, param_kinds, searched_class, special_types, receiver_needs, argument_needs}
use Rattle.jo_prog.specs.Values.{Value, int, null, ref, Info}
use Rattle.jo_prog.specs.Machine.{HeapObject, State, info_of, info_at}
use Rattle.jo_prog.proofs.WalkLemmas.{here}
use Rattle.jo_prog.proofs.HierarchyLemmas.{from_superclass, subtype_every}
use Rattle.machine.specs.Instructions.{method_desc, result_of}
use Rattle.machine.specs.Invocation.{Callee, callee, enters, asks, shows, releases, fails, class_of, type_of, natively, by_taken, by_receiver, invoked}
use Rattle.machine.specs.Heaps.{was_started}
use Rattle.step_laws.specs.TypedStates.{PlaceHasKind, Pairwise, no_more, one_more, has_objects, IsTypedObject, of_class, of_array, IsTypedState}
use Rattle.step_laws.specs.Premises.{HasSoundHierarchy}
use Rattle.step_laws.specs.Needs.{InfoMeets, StandsWith, Meets, IsPlainNeed}
use Rattle.step_laws.specs.Effects.{ArePopped}
use Rattle.step_laws.proofs.TypeLemmas.{never, subtype_on, fits_on, same_some}
use Rattle.step_laws.proofs.ExecLemmas.{need_plain}
use Rattle.step_laws.proofs.ValueLemmas.{place_meets}
use Rattle.kept_laws.specs.Premises.{IsSoundCall, HasSoundMethods, HasThreadMethods, AreNativesLabelled}
use Rattle.kept_laws.specs.Calls.{by_enter, by_ask, by_show, by_release, by_fail, int_type, ComesTo}
use Rattle.kept_laws.proofs.MemberLemmas.{Declares, own_declared, Resolves, resolved, selected}
use Rattle.kept_laws.proofs.TakenLemmas.{HasCode, tells, found_method, params_of, IsReceiver, label_type, label_shape, fits_above, class_below, fits_resolved, takes_fits, declared_receiver, instance_comes}

-- ---- the values of a call, in order

pairwise_onto : {A B : Type 0} (P : A → B → Type 0) (xs : List A) (ys : List B) (front : List A) (bs : List B) → Pairwise P xs ys → Pairwise P front bs → Pairwise P (reverse_aux xs front) (reverse_aux ys bs)
pairwise_onto P xs ys front bs no_more done = done
pairwise_onto P xs ys front bs (one_more x y more others h rest) done = pairwise_onto P more others (x ∷ front) (y ∷ bs) rest (one_more x y front bs h done)

all_onto : {A : Type 0} (P : A → Type 0) (xs front : List A) → AllByRecursion P xs → AllByRecursion P front → AllByRecursion P (reverse_aux xs front)
all_onto P [] front h done = done
all_onto P (x ∷ xs) front h done = all_onto P xs (x ∷ front) h.1 (h.0, done)

all_append : {A : Type 0} (P : A → Type 0) (xs ys : List A) → AllByRecursion P xs → AllByRecursion P ys → AllByRecursion P (xs ++ ys)
all_append P [] ys h k = k
all_append P (x ∷ xs) ys h k = (h.0, all_append P xs ys h.1 k)

module _ (program : Program) (sound : HasSoundHierarchy program) (s : State) (state : IsTypedState program s) where
  abbrev pub asked : List FieldDesc → List Need
  asked params = map (λ desc. need_of (kind_of_type program desc)) params

  plain_params : (params : List FieldDesc) → AllByRecursion IsPlainNeed (asked params)
  plain_params [] = tt
  plain_params (desc ∷ params) = (need_plain program sound s state.objects (kind_of_type program desc), plain_params params)

  plain_receiver : (op current : ℕ) (named : MemberRef) → AllByRecursion IsPlainNeed (receiver_needs program op current named)
  plain_receiver op current named = by_tests (op == 184) (op == 183)
    where
      by_tests : (a b : Bool) → AllByRecursion IsPlainNeed (if a then [] else if b then OfEach (named.owner ∷ special_types program current named) ∷ [] else OfEach (named.owner ∷ []) ∷ [])
      by_tests true b = tt
      by_tests false true = (tt, tt)
      by_tests false false = (tt, tt)

  plain_needs : (op current : ℕ) (named : MemberRef) (params : List FieldDesc) → AllByRecursion IsPlainNeed (argument_needs program params ++ receiver_needs program op current named)
  plain_needs op current named params =
      all_append IsPlainNeed (argument_needs program params) (receiver_needs program op current named) (all_onto IsPlainNeed (asked params) [] (plain_params params) tt) (plain_receiver op current named)

  popped_meet : (needs : List Need) (kinds : List Kind) (vs : List (Value ℕ)) → AllByRecursion IsPlainNeed needs → ArePopped program s.heap needs kinds vs → Pairwise (Meets program s.heap) needs vs
  popped_meet [] kinds [] plain popped = no_more
  popped_meet [] kinds (v ∷ vs) plain popped = absurd popped
  popped_meet (need ∷ needs) [] [] plain popped = absurd popped
  popped_meet (need ∷ needs) [] (v ∷ vs) plain popped = absurd popped
  popped_meet (need ∷ needs) (kind ∷ kinds) [] plain popped = absurd popped
  popped_meet (need ∷ needs) (kind ∷ kinds) (v ∷ vs) plain popped =
      one_more need v needs vs (place_meets program sound s.heap state.objects need kind v plain.0 popped.0 popped.1) (popped_meet needs kinds vs plain.1 popped.2)

  -- the needs in order: the receiver's, then those of the parameters
  in_order : (op current : ℕ) (named : MemberRef) (params : List FieldDesc)
      → reverse (argument_needs program params ++ receiver_needs program op current named) ≡ receiver_needs program op current named ++ asked params
  in_order op current named params =
      reverse-append (argument_needs program params) (receiver_needs program op current named)
      ∙ ap (λ (xs : List Need). reverse (receiver_needs program op current named) ++ xs) (reverse-reverse (asked params))
      ∙ ap (λ (xs : List Need). xs ++ asked params) (by_tests (op == 184) (op == 183))
    where
      by_tests : (a b : Bool) → reverse (if a then [] else if b then OfEach (named.owner ∷ special_types program current named) ∷ [] else OfEach (named.owner ∷ []) ∷ [])
          ≡ (if a then [] else if b then OfEach (named.owner ∷ special_types program current named) ∷ [] else OfEach (named.owner ∷ []) ∷ [])
      by_tests true b = refl
      by_tests false true = refl
      by_tests false false = refl

  pub given_in_order : (op current : ℕ) (named : MemberRef) (params : List FieldDesc) (kinds : List Kind) (vs : List (Value ℕ))
      → ArePopped program s.heap (argument_needs program params ++ receiver_needs program op current named) kinds vs
      → Pairwise (Meets program s.heap) (receiver_needs program op current named ++ asked params) (reverse vs)
  given_in_order op current named params kinds vs popped =
      subst (λ (needs : List Need). Pairwise (Meets program s.heap) needs (reverse vs)) (in_order op current named params)
      (pairwise_onto (Meets program s.heap) (argument_needs program params ++ receiver_needs program op current named) vs [] []
      (popped_meet (argument_needs program params ++ receiver_needs program op current named) kinds vs (plain_needs op current named params) popped) no_more)

-- ---- what is called

module _ (program : Program) (labels : Labels) (sound : HasSoundHierarchy program) (methods : HasSoundMethods program) (threads : HasThreadMethods program) (natives : AreNativesLabelled program labels)
    (s : State) (state : IsTypedState program s) where
  int_there : (v : Value ℕ) → Meets program s.heap AnInt v → (z : ℤ) × (v ≡ int z) × FitsSigned w32 z
  int_there (int z) h = (z, refl, h)
  int_there null h = never h
  int_there (ref a) h = absurd h.fits

  native_comes : (n : ℕ) (label : Label) (type : MethodDesc) → label_type label ≡ Some type → (vs : List (Value ℕ)) → Pairwise (Meets program s.heap) (asked program sound s state type.params) vs
      → ComesTo program s type.result (natively n (Some label) vs)
  native_comes n (Source level) type is vs held =
      subst (λ (x : MethodDesc). Pairwise (Meets program s.heap) (asked program sound s state x.params) vs → ComesTo program s x.result (natively n (Some (Source level)) vs)) (same_some is) (source vs) held
    where
      source : (vs : List (Value ℕ)) → Pairwise (Meets program s.heap) [] vs → ComesTo program s (Some int_type) (natively n (Some (Source level)) vs)
      source vs no_more = record { outcome = asks n; is_outcome = refl; follows = by_ask n refl }
  native_comes n (Sink level) type is vs held =
      subst (λ (x : MethodDesc). Pairwise (Meets program s.heap) (asked program sound s state x.params) vs → ComesTo program s x.result (natively n (Some (Sink level)) vs)) (same_some is) (sink vs) held
    where
      sink : (vs : List (Value ℕ)) → Pairwise (Meets program s.heap) (AnInt ∷ []) vs → ComesTo program s None (natively n (Some (Sink level)) vs)
      sink vs (one_more need v needs others h no_more) =
          let found = int_there v h in
          subst (λ (x : Value ℕ). ComesTo program s None (natively n (Some (Sink level)) (x ∷ []))) (sym found.1) (record { outcome = shows n found.0; is_outcome = refl; follows = by_show n found.0 refl })
  native_comes n (Release from to) type is vs held =
      subst (λ (x : MethodDesc). Pairwise (Meets program s.heap) (asked program sound s state x.params) vs → ComesTo program s x.result (natively n (Some (Release from to)) vs)) (same_some is) (release vs) held
    where
      release : (vs : List (Value ℕ)) → Pairwise (Meets program s.heap) (AnInt ∷ []) vs → ComesTo program s (Some int_type) (natively n (Some (Release from to)) vs)
      release vs (one_more need v needs others h no_more) =
          let found = int_there v h in
          subst (λ (x : Value ℕ). ComesTo program s (Some int_type) (natively n (Some (Release from to)) (x ∷ []))) (sym found.1)
          (record { outcome = releases n found.0; is_outcome = refl; follows = by_release n found.0 found.2 refl })

  -- the class by which an object or array selects may have objects
  selects_by : (o : HeapObject) → IsTypedObject program s.heap o → (class : Class) × (class_at program (class_of o.info) ≡ Some class) × (has_objects class ≡ true)
  selects_by o (of_class _ c class info found made names contents) = (class, ap (λ (x : Info). class_at program (class_of x)) info ∙ found, made)
  selects_by o (of_array _ type count info long fits elements) =
      (methods.object.0, ap (λ (x : Info). class_at program (class_of x)) info ∙ methods.object.1, methods.object.2)

  module _ (current op : ℕ) (ref_to : MemberRef) (type : MethodDesc) (right : IsSoundCall program current op ref_to) (is_within : (182 ≤ op) × (op ≤ 185))
      (no_interface : is_interface program (OfClass current) ≡ false) (typed : method_desc_in ref_to.desc ≡ Some type) where
    pub resolves : Resolves program ref_to.name ref_to.desc (receiver_class ref_to.owner) right.named
    resolves = resolved program ref_to.name ref_to.desc sound.no_cycle (receiver_class ref_to.owner) right.named right.is_named

    pub declared : Declares program ref_to.name ref_to.desc resolves.above right.named
    declared = own_declared program ref_to.name ref_to.desc resolves.above right.named resolves.own

    typed_as : (m : ℕ) (method : Method) → method_at program m ≡ Some method → method.desc ≡ ref_to.desc → method_desc (method_at program m) ≡ Some type
    typed_as m method is same = ap method_desc is ∙ ap method_desc_in same ∙ typed

    typed_named : method_desc (method_at program right.named) ≡ Some type
    typed_named = typed_as right.named declared.method declared.is_method declared.desc_is

    -- ---- a static method

    static_comes : (op == 184) ≡ true → (vs : List (Value ℕ)) → Pairwise (Meets program s.heap) (asked program sound s state type.params) vs
        → (t : Taken) → taken_from program (Some right.named) ≡ t → (t ≡ Nothing → ⊥)
        → ComesTo program s type.result (by_taken (callee program labels current op ref_to.owner right.named) (info_at s) (was_started s) t vs)
    static_comes is vs held (TakesCode n) taken some =
        let own : HasCode program right.named n = tells program right.named (TakesCode n) taken in
        let static : has_flag static_flag own.method.flags ≡ true = subst (λ (o : Option Method). is_static_method o ≡ true) own.is_method (right.static ∙ is) in
        let kinds : receiver_kinds own.method ≡ [] = ap (λ (b : Bool). if b then [] else Ref (OfClass own.method.class) ∷ []) static in
        record {
          outcome = enters n vs;
          is_outcome = refl;
          follows = by_enter n vs
              (record {
                method = own.method;
                code = own.code;
                is_method = ap (method_at program) own.same ∙ own.is_method;
                has_code = own.has_code;
                kinds = subst (λ (ks : List Kind). Pairwise (PlaceHasKind program s.heap) (ks ++ param_kinds program (method_desc_in own.method.desc)) (map (λ v. Some v) vs)) (sym kinds)
                    (params_of program sound s state own.method type (ap method_desc (sym own.is_method) ∙ typed_named) vs held);
              })
              (ap (λ (k : ℕ). result_of (method_desc (method_at program k))) own.same ∙ ap result_of typed_named);
        }
    static_comes is vs held Start taken some = never (sym (threads.start right.named taken) ∙ right.static ∙ is)
    static_comes is vs held Join taken some = never (sym (threads.join right.named taken) ∙ right.static ∙ is)
    static_comes is vs held (Native n) taken some =
        let same : n ≡ right.named = tells program right.named (Native n) taken in
        let own = natives right.named (taken ∙ ap (λ (k : ℕ). Native k) same) in
        let label : label_of labels n ≡ Some own.label = ap (label_of labels) same ∙ own.is_labelled in
        let shape : label_type own.label ≡ Some type = sym (label_shape own.label) ∙ ap method_desc_in (sym own.shape) ∙ ap method_desc (sym own.is_method) ∙ typed_named in
        subst (λ (o : Option Label). ComesTo program s type.result (natively n o vs)) (sym label) (native_comes n own.label type shape vs held)
    static_comes is vs held Nothing taken some = absurd (some refl)

    -- ---- an instance method

    -- what is taken for a receiver
    pub record Chosen (a : ℕ) (t : Taken) : Type 0 where
      pub m : ℕ
      pub is_taken : taken_from program (Some m) ≡ t
      pub some : t ≡ Nothing → ⊥
      pub receiver : IsReceiver program sound s state m a
      pub typed_there : method_desc (method_at program m) ≡ Some type

    chosen_by : (a above m c : ℕ) (o : HeapObject) → slice_get s.heap a ≡ Some o → (option : Option ℕ) → option ≡ Some m → (taken_from program option ≡ Nothing → ⊥) → search_from program c declared.method.name declared.method.desc ≡ option
        → ((k : ℕ) → is_subtype program c k ≡ true → type_fits program (type_of o.info) (OfClass k) ≡ true) → Chosen a (taken_from program option)
    chosen_by a above m c o is option same some search fits =
        let own = selected program declared.method.name declared.method.desc sound.no_cycle c m (search ∙ same) in
        record {
          m = m;
          is_taken = ap (taken_from program) (sym same);
          some = some;
          receiver = declared_receiver program labels sound methods threads natives s state declared.method.name declared.method.desc a own.above m o is own.declared (fits own.above own.is_above) own.no_static;
          typed_there = typed_as m own.declared.method own.declared.is_method (own.declared.desc_is ∙ declared.desc_is);
        }

    module _ (a : ℕ) (o : HeapObject) (is : slice_get s.heap a ≡ Some o) (fits : type_fits program (type_of o.info) ref_to.owner ≡ true) where
      fits_declared : type_fits program (type_of o.info) (OfClass resolves.above) ≡ true
      fits_declared = fits_resolved program sound o.info ref_to.owner resolves.above fits resolves.is_above

      -- invokespecial takes the method itself, or searches from the superclass
      special_chosen : (op == 184) ≡ false → fits_each program (type_of o.info) (special_types program current ref_to) ≡ true → (taken_from program (special program current right.named) ≡ Nothing → ⊥)
          → Chosen a (taken_from program (special program current right.named))
      special_chosen no_static each some =
          subst (λ (x : Option Method). Chosen a (taken_from program (special_in program current right.named x))) (sym declared.is_method)
          (by_test (is_taken_as_resolved current declared.method) refl some_there)
        where
          some_there : taken_from program (special_in program current right.named (Some declared.method)) ≡ Nothing → ⊥
          some_there = subst (λ (x : Option Method). taken_from program (special_in program current right.named x) ≡ Nothing → ⊥) declared.is_method some

          types_are : special_types program current ref_to ≡ searched_class current (Some declared.method)
          types_are = ap (λ (x : Option ℕ). searched_class current (option_and_then (λ m. method_at program m) x)) right.is_named ∙ ap (searched_class current) declared.is_method

          of_current : is_taken_as_resolved current declared.method ≡ false → type_fits program (type_of o.info) (OfClass current) ≡ true
          of_current other =
              let e : special_types program current ref_to ≡ OfClass current ∷ [] = types_are ∙ ap (λ (b : Bool). if b then [] else OfClass current ∷ []) other in
              let h : fits_each program (type_of o.info) (OfClass current ∷ []) ≡ true = subst (λ (types : List TypeRef). fits_each program (type_of o.info) types ≡ true) e each in
              takes_fits program sound (type_of o.info) (OfClass current) no_interface (and_parts (takes_type program (type_of o.info) (OfClass current)) true h).0

          edge : (c : ℕ) (x : Option Class) → class_at program current ≡ x → option_and_then (λ (class : Class). class.superclass) x ≡ Some c → is_subtype program current c ≡ true
          edge c None there up = absurd (cc)
          edge c (Some class) there up =
              subtype_every program sound.no_cycle current c
              (goes current c c
              (from_superclass program current c (subst (λ (x : Option Class). Contains (superclass_in x) c) (sym there) (subst (λ (x : Option ℕ). Contains (option_to_list x) c) (sym up) (here c [])))) (stays c))

          by_super : is_taken_as_resolved current declared.method ≡ false → (x : Option ℕ) → superclass_at program current ≡ x
              → (taken_from program (option_and_then (λ c. search_from program c declared.method.name declared.method.desc) x) ≡ Nothing → ⊥)
              → Chosen a (taken_from program (option_and_then (λ c. search_from program c declared.method.name declared.method.desc) x))
          by_super other None up some = absurd (some refl)
          by_super other (Some c) up some =
              let found = found_method program (search_from program c declared.method.name declared.method.desc) some in
              chosen_by a 0 found.0 c o is (search_from program c declared.method.name declared.method.desc) found.1 some refl
              (λ k below. fits_on program sound (type_of o.info) (OfClass current) (OfClass k) (of_current other)
              (subtype_on program sound current c k (edge c (class_at program current) refl up) below))

          by_test : (b : Bool) → is_taken_as_resolved current declared.method ≡ b
              → (taken_from program (if b then Some right.named else option_and_then (λ c. search_from program c declared.method.name declared.method.desc) (superclass_at program current)) ≡ Nothing → ⊥)
              → Chosen a (taken_from program (if b then Some right.named else option_and_then (λ c. search_from program c declared.method.name declared.method.desc) (superclass_at program current)))
          by_test true e some = record {
            m = right.named;
            is_taken = refl;
            some = some;
            receiver = declared_receiver program labels sound methods threads natives s state ref_to.name ref_to.desc a resolves.above right.named o is declared fits_declared (right.static ∙ no_static);
            typed_there = typed_named;
          }
          by_test false e some = by_super e (superclass_at program current) refl some

      -- the others select by the receiver's class
      pub select_chosen : (op == 184) ≡ false → Chosen a (taken_from program (select program (class_of o.info) right.named))
      select_chosen no_static =
          let c = class_of o.info in
          let own = selects_by o (state.objects a o is) in
          let by_name : own_method program declared.method.name declared.method.desc resolves.above ≡ Some right.named =
          ap (λ (name : List ℕ). own_method program name declared.method.desc resolves.above) declared.name_is
          ∙ ap (λ (desc : List ℕ). own_method program ref_to.name desc resolves.above) declared.desc_is ∙ resolves.own in
          let some : taken_from program (select program c right.named) ≡ Nothing → ⊥ =
          methods.selected c resolves.above right.named own.0 declared.method own.1 own.2 (class_below program sound o.info resolves.above fits_declared) by_name declared.is_method (right.static ∙ no_static) in
          let search : select program c right.named ≡ search_from program c declared.method.name declared.method.desc =
          ap (option_and_then (λ (method : Method). search_from program c method.name method.desc)) declared.is_method in
          let found = found_method program (select program c right.named) some in
          chosen_by a 0 found.0 c o is (select program c right.named) found.1 some (sym search) (λ k below. fits_above program sound o.info k below)

    -- ---- a receiver, whatever it is

    abbrev own_call : Callee
    own_call = callee program labels current op ref_to.owner right.named

    abbrev does_implement : Info → Bool
    does_implement info = if op == 185 then type_fits program (type_of info) ref_to.owner else true

    -- what passes the test is of the named type
    of_owner : (info : Info) (more : List TypeRef) → (op == 184) ≡ false → does_implement info ≡ true → fits_each program (type_of info) (ref_to.owner ∷ more) ≡ true
        → type_fits program (type_of info) ref_to.owner ≡ true
    of_owner info more no_static passes each = by_test (op == 185) refl passes
      where
        by_test : (b : Bool) → (op == 185) ≡ b → (if b then type_fits program (type_of info) ref_to.owner else true) ≡ true → type_fits program (type_of info) ref_to.owner ≡ true
        by_test true e h = h
        by_test false e h =
            let not_static : op ≡ 184 → ⊥ = eqb-false op 184 no_static in
            let not_interface : op ≡ 185 → ⊥ = eqb-false op 185 e in
            let by_class : (op == 182 || op == 183) ≡ true = elim (cases_eq op 182) [
              | inl same ↦ or_left (op == 182) (op == 183) (eq-eqb op 182 same)
              | inr other ↦ or_right (op == 182) (op == 183) (eq-eqb op 183 (omega (arith, is_within.0, is_within.1, not_static, not_interface, other)))
            ] in
            takes_fits program sound (type_of info) ref_to.owner (right.of_class by_class) (and_parts (takes_type program (type_of info) ref_to.owner) (fits_each program (type_of info) more) each).0

    module _ (no_static : (op == 184) ≡ false) (more : List TypeRef)
        (choose : (a : ℕ) (o : HeapObject) → slice_get s.heap a ≡ Some o → type_fits program (type_of o.info) ref_to.owner ≡ true → fits_each program (type_of o.info) (ref_to.owner ∷ more) ≡ true
        → Chosen a (takes program op current right.named (class_of o.info)))
        (vs : List (Value ℕ)) (held : Pairwise (Meets program s.heap) (asked program sound s state type.params) vs) where
      abbrev Goal : ℕ → Info → Type 0
      Goal a info = ComesTo program s type.result (if own_call.implements info then by_taken own_call (info_at s) (was_started s) (own_call.taken info) (ref a ∷ vs) else Some (fails MissingInterface))

      by_object : (a : ℕ) → StandsWith s.heap a (InfoMeets program (OfEach (ref_to.owner ∷ more))) → Goal a (info_at s a)
      by_object a stands = subst (Goal a) (sym (ap info_of stands.is_there)) (by_test (does_implement stands.found.info) refl)
        where
          by_test : (b : Bool) → does_implement stands.found.info ≡ b
              → ComesTo program s type.result (if b then by_taken own_call (info_at s) (was_started s) (own_call.taken stands.found.info) (ref a ∷ vs) else Some (fails MissingInterface))
          by_test true e =
              let chosen = choose a stands.found stands.is_there (of_owner stands.found.info more no_static e stands.fits) stands.fits in
              instance_comes program labels sound methods threads natives s state current op ref_to.owner right.named chosen.m a chosen.receiver type chosen.typed_there vs held
              (takes program op current right.named (class_of stands.found.info)) chosen.is_taken chosen.some
          by_test false e = record { outcome = fails MissingInterface; is_outcome = refl; follows = by_fail MissingInterface }

      receiver_comes : (v : Value ℕ) → Meets program s.heap (OfEach (ref_to.owner ∷ more)) v → ComesTo program s type.result (by_receiver own_call (info_at s) (was_started s) (v ∷ vs))
      receiver_comes (int z) h = absurd h
      receiver_comes null h = record { outcome = fails NullBase; is_outcome = refl; follows = by_fail NullBase }
      receiver_comes (ref a) h = by_object a h

    -- ---- by the opcode

    split_values : (need : Need) (vs : List (Value ℕ)) → Pairwise (Meets program s.heap) (need ∷ asked program sound s state type.params) vs
        → (v : Value ℕ) × (rest : List (Value ℕ)) × (vs ≡ v ∷ rest) × Meets program s.heap need v × Pairwise (Meets program s.heap) (asked program sound s state type.params) rest
    split_values need vs (one_more _ v needs others h rest) = (v, others, refl, h, rest)

    abbrev Comes : List (Value ℕ) → Type 0
    Comes vs = ComesTo program s type.result (invoked (callee program labels current op ref_to.owner right.named) (info_at s) (was_started s) vs)

    takes_static : (op == 184) ≡ true → (receiver : ℕ) → takes program op current right.named receiver ≡ taken_from program (Some right.named)
    takes_static is receiver = ap (λ (b : Bool). if b then taken_from program (Some right.named) else if op == 183 then taken_from program (special program current right.named) else taken_from program (select program receiver right.named)) is

    takes_special : (op == 184) ≡ false → (op == 183) ≡ true → (receiver : ℕ) → takes program op current right.named receiver ≡ taken_from program (special program current right.named)
    takes_special instance is receiver = rw (instance, is) refl

    takes_selected : (op == 184) ≡ false → (op == 183) ≡ false → (receiver : ℕ) → takes program op current right.named receiver ≡ taken_from program (select program receiver right.named)
    takes_selected instance other receiver = rw (instance, other) refl

    by_static : (op == 184) ≡ true → (vs : List (Value ℕ)) → Pairwise (Meets program s.heap) (asked program sound s state type.params) vs → Comes vs
    by_static is vs held =
        subst (λ (b : Bool). ComesTo program s type.result (if not b then by_receiver own_call (info_at s) (was_started s) vs else by_taken own_call (info_at s) (was_started s) (takes program op current right.named object_number) vs)) (sym is)
        (subst (λ (t : Taken). ComesTo program s type.result (by_taken own_call (info_at s) (was_started s) t vs)) (sym taken)
        (static_comes is vs held (taken_from program (Some right.named)) refl (λ none. right.body (or_right (op == 183) (op == 184) is) object_number (taken ∙ none))))
      where
        taken : takes program op current right.named object_number ≡ taken_from program (Some right.named)
        taken = takes_static is object_number

    by_instance : (op == 184) ≡ false → (more : List TypeRef)
        → ((a : ℕ) (o : HeapObject) → slice_get s.heap a ≡ Some o → type_fits program (type_of o.info) ref_to.owner ≡ true → fits_each program (type_of o.info) (ref_to.owner ∷ more) ≡ true
        → Chosen a (takes program op current right.named (class_of o.info)))
        → (vs : List (Value ℕ)) → Pairwise (Meets program s.heap) (OfEach (ref_to.owner ∷ more) ∷ asked program sound s state type.params) vs → Comes vs
    by_instance instance more choose vs held =
        let parts = split_values (OfEach (ref_to.owner ∷ more)) vs held in
        subst (λ (b : Bool). ComesTo program s type.result (if not b then by_receiver own_call (info_at s) (was_started s) vs else by_taken own_call (info_at s) (was_started s) (takes program op current right.named object_number) vs)) (sym instance)
        (subst (λ (ws : List (Value ℕ)). ComesTo program s type.result (by_receiver own_call (info_at s) (was_started s) ws)) (sym parts.2)
        (receiver_comes instance more choose parts.1 parts.4 parts.0 parts.3))

    pub comes : (vs : List (Value ℕ)) → Pairwise (Meets program s.heap) (receiver_needs program op current ref_to ++ asked program sound s state type.params) vs → Comes vs
    comes vs held = by_tests (op == 184) (op == 183) refl refl held
      where
        by_tests : (a b : Bool) → (op == 184) ≡ a → (op == 183) ≡ b
            → Pairwise (Meets program s.heap) ((if a then [] else if b then OfEach (ref_to.owner ∷ special_types program current ref_to) ∷ [] else OfEach (ref_to.owner ∷ []) ∷ []) ++ asked program sound s state type.params) vs
            → Comes vs
        by_tests true b is other held = by_static is vs held
        by_tests false true instance is held = by_instance instance (special_types program current ref_to) (λ a o there fits each.
            let some : taken_from program (special program current right.named) ≡ Nothing → ⊥ = λ none. right.body (or_left (op == 183) (op == 184) is) (class_of o.info) (takes_special instance is (class_of o.info) ∙ none) in
            subst (Chosen a) (sym (takes_special instance is (class_of o.info)))
            (special_chosen a o there fits instance (and_parts (takes_type program (type_of o.info) ref_to.owner) (fits_each program (type_of o.info) (special_types program current ref_to)) each).1 some)) vs held
        by_tests false false instance other held = by_instance instance [] (λ a o there fits each. subst (Chosen a) (sym (takes_selected instance other (class_of o.info))) (select_chosen a o there fits instance)) vs held

-- What is taken for a call that typing lets through, and what comes of it.
use Rattle.std.proofs.Common.{◌≡◌, ◌∙◌, ℕ, Bool, true, false, ◌&&◌, List, [], ◌∷◌, ◌++◌, map, Option, Some, None, refl, sym, ap, subst, inl, inr}
use Rattle.std.specs.Prelude.{◌==◌, is_some, slice_get, if◌then◌else◌, codes}
use Rattle.std.specs.Str.{bytes_eq}
use Rattle.std.proofs.lemmas.Bool.{and_parts, or_cases, or_right, eqb-true, eq-eqb}
use Rattle.jo_text.specs.declared.descriptors.FieldDesc.{FieldDesc}
use Rattle.jo_text.specs.declared.descriptors.MethodDesc.{MethodDesc}
use Rattle.jo_text.specs.Scan.{read_field, read_base, letter_base}
use Rattle.jo_insn.specs.AccessFlags.{has_flag, static_flag, native_flag}
use Rattle.jo_ids.specs.Path.{stays}
use Rattle.jo_prog.proofs.HierarchyLemmas.{subtype_every}
use Rattle.jo_prog.specs.declared.calls.Taken.{Taken}
use Rattle.jo_prog.specs.declared.calls.Taken.TheVariants.{Code as TakesCode, Start, Join, Native, Nothing}
use Rattle.jo_prog.specs.declared.labels.Label.{Label}
use Rattle.jo_prog.specs.declared.labels.Label.TheVariants.{Source, Sink, Release}
use Rattle.jo_prog.specs.declared.labels.Labels.{Labels}
use Rattle.jo_prog.specs.declared.program.Program.{Program}
use Rattle.jo_prog.specs.declared.program.Code.{Code}
use Rattle.jo_prog.specs.declared.program.Method.{Method}
use Rattle.jo_prog.specs.declared.program.TypeRef.{TypeRef}
use Rattle.jo_prog.specs.declared.program.TypeRef.TheVariants.{Class as OfClass, Array as OfArray}
use Rattle.jo_prog.specs.declared.sites.Cause.TheVariants.{SecondStart}
use Rattle.jo_prog.specs.Calls.{receiver_class, is_machine_method, taken_if, taken_from, run_of}
use Rattle.jo_prog.specs.Hierarchy.{is_subtype, is_static_method, search_from}
use Rattle.jo_prog.specs.MethodTypes.{method_desc_in, params_from}
use Rattle.jo_prog.specs.PlainCode.{desc_for}
use Rattle.jo_prog.specs.PreludeClasses.{object_number, thread_number}
use Rattle.jo_prog.specs.Program.{method_at}
use Rattle.jo_prog.specs.Types.{type_fits}
use Rattle.jo_prog.specs.Typing.{Kind, Ref}
use Rattle.jo_prog.specs.Shapes.{is_interface, takes_type, kind_of_type, need_of}
use Rattle.jo_prog.specs.InsnTyping.{receiver_kinds, param_kinds}
use Rattle.jo_prog.specs.Values.{Value, ref, Info, object, array}
use Rattle.jo_prog.specs.Machine.{HeapObject, State, info_of, info_at}
use Rattle.machine.specs.Instructions.{method_desc, result_of}
use Rattle.machine.specs.Invocation.{Callee, callee, enters, begins, joins, fails, class_of, type_of, begun, by_taken}
use Rattle.machine.specs.Heaps.{was_started}
use Rattle.step_laws.specs.TypedStates.{an_object, PlaceHasKind, set, Pairwise, no_more, one_more, IsTypedObject, of_class, of_array, StandsAt, IsTypedState}
use Rattle.step_laws.specs.Premises.{HasSoundHierarchy}
use Rattle.step_laws.specs.Needs.{Meets}
use Rattle.step_laws.proofs.TypeLemmas.{never, above_object, fits_on, same_some, same_bytes}
use Rattle.step_laws.proofs.ExecLemmas.{kind_dims}
use Rattle.step_laws.proofs.ValueLemmas.{meets_kind}
use Rattle.kept_laws.specs.Premises.{HasSoundMethods, HasThreadMethods, AreNativesLabelled}
use Rattle.kept_laws.specs.Calls.{TakesValues, by_enter, by_begin, by_join, by_fail, int_type, ComesTo}
use Rattle.kept_laws.proofs.MemberLemmas.{Declares, selected}

-- ---- what is taken for a method

-- a method of java/lang/Thread that takes nothing and has no result
pub record IsOfThread (program : Program) (m : ℕ) : Type 0 where
  pub method : Method
  pub is_method : method_at program m ≡ Some method
  pub of_thread : method.class ≡ thread_number
  pub desc_is : method.desc ≡ codes "()V"

pub record HasCode (program : Program) (m n : ℕ) : Type 0 where
  pub same : n ≡ m
  pub method : Method
  pub is_method : method_at program m ≡ Some method
  pub code : Code
  pub has_code : method.code ≡ Some code

abbrev pub Tells : Program → ℕ → Taken → Type 0
Tells program m (TakesCode n) = HasCode program m n
Tells program m Start = IsOfThread program m
Tells program m Join = IsOfThread program m
Tells program m (Native n) = n ≡ m
Tells program m Nothing = Unit {0}

module _ (program : Program) (m : ℕ) where
  of_thread : (name : List ℕ) (method : Method) → method_at program m ≡ Some method → is_machine_method name method ≡ true → IsOfThread program m
  of_thread name method is h =
      let first = and_parts (method.class == thread_number && bytes_eq method.name name) (bytes_eq method.desc (codes "()V")) h in
      let second = and_parts (method.class == thread_number) (bytes_eq method.name name) first.0 in
      record { method = method; is_method = is; of_thread = eqb-true method.class thread_number second.0; desc_is = same_bytes method.desc (codes "()V") first.1 }

  pub tells : (t : Taken) → taken_from program (Some m) ≡ t → Tells program m t
  tells t e = by_method (method_at program m) refl e
    where
      along : (x : Taken) → Tells program m x → x ≡ t → Tells program m t
      along x h is = subst (Tells program m) is h

      by_code : (method : Method) → method_at program m ≡ Some method → (o : Option Code) → method.code ≡ o → (a b c : Bool) → is_machine_method (codes "start") method ≡ a
          → is_machine_method (codes "join") method ≡ b → (if is_some o then TakesCode m else if a then Start else if b then Join else if c then Native m else Nothing) ≡ t → Tells program m t
      by_code method is (Some code) has a b c ea eb at = along (TakesCode m) (record { same = refl; method = method; is_method = is; code = code; has_code = has }) at
      by_code method is None has true b c ea eb at = along Start (of_thread (codes "start") method is ea) at
      by_code method is None has false true c ea eb at = along Join (of_thread (codes "join") method is eb) at
      by_code method is None has false false true ea eb at = along (Native m) refl at
      by_code method is None has false false false ea eb at = along Nothing tt at

      by_method : (o : Option Method) → method_at program m ≡ o → taken_if m o ≡ t → Tells program m t
      by_method None is at = along Nothing tt at
      by_method (Some method) is at = by_code method is method.code refl (is_machine_method (codes "start") method) (is_machine_method (codes "join") method) (has_flag native_flag method.flags) refl refl at

-- what is taken is taken for some method
pub found_method : (program : Program) (o : Option ℕ) → (taken_from program o ≡ Nothing → ⊥) → (m : ℕ) × (o ≡ Some m)
found_method program None some = absurd (some refl)
found_method program (Some m) some = (m, refl)

-- ---- parameters

module _ (program : Program) (sound : HasSoundHierarchy program) (s : State) (state : IsTypedState program s) where
  -- values that are as parameters ask are of their kinds
  pub params_held : (params : List FieldDesc) (vs : List (Value ℕ)) → Pairwise (Meets program s.heap) (map (λ desc. need_of (kind_of_type program desc)) params) vs
      → Pairwise (PlaceHasKind program s.heap) (map (kind_of_type program) params) (map (λ v. Some v) vs)
  params_held [] vs no_more = no_more
  params_held (desc ∷ params) vs (one_more need v needs others h rest) =
      one_more (kind_of_type program desc) (Some v) (map (kind_of_type program) params) (map (λ v. Some v) others)
      (set (kind_of_type program desc) v (meets_kind program sound s.heap state.objects (kind_of_type program desc) v (kind_dims program sound s state.objects desc) h))
      (params_held params others rest)

  pub no_values : (vs : List (Value ℕ)) → Pairwise (Meets program s.heap) [] vs → vs ≡ []
  no_values vs no_more = refl

  -- the type of what a method takes
  pub params_of : (method : Method) (type : MethodDesc) → method_desc_in method.desc ≡ Some type → (vs : List (Value ℕ))
      → Pairwise (Meets program s.heap) (map (λ desc. need_of (kind_of_type program desc)) type.params) vs
      → Pairwise (PlaceHasKind program s.heap) (param_kinds program (method_desc_in method.desc)) (map (λ v. Some v) vs)
  params_of method type is vs held =
      subst (λ (o : Option MethodDesc). Pairwise (PlaceHasKind program s.heap) (param_kinds program o) (map (λ v. Some v) vs)) (sym is) (params_held type.params vs held)

  -- ---- instance methods

  -- an object or array is of a class that declares a method
  pub record IsReceiver (m a : ℕ) : Type 0 where
    pub method : Method
    pub is_method : method_at program m ≡ Some method
    pub found : HeapObject
    pub is_there : slice_get s.heap a ≡ Some found
    pub fits : takes_type program (type_of found.info) (OfClass method.class) ≡ true
    pub no_static : is_static_method (method_at program m) ≡ false

  pub takes_receiver : (m a : ℕ) → IsReceiver m a → (code : Code) (method : Method) → method_at program m ≡ Some method → method.code ≡ Some code → (type : MethodDesc)
      → method_desc_in method.desc ≡ Some type → (vs : List (Value ℕ)) → Pairwise (Meets program s.heap) (map (λ desc. need_of (kind_of_type program desc)) type.params) vs
      → TakesValues program s.heap m (ref a ∷ vs)
  takes_receiver m a receiver code method is has type typed vs held = record {
    method = method;
    code = code;
    is_method = is;
    has_code = has;
    kinds = subst (λ (kinds : List Kind). Pairwise (PlaceHasKind program s.heap) (kinds ++ param_kinds program (method_desc_in method.desc)) (Some (ref a) ∷ map (λ v. Some v) vs)) (sym kinds_are)
        (one_more (Ref (OfClass method.class)) (Some (ref a)) (param_kinds program (method_desc_in method.desc)) (map (λ v. Some v) vs)
        (set (Ref (OfClass method.class)) (ref a) (an_object (OfClass method.class) a receiver.found receiver.is_there fits_own refl)) (params_of method type typed vs held));
  }
    where
      same : receiver.method ≡ method
      same = same_some (sym receiver.is_method ∙ is)

      fits_own : takes_type program (type_of receiver.found.info) (OfClass method.class) ≡ true
      fits_own = subst (λ (x : Method). takes_type program (type_of receiver.found.info) (OfClass x.class) ≡ true) same receiver.fits

      no_flag : has_flag static_flag method.flags ≡ false
      no_flag = subst (λ (o : Option Method). is_static_method o ≡ false) is receiver.no_static

      kinds_are : receiver_kinds method ≡ Ref (OfClass method.class) ∷ []
      kinds_are = ap (λ (b : Bool). if b then [] else Ref (OfClass method.class) ∷ []) no_flag

-- ---- types by their spelling

pub void_type : method_desc_in (codes "()V") ≡ Some (record { params = []; result = None })
unfolding method_desc_in params_from
void_type = refl

abbrev pub label_type : (label : Label) → Option MethodDesc
label_type (Source level) = Some (record { params = []; result = Some int_type })
label_type (Sink level) = Some (record { params = int_type ∷ []; result = None })
label_type (Release from to) = Some (record { params = int_type ∷ []; result = Some int_type })

pub label_shape : (label : Label) → method_desc_in (desc_for label) ≡ label_type label
unfolding method_desc_in params_from read_field read_base letter_base
label_shape (Source level) = refl
label_shape (Sink level) = refl
label_shape (Release from to) = refl

void_of : (program : Program) (m : ℕ) → IsOfThread program m → (type : MethodDesc) → method_desc (method_at program m) ≡ Some type → type ≡ record { params = []; result = None }
void_of program m own type typed = same_some (sym typed ∙ ap method_desc own.is_method ∙ ap method_desc_in own.desc_is ∙ void_type)

-- ---- receivers

module _ (program : Program) (sound : HasSoundHierarchy program) where
  -- what an object's class is below, the object is of
  pub fits_above : (info : Info) (above : ℕ) → is_subtype program (class_of info) above ≡ true → type_fits program (type_of info) (OfClass above) ≡ true
  fits_above (object c) above h = h
  fits_above (array type count) above h = eq-eqb above object_number (above_object program sound above h)

  pub class_below : (info : Info) (above : ℕ) → type_fits program (type_of info) (OfClass above) ≡ true → is_subtype program (class_of info) above ≡ true
  class_below (object c) above h = h
  class_below (array type count) above h =
      let same : above ≡ object_number = eqb-true above object_number h in
      subst (λ (k : ℕ). is_subtype program object_number k ≡ true) (sym same) (subtype_every program sound.no_cycle object_number object_number (stays object_number))

  -- what is of the named type is of the class that declares what the name resolves to
  pub fits_resolved : (info : Info) (owner : TypeRef) (above : ℕ) → type_fits program (type_of info) owner ≡ true → is_subtype program (receiver_class owner) above ≡ true
      → type_fits program (type_of info) (OfClass above) ≡ true
  fits_resolved info (OfClass c) above fits h = fits_on program sound (type_of info) (OfClass c) (OfClass above) fits h
  fits_resolved (object c) (OfArray desc) above fits h = never fits
  fits_resolved (array type count) (OfArray desc) above fits h = eq-eqb above object_number (above_object program sound above h)

  pub takes_fits : (given type : TypeRef) → is_interface program type ≡ false → takes_type program given type ≡ true → type_fits program given type ≡ true
  takes_fits given type none h = elim (or_cases (is_interface program type) (type_fits program given type) h) [ inl is ↦ never (sym none ∙ is) | inr fits ↦ fits ]

module _ (program : Program) (labels : Labels) (sound : HasSoundHierarchy program) (methods : HasSoundMethods program) (threads : HasThreadMethods program) (natives : AreNativesLabelled program labels)
    (s : State) (state : IsTypedState program s) where
  -- a method that a class above the receiver's declares
  pub declared_receiver : (name desc : List ℕ) (a above m : ℕ) (o : HeapObject) → slice_get s.heap a ≡ Some o → Declares program name desc above m → type_fits program (type_of o.info) (OfClass above) ≡ true
      → is_static_method (method_at program m) ≡ false → IsReceiver program sound s state m a
  declared_receiver name desc a above m o is declared fits none =
      let same : declared.method.class ≡ above = methods.of_class above m declared.class declared.method declared.is_class declared.among declared.is_method in
      record {
        method = declared.method;
        is_method = declared.is_method;
        found = o;
        is_there = is;
        fits = subst (λ (k : ℕ). takes_type program (type_of o.info) (OfClass k) ≡ true) (sym same) (or_right (is_interface program (OfClass above)) (type_fits program (type_of o.info) (OfClass above)) fits);
        no_static = none;
      }

  -- ---- a thread begins

  pub record Runs (a : ℕ) : Type 0 where
    pub run : ℕ
    pub is_run : run_of program (class_of (info_at s a)) ≡ TakesCode run
    pub takes : TakesValues program s.heap run (ref a ∷ [])

  runs : (a : ℕ) → StandsAt program s.heap a (OfClass thread_number) → Runs a
  runs a stands = by_object stands.found stands.is_there stands.fits (state.objects a stands.found stands.is_there)
    where
      by_run : (c : ℕ) (o : HeapObject) → slice_get s.heap a ≡ Some o → o.info ≡ object c → (r : ℕ) → run_of program c ≡ TakesCode r → Runs a
      by_run c o is info r runs_is =
          let found = found_method program (search_from program c (codes "run") (codes "()V")) (λ e. absurd (differ r (sym e ∙ runs_is))) in
          let taken : taken_from program (Some found.0) ≡ TakesCode r = subst (λ (x : Option ℕ). taken_from program x ≡ TakesCode r) found.1 runs_is in
          let own : HasCode program found.0 r = tells program found.0 (TakesCode r) taken in
          let chosen = selected program (codes "run") (codes "()V") sound.no_cycle c found.0 found.1 in
          let fits : type_fits program (type_of o.info) (OfClass chosen.above) ≡ true = subst (λ (x : Info). type_fits program (type_of x) (OfClass chosen.above) ≡ true) (sym info) chosen.is_above in
          let receiver = declared_receiver (codes "run") (codes "()V") a chosen.above found.0 o is chosen.declared fits chosen.no_static in
          let method_is : chosen.declared.method ≡ own.method = same_some (sym chosen.declared.is_method ∙ own.is_method) in
          let typed : method_desc_in own.method.desc ≡ Some (record { params = []; result = None }) =
          ap (λ (x : Method). method_desc_in x.desc) (sym method_is) ∙ ap method_desc_in chosen.declared.desc_is ∙ void_type in
          record {
            run = r;
            is_run = ap (λ (x : Option HeapObject). run_of program (class_of (info_of x))) is ∙ ap (λ (x : Info). run_of program (class_of x)) info ∙ runs_is;
            takes = subst (λ (k : ℕ). TakesValues program s.heap k (ref a ∷ [])) (sym own.same)
                (takes_receiver program sound s state found.0 a receiver own.code own.method own.is_method own.has_code (record { params = []; result = None }) typed [] no_more);
          }
        where
          differ : (n : ℕ) → Nothing ≡ TakesCode n → ⊥
          differ n e = cc

      by_object : (o : HeapObject) → slice_get s.heap a ≡ Some o → type_fits program (type_of o.info) (OfClass thread_number) ≡ true → IsTypedObject program s.heap o → Runs a
      by_object o is fits (of_class _ c class info found made names contents) =
          let below : is_subtype program c thread_number ≡ true = subst (λ (x : Info). type_fits program (type_of x) (OfClass thread_number) ≡ true) info fits in
          let there = threads.run c class found made below in
          by_run c o is info there.0 there.1
      by_object o is fits (of_array _ type count info long fitting elements) = never (subst (λ (x : Info). type_fits program (type_of x) (OfClass thread_number) ≡ true) info fits)

  module _ (current op : ℕ) (owner : TypeRef) (named : ℕ) where
    abbrev call : Callee
    call = callee program labels current op owner named

    -- what is taken for an instance method, with its receiver and parameters
    pub instance_comes : (m a : ℕ) → IsReceiver program sound s state m a → (type : MethodDesc) → method_desc (method_at program m) ≡ Some type → (vs : List (Value ℕ))
        → Pairwise (Meets program s.heap) (map (λ desc. need_of (kind_of_type program desc)) type.params) vs
        → (t : Taken) → taken_from program (Some m) ≡ t → (t ≡ Nothing → ⊥) → ComesTo program s type.result (by_taken call (info_at s) (was_started s) t (ref a ∷ vs))
    instance_comes m a receiver type typed vs held (TakesCode n) is some =
        let own : HasCode program m n = tells program m (TakesCode n) is in
        let type_is : method_desc_in own.method.desc ≡ Some type = ap method_desc (sym own.is_method) ∙ typed in
        record {
          outcome = enters n (ref a ∷ vs);
          is_outcome = refl;
          follows = by_enter n (ref a ∷ vs)
              (subst (λ (k : ℕ). TakesValues program s.heap k (ref a ∷ vs)) (sym own.same) (takes_receiver program sound s state m a receiver own.code own.method own.is_method own.has_code type type_is vs held))
              (ap (λ (k : ℕ). result_of (method_desc (method_at program k))) own.same ∙ ap result_of typed);
        }
    instance_comes m a receiver type typed vs held Start is some =
        let own : IsOfThread program m = tells program m Start is in
        let void = void_of program m own type typed in
        let none : vs ≡ [] = no_values program sound s state vs (subst (λ (x : MethodDesc). Pairwise (Meets program s.heap) (map (λ desc. need_of (kind_of_type program desc)) x.params) vs) void held) in
        subst (λ (ws : List (Value ℕ)). ComesTo program s type.result (by_taken call (info_at s) (was_started s) Start (ref a ∷ ws))) (sym none)
        (by_started m a receiver own type (ap (λ (x : MethodDesc). x.result) void) (was_started s a) refl)
      where
        by_started : (m a : ℕ) (receiver : IsReceiver program sound s state m a) → IsOfThread program m → (type : MethodDesc) → type.result ≡ None → (b : Bool) → was_started s a ≡ b
            → ComesTo program s type.result (begun a b (run_of program (class_of (info_at s a))))
        by_started m a receiver own type none true e = record { outcome = fails SecondStart; is_outcome = refl; follows = by_fail SecondStart }
        by_started m a receiver own type none false e =
            let method_is : receiver.method ≡ own.method = same_some (sym receiver.is_method ∙ own.is_method) in
            let class_is : receiver.method.class ≡ thread_number = ap (λ (x : Method). x.class) method_is ∙ own.of_thread in
            let fits : takes_type program (type_of receiver.found.info) (OfClass thread_number) ≡ true = subst (λ (k : ℕ). takes_type program (type_of receiver.found.info) (OfClass k) ≡ true) class_is receiver.fits in
            let stands : StandsAt program s.heap a (OfClass thread_number) =
            (record { found = receiver.found; is_there = receiver.is_there; fits = takes_fits program sound (type_of receiver.found.info) (OfClass thread_number) threads.thread_class fits }) in
            let there = runs a stands in
            subst (λ (t : Taken). ComesTo program s type.result (begun a false t)) (sym there.is_run)
            (record { outcome = begins a there.run; is_outcome = refl; follows = by_begin a there.run stands e there.takes none })
    instance_comes m a receiver type typed vs held Join is some =
        let own : IsOfThread program m = tells program m Join is in
        let void = void_of program m own type typed in
        let none : vs ≡ [] = no_values program sound s state vs (subst (λ (x : MethodDesc). Pairwise (Meets program s.heap) (map (λ desc. need_of (kind_of_type program desc)) x.params) vs) void held) in
        subst (λ (ws : List (Value ℕ)). ComesTo program s type.result (by_taken call (info_at s) (was_started s) Join (ref a ∷ ws))) (sym none)
        (record { outcome = joins a; is_outcome = refl; follows = by_join a (ap (λ (x : MethodDesc). x.result) void) })
    instance_comes m a receiver type typed vs held (Native n) is some =
        let same : n ≡ m = tells program m (Native n) is in
        let own = natives m (is ∙ ap (λ (k : ℕ). Native k) same) in
        let static : is_static_method (method_at program m) ≡ true = ap is_static_method own.is_method ∙ own.is_static in
        never (sym receiver.no_static ∙ static)
    instance_comes m a receiver type typed vs held Nothing is some = absurd (some refl)

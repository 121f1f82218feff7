-- Each instruction goes on with values of the kinds that its effect asks.
use Rattle.std.proofs.Common.{◌≡◌, ◌⊎◌, ◌∙◌, ℕ, suc, zero, ◌+◌, ◌-◌, ◌<◌, Bool, true, false, not, List, [], ◌∷◌, map, length, get_or, Option, Some, None, ℤ, pos, w32, FitsSigned, negsuc, refl, sym, ap, subst, inl, inr, arith}
use Rattle.std.specs.Prelude.{◌==◌, nat_lt, slice_get, int_lt, unsigned_abs, if◌then◌else◌, Contains, slice_index_or, option_map}
use Rattle.std.specs.Int.{int_wrapping_add}
use Rattle.std.specs.Ordering.{int_eq}
use Rattle.std.proofs.lemmas.Bool.{cond-true, cond-false, eq-eqb, ne_eqb, eqb-true, cases_eq, not_from_true, lt-ltb, ltb-true, eqb-false, cases_Bool, and_parts, or_cases, or_right}
use Rattle.std.proofs.lemmas.Option.{slice_get-get_or, slice_get_within}
use Rattle.jo_text.specs.declared.descriptors.Base.{Base}
use Rattle.jo_text.specs.declared.descriptors.Base.TheVariants.{Byte, Char, Double, Float, Int as IntBase, Long, Short, Boolean, Class as OfName}
use Rattle.jo_text.specs.declared.descriptors.FieldDesc.{FieldDesc}
use Rattle.jo_prog.specs.declared.program.Program.{Program}
use Rattle.jo_prog.specs.declared.program.Class.{Class}
use Rattle.jo_prog.specs.declared.program.Field.{Field}
use Rattle.jo_prog.specs.MethodTypes.{field_desc_in}
use Rattle.jo_prog.specs.declared.program.TypeRef.{TypeRef}
use Rattle.jo_prog.specs.declared.program.TypeRef.TheVariants.{Class as OfClass, Array as OfArray}
use Rattle.jo_prog.specs.declared.sites.Cause.{Cause}
use Rattle.jo_prog.specs.declared.sites.Cause.TheVariants.{ZeroDivisor, NullBase, FailingCast, WrongElement, NegativeLength, BadIndex}
use Rattle.jo_prog.specs.Program.{class_at}
use Rattle.jo_prog.specs.Constants.{string_address}
use Rattle.jo_prog.specs.PreludeClasses.{object_number, string_class}
use Rattle.jo_prog.specs.Types.{class_named, is_subtype_of, base_fits, is_object, array_of, array_fits, type_fits}
use Rattle.jo_prog.specs.Typing.{Kind, Int, Null, Ref, Unset, Shape}
use Rattle.jo_prog.specs.Shapes.{is_class_base, has_references, class_kind, base_kind, reference_kind, is_interface, fits_each, Need, Anything, AnInt, AReference, OfEach, AnArray, ArrayOfReferences, ArrayOf, need_of, Origin, Always, OfStack, OfLocal, Reference, Element, Effect, kind_from, passes, kind_of_type, takes_type}
use Rattle.jo_prog.specs.InsnTyping.{throwable, pushes_int, stack_effect, makes, loads_int, loads_reference, stores_int, stores_reference, steps_int, moves}
use Rattle.jo_prog.specs.Values.{Value, int, null, ref, Info, object, array, field, element, static}
use Rattle.jo_prog.specs.Machine.{HeapObject, State, info_of, info_at}
use Rattle.machine.specs.Arithmetic.{int_op, int_test, kept_int, narrow, negated}
use Rattle.machine.specs.Instructions as code
use Rattle.machine.specs.Instructions.{Instruction}
use Rattle.machine.specs.Execution as does
use Rattle.machine.specs.Execution.{Outcome, Effect as Done, only, pushes_one, exec, cell_read, computed, jumps_if, compared, same_reference, null_test, reference_test, switched, created_array, cast_to, measured, kept, bool_int, text_pushed, content_pushed, is_inside, element_at, takes_value, stored_element, loaded_element}
use Rattle.machine.specs.Invocation.{type_of}
use Rattle.machine.specs.Heaps.{content, element_of, field_of, field_content}
use Rattle.machine.specs.Steps.{ways, fits, fits_ref, element_ref, read_from}
use Rattle.step_laws.specs.TypedStates.{HasKind, an_int, a_null, no_object, an_object, PlaceHasKind, unset, set, IsOnStack, Pairwise, no_more, one_more, has_dims, has_objects, IsTypedObject, of_class, of_array, IsTypedState, IsFieldContent, kind_of_desc}
use Rattle.jo_ids.specs.Path.{stays}
use Rattle.jo_prog.proofs.WalkLemmas.{none_there, head_or_behind, here, behind}
use Rattle.jo_prog.proofs.HierarchyLemmas.{subtype_every}
use Rattle.step_laws.specs.Premises.{HasSoundHierarchy}
use Rattle.step_laws.specs.Needs.{StandsWith, IsArrayWith, InfoMeets, IntMeets, ReferenceMeets, Meets, IsPlainNeed, HasDims, AreTypedObjects, has_letter, is_reference_type}
use Rattle.step_laws.specs.Effects
use Rattle.step_laws.specs.Effects.{HasEffect, AreGiven, HasType, HasField, IsStaticOf, nothing_done, null_pushed, int_pushed, int_loaded, reference_loaded, int_stored, reference_stored, int_stepped, element_loaded, reference_taken, element_stored, reference_put, one_dropped, two_dropped, one_doubled, one_doubled_under_one, one_doubled_under_two, two_doubled, two_doubled_under_one, two_doubled_under_two, two_swapped, two_computed, one_negated, one_narrowed, one_tested, two_compared, references_compared, null_tested, jumped, value_returned, nothing_returned, static_got, static_put, field_got, field_put, created, array_created, array_measured, thrown, cast, checked, AreIntLetters, TakesValue, in_field, in_element, in_static, ArePopped, IsTaken, JumpsTo, IsResult, Follows, by_push, by_write, by_put, by_jump, by_raise, by_throw, by_new, by_return, GoesOnWith}
use Rattle.step_laws.proofs.TypeLemmas.{never, takes_on, is_class, object_base, ArraysFit, arrays_fit, fit_arrays}
use Rattle.step_laws.proofs.IntLemmas.{op_fits, negated_fits, kept_int_fits, narrow_fits, added_fits}
use Rattle.step_laws.proofs.ValueLemmas.{below_object, place_meets, meets_kind}

module _ (program : Program) (sound : HasSoundHierarchy program) (s : State) (typed : AreTypedObjects program s.heap) where
  module _ (i : Instruction) (e : Effect) (shape : Shape) where
    goes : (done : Done ℕ) → Follows program s i e shape (record { effect = done; written = None }) → GoesOnWith program s i e shape (only done)
    goes done follows = record { gives = record { effect = done; written = None }; is_given = refl; follows = follows }

    raises : (cause : Cause) → GoesOnWith program s i e shape (only (does.raises cause))
    raises cause = goes (does.raises cause) (by_raise cause)

    -- nothing is pushed
    passes_on : e.writes ≡ None → e.pushes ≡ [] → GoesOnWith program s i e shape (only (does.pushes []))
    passes_on writes pushes = goes (does.pushes []) (by_push [] writes (subst (λ (origins : List Origin). Pairwise (IsOnStack program s.heap) (map (kind_from program shape) origins) []) (sym pushes) no_more))

    -- one value is pushed
    one : (origin : Origin) (v : Value ℕ) → e.writes ≡ None → e.pushes ≡ origin ∷ [] → IsOnStack program s.heap (kind_from program shape origin) v
        → GoesOnWith program s i e shape (pushes_one v)
    one origin v writes pushes holds =
        goes (does.pushes (v ∷ [])) (by_push (v ∷ []) writes
        (subst (λ (origins : List Origin). Pairwise (IsOnStack program s.heap) (map (kind_from program shape) origins) (v ∷ [])) (sym pushes)
        (one_more (kind_from program shape origin) v [] [] holds no_more)))

    one_int : (z : ℤ) → e.writes ≡ None → e.pushes ≡ Always Int ∷ [] → FitsSigned w32 z → GoesOnWith program s i e shape (pushes_one (int z))
    one_int z writes pushes f = one (Always Int) (int z) writes pushes (set Int (int z) (an_int z f))

    jumps : (target : ℕ) (b : Bool) → e.writes ≡ None → e.pushes ≡ [] → JumpsTo i target → GoesOnWith program s i e shape (jumps_if target b)
    jumps target false writes pushes to = passes_on writes pushes
    jumps target true writes pushes to = goes (does.jumps target) (by_jump target writes pushes to)

  bool_fits : (b : Bool) → FitsSigned w32 (bool_int b)
  bool_fits false = record { sfits = omega arith }
  bool_fits true = record { sfits = omega arith }

  -- ---- values by their needs

  meets : (need : Need) (kind : Kind) (v : Value ℕ) → IsPlainNeed need → (passes program need kind ≡ true) → IsOnStack program s.heap kind v → Meets program s.heap need v
  meets need kind v plain p holds = place_meets program sound s.heap typed need kind v plain p holds

  -- one int
  by_int : (v : Value ℕ) → Meets program s.heap AnInt v → (P : Value ℕ → Type 0) → ((z : ℤ) → FitsSigned w32 z → P (int z)) → P v
  by_int (int z) m P f = f z m
  by_int null m P f = never m
  by_int (ref a) m P f = absurd m.fits

  -- null or what stands at an address
  by_reference : (v : Value ℕ) → Meets program s.heap AReference v → (P : Value ℕ → Type 0) → P null → ((a : ℕ) → StandsWith s.heap a (InfoMeets program AReference) → P (ref a)) → P v
  by_reference (int z) m P f g = absurd m
  by_reference null m P f g = f
  by_reference (ref a) m P f g = g a m

  by_type : (types : List TypeRef) (v : Value ℕ) → Meets program s.heap (OfEach types) v → (P : Value ℕ → Type 0) → P null → ((a : ℕ) → StandsWith s.heap a (InfoMeets program (OfEach types)) → P (ref a)) → P v
  by_type types (int z) m P f g = absurd m
  by_type types null m P f g = f
  by_type types (ref a) m P f g = g a m

  by_array : (v : Value ℕ) → Meets program s.heap AnArray v → (P : Value ℕ → Type 0) → P null → ((a : ℕ) → StandsWith s.heap a (InfoMeets program AnArray) → P (ref a)) → P v
  by_array (int z) m P f g = absurd m
  by_array null m P f g = f
  by_array (ref a) m P f g = g a m

  -- what stands at the address
  at_info : (a : ℕ) (o : HeapObject) → slice_get s.heap a ≡ Some o → (P : Info → Type 0) → P o.info → P (info_at s a)
  at_info a o is P h = subst P (sym (ap info_of is)) h

  -- ---- values on top of the stack

  pop_none : (P : List Kind → List (Value ℕ) → Type 0) → ((kinds : List Kind) → P kinds []) → (kinds : List Kind) (vs : List (Value ℕ)) → ArePopped program s.heap [] kinds vs → P kinds vs
  pop_none P f kinds [] given = f kinds
  pop_none P f kinds (v ∷ vs) given = absurd given

  pop_one : (a : Need) (P : List Kind → List (Value ℕ) → Type 0)
      → ((x : Kind) (kinds : List Kind) (v : Value ℕ) → passes program a x ≡ true → IsOnStack program s.heap x v → P (x ∷ kinds) (v ∷ []))
      → (kinds : List Kind) (vs : List (Value ℕ)) → ArePopped program s.heap (a ∷ []) kinds vs → P kinds vs
  pop_one a P f [] [] given = absurd given
  pop_one a P f [] (v ∷ vs) given = absurd given
  pop_one a P f (x ∷ kinds) [] given = absurd given
  pop_one a P f (x ∷ kinds) (v ∷ []) given = f x kinds v given.0 given.1
  pop_one a P f (x ∷ kinds) (v ∷ w ∷ vs) given = absurd given.2

  pop_two : (a b : Need) (P : List Kind → List (Value ℕ) → Type 0)
      → ((x y : Kind) (kinds : List Kind) (v w : Value ℕ) → passes program a x ≡ true → IsOnStack program s.heap x v → passes program b y ≡ true → IsOnStack program s.heap y w → P (x ∷ y ∷ kinds) (v ∷ w ∷ []))
      → (kinds : List Kind) (vs : List (Value ℕ)) → ArePopped program s.heap (a ∷ b ∷ []) kinds vs → P kinds vs
  pop_two a b P f [] [] given = absurd given
  pop_two a b P f [] (v ∷ vs) given = absurd given
  pop_two a b P f (x ∷ kinds) [] given = absurd given
  pop_two a b P f (x ∷ kinds) (v ∷ vs) given = pop_one b (λ (ks : List Kind) (ws : List (Value ℕ)). P (x ∷ ks) (v ∷ ws)) (λ y ks w q k. f x y ks v w given.0 given.1 q k) kinds vs given.2

  pop_three : (a b c : Need) (P : List Kind → List (Value ℕ) → Type 0)
      → ((x y z : Kind) (kinds : List Kind) (v w u : Value ℕ) → passes program a x ≡ true → IsOnStack program s.heap x v → passes program b y ≡ true → IsOnStack program s.heap y w
      → passes program c z ≡ true → IsOnStack program s.heap z u → P (x ∷ y ∷ z ∷ kinds) (v ∷ w ∷ u ∷ []))
      → (kinds : List Kind) (vs : List (Value ℕ)) → ArePopped program s.heap (a ∷ b ∷ c ∷ []) kinds vs → P kinds vs
  pop_three a b c P f [] [] given = absurd given
  pop_three a b c P f [] (v ∷ vs) given = absurd given
  pop_three a b c P f (x ∷ kinds) [] given = absurd given
  pop_three a b c P f (x ∷ kinds) (v ∷ vs) given =
      pop_two b c (λ (ks : List Kind) (ws : List (Value ℕ)). P (x ∷ ks) (v ∷ ws)) (λ y z ks w u q k r l. f x y z ks v w u given.0 given.1 q k r l) kinds vs given.2

  by_array_of : (need : Need) (P : FieldDesc → Type 0) → ((a : ℕ) → ReferenceMeets program s.heap need a → StandsWith s.heap a (IsArrayWith P)) → ((z : ℤ) → IntMeets need z → ⊥)
      → (v : Value ℕ) → Meets program s.heap need v → (Q : Value ℕ → Type 0) → Q null → ((a : ℕ) → StandsWith s.heap a (IsArrayWith P) → Q (ref a)) → Q v
  by_array_of need P there ints (int z) m Q f g = absurd (ints z m)
  by_array_of need P there ints null m Q f g = f
  by_array_of need P there ints (ref a) m Q f g = g a (there a m)

  -- ---- what an instruction does

  abbrev Does : Instruction → Effect → List Kind → List Kind → List (Value ℕ) → Type 0
  Does i e ls kinds vs =
      GoesOnWith program s i e (record { locals = ls; stack = kinds }) (exec (ways program s) (fits program) i (read_from s (cell_read (info_at s) i vs)) vs)

  abbrev at : List Kind → List Kind → Shape
  at ls kinds = record { locals = ls; stack = kinds }

  -- ---- ints

  pub computes_go : (op : ℕ) (ls kinds : List Kind) (vs : List (Value ℕ)) → ArePopped program s.heap (AnInt ∷ AnInt ∷ []) kinds vs → Does (code.computes op) (pushes_int (AnInt ∷ AnInt ∷ [])) ls kinds vs
  computes_go op ls = pop_two AnInt AnInt (Does (code.computes op) (pushes_int (AnInt ∷ AnInt ∷ [])) ls) (λ x y kinds v w p h q k.
      by_int v (meets AnInt x v tt p h) (λ (a : Value ℕ). Does (code.computes op) (pushes_int (AnInt ∷ AnInt ∷ [])) ls (x ∷ y ∷ kinds) (a ∷ w ∷ [])) (λ b f.
      by_int w (meets AnInt y w tt q k) (λ (a : Value ℕ). Does (code.computes op) (pushes_int (AnInt ∷ AnInt ∷ [])) ls (x ∷ y ∷ kinds) (int b ∷ a ∷ [])) (λ a g.
      by_result a b (x ∷ y ∷ kinds) f g (int_op op a b) refl)))
    where
      by_result : (a b : ℤ) (kinds : List Kind) → FitsSigned w32 b → FitsSigned w32 a → (result : Option ℤ) → int_op op a b ≡ result
          → GoesOnWith program s (code.computes op) (pushes_int (AnInt ∷ AnInt ∷ [])) (at ls kinds) (computed result)
      by_result a b kinds f g None is = raises (code.computes op) (pushes_int (AnInt ∷ AnInt ∷ [])) (at ls kinds) ZeroDivisor
      by_result a b kinds f g (Some z) is = one_int (code.computes op) (pushes_int (AnInt ∷ AnInt ∷ [])) (at ls kinds) z refl refl (op_fits op a b z g f is)

  -- one int gives one
  pub one_go : (i : Instruction) (g : ℤ → ℤ) → ((z : ℤ) → FitsSigned w32 z → FitsSigned w32 (g z))
      → ((z : ℤ) → exec (ways program s) (fits program) i (read_from s (cell_read (info_at s) i (int z ∷ []))) (int z ∷ []) ≡ pushes_one (int (g z)))
      → (ls kinds : List Kind) (vs : List (Value ℕ)) → ArePopped program s.heap (AnInt ∷ []) kinds vs → Does i (pushes_int (AnInt ∷ [])) ls kinds vs
  one_go i g keeps is ls = pop_one AnInt (Does i (pushes_int (AnInt ∷ [])) ls) (λ x kinds v p h.
      by_int v (meets AnInt x v tt p h) (λ (a : Value ℕ). Does i (pushes_int (AnInt ∷ [])) ls (x ∷ kinds) (a ∷ [])) (λ z f.
      subst (λ (o : Option (Outcome ℕ)). GoesOnWith program s i (pushes_int (AnInt ∷ [])) (at ls (x ∷ kinds)) o) (sym (is z))
      (one_int i (pushes_int (AnInt ∷ [])) (at ls (x ∷ kinds)) (g z) refl refl (keeps z f))))

  -- ---- jumps

  pub tests_go : (op target : ℕ) (ls kinds : List Kind) (vs : List (Value ℕ)) → ArePopped program s.heap (AnInt ∷ []) kinds vs → Does (code.tests op target) (stack_effect (AnInt ∷ []) []) ls kinds vs
  tests_go op target ls = pop_one AnInt (Does (code.tests op target) (stack_effect (AnInt ∷ []) []) ls) (λ x kinds v p h.
      by_int v (meets AnInt x v tt p h) (λ (a : Value ℕ). Does (code.tests op target) (stack_effect (AnInt ∷ []) []) ls (x ∷ kinds) (a ∷ [])) (λ z f.
      jumps (code.tests op target) (stack_effect (AnInt ∷ []) []) (at ls (x ∷ kinds)) target (int_test op z (pos 0)) refl refl refl))

  pub compares_go : (op target : ℕ) (ls kinds : List Kind) (vs : List (Value ℕ)) → ArePopped program s.heap (AnInt ∷ AnInt ∷ []) kinds vs → Does (code.compares op target) (stack_effect (AnInt ∷ AnInt ∷ []) []) ls kinds vs
  compares_go op target ls = pop_two AnInt AnInt (Does (code.compares op target) (stack_effect (AnInt ∷ AnInt ∷ []) []) ls) (λ x y kinds v w p h q k.
      by_int v (meets AnInt x v tt p h) (λ (a : Value ℕ). Does (code.compares op target) (stack_effect (AnInt ∷ AnInt ∷ []) []) ls (x ∷ y ∷ kinds) (a ∷ w ∷ [])) (λ b f.
      by_int w (meets AnInt y w tt q k) (λ (a : Value ℕ). Does (code.compares op target) (stack_effect (AnInt ∷ AnInt ∷ []) []) ls (x ∷ y ∷ kinds) (int b ∷ a ∷ [])) (λ a g.
      jumps (code.compares op target) (stack_effect (AnInt ∷ AnInt ∷ []) []) (at ls (x ∷ y ∷ kinds)) target (int_test op a b) refl refl refl)))

  pub references_go : (op target : ℕ) (ls kinds : List Kind) (vs : List (Value ℕ)) → ArePopped program s.heap (AReference ∷ AReference ∷ []) kinds vs → Does (code.compares_references op target) (stack_effect (AReference ∷ AReference ∷ []) []) ls kinds vs
  references_go op target ls = pop_two AReference AReference (Does (code.compares_references op target) (stack_effect (AReference ∷ AReference ∷ []) []) ls) (λ x y kinds v w p h q k.
      by_values (x ∷ y ∷ kinds) v w (meets AReference x v tt p h) (meets AReference y w tt q k))
    where
      to : (kinds : List Kind) (b : Bool) → GoesOnWith program s (code.compares_references op target) (stack_effect (AReference ∷ AReference ∷ []) []) (at ls kinds) (jumps_if target b)
      to kinds b = jumps (code.compares_references op target) (stack_effect (AReference ∷ AReference ∷ []) []) (at ls kinds) target b refl refl refl

      by_values : (kinds : List Kind) (v w : Value ℕ) → Meets program s.heap AReference v → Meets program s.heap AReference w
          → Does (code.compares_references op target) (stack_effect (AReference ∷ AReference ∷ []) []) ls kinds (v ∷ w ∷ [])
      by_values kinds (int z) w m n = absurd m
      by_values kinds null (int z) m n = absurd n
      by_values kinds (ref a) (int z) m n = absurd n
      by_values kinds null null m n = to kinds (reference_test op true)
      by_values kinds null (ref b) m n = to kinds (reference_test op false)
      by_values kinds (ref a) null m n = to kinds (reference_test op false)
      by_values kinds (ref a) (ref b) m n = to kinds (reference_test op (b == a))

  pub null_go : (op target : ℕ) (ls kinds : List Kind) (vs : List (Value ℕ)) → ArePopped program s.heap (AReference ∷ []) kinds vs → Does (code.tests_null op target) (stack_effect (AReference ∷ []) []) ls kinds vs
  null_go op target ls = pop_one AReference (Does (code.tests_null op target) (stack_effect (AReference ∷ []) []) ls) (λ x kinds v p h.
      by_reference v (meets AReference x v tt p h) (λ (a : Value ℕ). Does (code.tests_null op target) (stack_effect (AReference ∷ []) []) ls (x ∷ kinds) (a ∷ []))
      (jumps (code.tests_null op target) (stack_effect (AReference ∷ []) []) (at ls (x ∷ kinds)) target (null_test op true) refl refl refl)
      (λ a there. jumps (code.tests_null op target) (stack_effect (AReference ∷ []) []) (at ls (x ∷ kinds)) target (null_test op false) refl refl refl))

  one_case : (z : ℤ) (cases : List (ℤ × ℕ)) (other : ℕ) → Contains (map (λ row. row.1) cases) (switched z cases other) ⊎ (switched z cases other ≡ other)
  one_case z [] other = inr refl
  one_case z (first ∷ cases) other = by_key (int_eq z first.0) (one_case z cases other)
    where
      by_key : (b : Bool) → Contains (map (λ row. row.1) cases) (switched z cases other) ⊎ (switched z cases other ≡ other)
          → Contains (map (λ row. row.1) (first ∷ cases)) (if b then first.1 else switched z cases other) ⊎ ((if b then first.1 else switched z cases other) ≡ other)
      by_key true later = inl (here first.1 (map (λ row. row.1) cases))
      by_key false (inl there) = inl (behind first.1 (map (λ row. row.1) cases) (switched z cases other) there)
      by_key false (inr same) = inr same

  pub switches_go : (cases : List (ℤ × ℕ)) (other : ℕ) (ls kinds : List Kind) (vs : List (Value ℕ)) → ArePopped program s.heap (AnInt ∷ []) kinds vs → Does (code.switches cases other) (stack_effect (AnInt ∷ []) []) ls kinds vs
  switches_go cases other ls = pop_one AnInt (Does (code.switches cases other) (stack_effect (AnInt ∷ []) []) ls) (λ x kinds v p h.
      by_int v (meets AnInt x v tt p h) (λ (a : Value ℕ). Does (code.switches cases other) (stack_effect (AnInt ∷ []) []) ls (x ∷ kinds) (a ∷ [])) (λ z f.
      goes (code.switches cases other) (stack_effect (AnInt ∷ []) []) (at ls (x ∷ kinds)) (does.jumps (switched z cases other)) (by_jump (switched z cases other) refl refl (one_case z cases other))))

  -- ---- locals

  reference_same : (kind : Kind) → passes program AReference kind ≡ true → reference_kind kind ≡ kind
  reference_same Int p = never p
  reference_same Null p = refl
  reference_same (Ref type) p = refl
  reference_same Unset p = never p

  pub loads_int_go : (k : ℕ) (ls kinds : List Kind) (vs : List (Value ℕ)) → IsTaken program s.heap AnInt (slice_index_or ls k Unset) vs → Does (code.loads k) (loads_int k) ls kinds vs
  loads_int_go k ls kinds [] given = absurd given
  loads_int_go k ls kinds (v ∷ w ∷ vs) given = absurd given
  loads_int_go k ls kinds (v ∷ []) given =
      by_int v (meets AnInt (slice_index_or ls k Unset) v tt given.0 given.1) (λ (a : Value ℕ). Does (code.loads k) (loads_int k) ls kinds (a ∷ [])) (λ z f.
      one_int (code.loads k) (loads_int k) (at ls kinds) z refl refl f)

  pub loads_reference_go : (k : ℕ) (ls kinds : List Kind) (vs : List (Value ℕ)) → IsTaken program s.heap AReference (slice_index_or ls k Unset) vs → Does (code.loads k) (loads_reference k) ls kinds vs
  loads_reference_go k ls kinds [] given = absurd given
  loads_reference_go k ls kinds (v ∷ w ∷ vs) given = absurd given
  loads_reference_go k ls kinds (v ∷ []) given =
      one (code.loads k) (loads_reference k) (at ls kinds) (OfLocal k Reference) v refl refl
      (subst (λ (kind : Kind). IsOnStack program s.heap kind v) (sym (reference_same (slice_index_or ls k Unset) given.0)) given.1)

  pub steps_go : (k : ℕ) (by : ℤ) (ls kinds : List Kind) (vs : List (Value ℕ)) → IsTaken program s.heap AnInt (slice_index_or ls k Unset) vs → Does (code.increments k by) (steps_int k) ls kinds vs
  steps_go k by ls kinds [] given = absurd given
  steps_go k by ls kinds (v ∷ w ∷ vs) given = absurd given
  steps_go k by ls kinds (v ∷ []) given =
      by_int v (meets AnInt (slice_index_or ls k Unset) v tt given.0 given.1) (λ (a : Value ℕ). Does (code.increments k by) (steps_int k) ls kinds (a ∷ [])) (λ z f.
      goes (code.increments k by) (steps_int k) (at ls kinds) (does.puts k (int (int_wrapping_add w32 z by)))
      (by_put k (Always Int) (int (int_wrapping_add w32 z by)) refl refl (set Int (int (int_wrapping_add w32 z by)) (an_int (int_wrapping_add w32 z by) (added_fits z by)))))

  pub stores_int_go : (k : ℕ) (ls kinds : List Kind) (vs : List (Value ℕ)) → ArePopped program s.heap (AnInt ∷ []) kinds vs → Does (code.stores k) (stores_int k) ls kinds vs
  stores_int_go k ls = pop_one AnInt (Does (code.stores k) (stores_int k) ls) (λ x kinds v p h.
      by_int v (meets AnInt x v tt p h) (λ (a : Value ℕ). Does (code.stores k) (stores_int k) ls (x ∷ kinds) (a ∷ [])) (λ z f.
      goes (code.stores k) (stores_int k) (at ls (x ∷ kinds)) (does.puts k (int z)) (by_put k (Always Int) (int z) refl refl (set Int (int z) (an_int z f)))))

  pub stores_reference_go : (k : ℕ) (ls kinds : List Kind) (vs : List (Value ℕ)) → ArePopped program s.heap (AReference ∷ []) kinds vs → Does (code.stores k) (stores_reference k) ls kinds vs
  stores_reference_go k ls = pop_one AReference (Does (code.stores k) (stores_reference k) ls) (λ x kinds v p h.
      goes (code.stores k) (stores_reference k) (at ls (x ∷ kinds)) (does.puts k v)
      (by_put k (OfStack 0 Reference) v refl refl (subst (λ (kind : Kind). IsOnStack program s.heap kind v) (sym (reference_same x p)) h)))

  -- ---- types

  pub cast_go : (type : TypeRef) → has_dims type ≡ true → (ls kinds : List Kind) (vs : List (Value ℕ)) → ArePopped program s.heap (AReference ∷ []) kinds vs → Does (code.casts type) (makes (AReference ∷ []) type) ls kinds vs
  cast_go type dims ls = pop_one AReference (Does (code.casts type) (makes (AReference ∷ []) type) ls) (λ x kinds v p h.
      by_reference v (meets AReference x v tt p h) (λ (a : Value ℕ). Does (code.casts type) (makes (AReference ∷ []) type) ls (x ∷ kinds) (a ∷ []))
      (one (code.casts type) (makes (AReference ∷ []) type) (at ls (x ∷ kinds)) (Always (Ref type)) null refl refl (set (Ref type) null (no_object type)))
      (λ a there. at_info a there.found there.is_there (λ (info : Info). GoesOnWith program s (code.casts type) (makes (AReference ∷ []) type) (at ls (x ∷ kinds)) (cast_to a (type_fits program (type_of info) type)))
      (by_test (x ∷ kinds) a there.found there.is_there (type_fits program (type_of there.found.info) type) refl)))
    where
      by_test : (kinds : List Kind) (a : ℕ) (o : HeapObject) → slice_get s.heap a ≡ Some o → (b : Bool) → type_fits program (type_of o.info) type ≡ b
          → GoesOnWith program s (code.casts type) (makes (AReference ∷ []) type) (at ls kinds) (cast_to a b)
      by_test kinds a o is true fit = one (code.casts type) (makes (AReference ∷ []) type) (at ls kinds) (Always (Ref type)) (ref a) refl refl
          (set (Ref type) (ref a) (an_object type a o is (or_right (is_interface program type) (type_fits program (type_of o.info) type) fit) dims))
      by_test kinds a o is false fit = raises (code.casts type) (makes (AReference ∷ []) type) (at ls kinds) FailingCast

  pub check_go : (type : TypeRef) (ls kinds : List Kind) (vs : List (Value ℕ)) → ArePopped program s.heap (AReference ∷ []) kinds vs → Does (code.checks type) (pushes_int (AReference ∷ [])) ls kinds vs
  check_go type ls = pop_one AReference (Does (code.checks type) (pushes_int (AReference ∷ [])) ls) (λ x kinds v p h.
      by_reference v (meets AReference x v tt p h) (λ (a : Value ℕ). Does (code.checks type) (pushes_int (AReference ∷ [])) ls (x ∷ kinds) (a ∷ []))
      (one_int (code.checks type) (pushes_int (AReference ∷ [])) (at ls (x ∷ kinds)) (pos 0) refl refl (bool_fits false))
      (λ a there. one_int (code.checks type) (pushes_int (AReference ∷ [])) (at ls (x ∷ kinds)) (bool_int (type_fits program (type_of (info_at s a)) type)) refl refl (bool_fits (type_fits program (type_of (info_at s a)) type))))

  pub throw_go : (ls kinds : List Kind) (vs : List (Value ℕ)) → ArePopped program s.heap (OfEach (throwable ∷ []) ∷ []) kinds vs → Does code.throws (stack_effect (OfEach (throwable ∷ []) ∷ []) []) ls kinds vs
  throw_go ls = pop_one (OfEach (throwable ∷ [])) (Does code.throws (stack_effect (OfEach (throwable ∷ []) ∷ []) []) ls) (λ x kinds v p h.
      by_type (throwable ∷ []) v (meets (OfEach (throwable ∷ [])) x v tt p h) (λ (a : Value ℕ). Does code.throws (stack_effect (OfEach (throwable ∷ []) ∷ []) []) ls (x ∷ kinds) (a ∷ []))
      (raises code.throws (stack_effect (OfEach (throwable ∷ []) ∷ []) []) (at ls (x ∷ kinds)) NullBase)
      (λ a there. goes code.throws (stack_effect (OfEach (throwable ∷ []) ∷ []) []) (at ls (x ∷ kinds)) (does.throws_at a)
      (by_throw a (record { found = there.found; is_there = there.is_there; fits = of_class_type (type_of there.found.info) there.fits }))))
    where
      of_class_type : (given : TypeRef) → fits_each program given (throwable ∷ []) ≡ true → type_fits program given throwable ≡ true
      of_class_type given h = elim (or_cases (is_interface program throwable) (type_fits program given throwable) (and_parts (takes_type program given throwable) true h).0) [
        | inl is ↦ never (sym sound.throwable_class ∙ is)
        | inr fit ↦ fit
      ]

  -- ---- kinds of places

  on_stack : (kind : Kind) (v : Value ℕ) → IsOnStack program s.heap kind v → HasKind program s.heap kind v ⊎ (kind ≡ Unset)
  on_stack kind v h = by_content kind (Some v) refl h
    where
      by_content : (kind : Kind) (o : Option (Value ℕ)) → o ≡ Some v → PlaceHasKind program s.heap kind o → HasKind program s.heap kind v ⊎ (kind ≡ Unset)
      by_content kind o e (unset _) = inr refl
      by_content kind o e (set _ w holds) = inl (subst (λ (x : Value ℕ). HasKind program s.heap kind x) (some_same w v e) holds)
        where
          some_same : (x y : Value ℕ) → Some x ≡ Some y → x ≡ y
          some_same x y f = cc

  -- a reference of a type is one of a type that takes it
  widen : (t u : TypeRef) (v : Value ℕ) → has_dims u ≡ true → takes_type program t u ≡ true → HasKind program s.heap (Ref t) v → HasKind program s.heap (Ref u) v
  widen t u v dims takes h = by_kind (Ref t) v refl h
    where
      type_in : Kind → TypeRef
      type_in Int = t
      type_in Null = t
      type_in (Ref type) = type
      type_in Unset = t

      by_kind : (kind : Kind) (v : Value ℕ) → kind ≡ Ref t → HasKind program s.heap kind v → HasKind program s.heap (Ref u) v
      by_kind kind v e (an_int z f) = absurd (cc)
      by_kind kind v e a_null = absurd (cc)
      by_kind kind v e (no_object type) = no_object u
      by_kind kind v e (an_object type a o is given own) =
          let same : type ≡ t = type_same type e in
          an_object u a o is (takes_on program sound (type_of o.info) t u (below_object program sound s.heap typed a o is) (subst (λ (r : TypeRef). takes_type program (type_of o.info) r ≡ true) same given) takes) dims
        where
          type_same : (type : TypeRef) → Ref type ≡ Ref t → type ≡ t
          type_same type f = ap type_in f

  widen_place : (t u : TypeRef) (v : Value ℕ) → has_dims u ≡ true → takes_type program t u ≡ true → IsOnStack program s.heap (Ref t) v → IsOnStack program s.heap (Ref u) v
  widen_place t u v dims takes h = elim (on_stack (Ref t) v h) [
    | inl holds ↦ set (Ref u) v (widen t u v dims takes holds)
    | inr e ↦ absurd (cc)
  ]

  kept_holds : (kind : Kind) (type : FieldDesc) (v : Value ℕ) → HasKind program s.heap kind v → HasKind program s.heap kind (kept type v)
  kept_holds kind type v (an_int z f) = an_int (kept_int type z) (kept_int_fits type z f)
  kept_holds kind type v a_null = a_null
  kept_holds kind type v (no_object t) = no_object t
  kept_holds kind type v (an_object t a o is takes dims) = an_object t a o is takes dims

  class_dims : (o : Option ℕ) → HasDims (class_kind o)
  class_dims None = tt
  class_dims (Some c) = refl

  base_dims : (base : Base) → HasDims (base_kind program base)
  base_dims Byte = tt
  base_dims Char = tt
  base_dims Double = tt
  base_dims Float = tt
  base_dims IntBase = tt
  base_dims Long = tt
  base_dims Short = tt
  base_dims Boolean = tt
  base_dims (OfName name) = class_dims (class_named program name)

  pub kind_dims : (type : FieldDesc) → HasDims (kind_of_type program type)
  kind_dims type = by_dims (type.dims == 0) refl
    where
      by_dims : (b : Bool) → (type.dims == 0) ≡ b → HasDims (if b then base_kind program type.base else Ref (OfArray type))
      by_dims true e = base_dims type.base
      by_dims false e = lt-ltb 0 type.dims (let ne = eqb-false type.dims 0 e in by_number type.dims ne)
        where
          by_number : (n : ℕ) → (n ≡ 0 → ⊥) → 0 < n
          by_number zero ne = absurd (ne refl)
          by_number (suc n) ne = omega arith

  -- what is passed on as a value of a type is kept as one
  pub need_plain : (kind : Kind) → IsPlainNeed (need_of kind)
  need_plain Int = tt
  need_plain Null = tt
  need_plain (Ref type) = tt
  need_plain Unset = tt

  passed_on : (type : FieldDesc) (x : Kind) (v : Value ℕ) → passes program (need_of (kind_of_type program type)) x ≡ true → IsOnStack program s.heap x v
      → IsOnStack program s.heap (kind_of_type program type) (kept type v)
  passed_on type x v p h =
      set (kind_of_type program type) (kept type v) (kept_holds (kind_of_type program type) type v
      (meets_kind program sound s.heap typed (kind_of_type program type) v (kind_dims type)
      (place_meets program sound s.heap typed (need_of (kind_of_type program type)) x v (need_plain (kind_of_type program type)) p h)))

  -- ---- elements

  abbrev type_within : FieldDesc → Info → FieldDesc
  type_within other (object c) = other
  type_within other (array type count) = type

  abbrev count_within : Info → ℕ
  count_within (object c) = 0
  count_within (array type count) = count

  no_class : (c count : ℕ) (type : FieldDesc) → object c ≡ array type count → ⊥
  no_class c count type e = absurd (cc)

  element_there : (a : ℕ) (o : HeapObject) → slice_get s.heap a ≡ Some o → (type : FieldDesc) (count n : ℕ) → o.info ≡ array type count → n < count
      → (v : Value ℕ) × (element_of (slice_get s.heap a) n ≡ Some v) × IsOnStack program s.heap (kind_of_type program type) v
  element_there a o is type count n info below = by_object o is info (typed a o is)
    where
      by_object : (o : HeapObject) → slice_get s.heap a ≡ Some o → o.info ≡ array type count → IsTypedObject program s.heap o
          → (v : Value ℕ) × (element_of (slice_get s.heap a) n ≡ Some v) × IsOnStack program s.heap (kind_of_type program type) v
      by_object o is info (of_class _ c class isc found made fields contents) = absurd (no_class c count type (sym isc ∙ info))
      by_object o is info (of_array _ own size iso long fitting elements) =
          let same : array own size ≡ array type count = sym iso ∙ info in
          let types : own ≡ type = ap (type_within type) same in
          let counts : size ≡ count = ap count_within same in
          let inside : n < length o.elements = omega (arith, below, long, counts) in
          let found : slice_get o.elements n ≡ Some (get_or o.elements n null) = slice_get-get_or o.elements n null inside in (
            get_or o.elements n null,
            ap (λ (x : Option HeapObject). element_of x n) is ∙ found,
            subst (λ (t : FieldDesc). IsOnStack program s.heap (kind_of_type program t) (get_or o.elements n null)) types (elements n (get_or o.elements n null) found),
          )

  inside_below : (z : ℤ) (count : ℕ) → is_inside z count ≡ true → unsigned_abs z < count
  inside_below z count e = ltb-true (unsigned_abs z) count (and_parts (not (int_lt z (pos 0))) (nat_lt (unsigned_abs z) count) e).1

  module _ (i : Instruction) (e : Effect) (shape : Shape) (writes : e.writes ≡ None) (P : FieldDesc → Type 0) (a : ℕ) (o : HeapObject) (is : slice_get s.heap a ≡ Some o) where
    loaded_go : (origin : Origin) → e.pushes ≡ origin ∷ [] → IsArrayWith P o.info
        → ((type : FieldDesc) → P type → (v : Value ℕ) → IsOnStack program s.heap (kind_of_type program type) v → IsOnStack program s.heap (kind_from program shape origin) v)
        → (z : ℤ) → GoesOnWith program s i e shape (loaded_element (read_from s (element_at a z (info_at s a))) z (info_at s a))
    loaded_go origin pushes holds good z =
        at_info a o is (λ (info : Info). GoesOnWith program s i e shape (loaded_element (read_from s (element_at a z info)) z info)) (by_info o.info refl holds)
      where
        by_info : (info : Info) → o.info ≡ info → IsArrayWith P info → GoesOnWith program s i e shape (loaded_element (read_from s (element_at a z info)) z info)
        by_info (object c) same h = absurd h
        by_info (array type count) same h = by_inside (is_inside z count) refl
          where
            by_inside : (b : Bool) → is_inside z count ≡ b
                → GoesOnWith program s i e shape (if b then content_pushed (read_from s (if b then Some (element a (unsigned_abs z)) else None)) else only (does.raises BadIndex))
            by_inside true inside =
                let found = element_there a o is type count (unsigned_abs z) same (inside_below z count inside) in
                subst (λ (c : Option (Value ℕ)). GoesOnWith program s i e shape (content_pushed c)) (sym found.1)
                (one i e shape origin found.0 writes pushes (good type h found.0 found.2))
            by_inside false inside = raises i e shape BadIndex

    stored_go : e.pushes ≡ [] → IsArrayWith P o.info → (v : Value ℕ)
        → ((type : FieldDesc) → P type → takes_value (fits program) (info_at s) type v ≡ true → IsOnStack program s.heap (kind_of_type program type) (kept type v))
        → (z : ℤ) → GoesOnWith program s i e shape (stored_element (fits program) (info_at s) v z a (info_at s a))
    stored_go pushes holds v good z =
        at_info a o is (λ (info : Info). GoesOnWith program s i e shape (stored_element (fits program) (info_at s) v z a info)) (by_info o.info refl holds)
      where
        by_info : (info : Info) → o.info ≡ info → IsArrayWith P info → GoesOnWith program s i e shape (stored_element (fits program) (info_at s) v z a info)
        by_info (object c) same h = absurd h
        by_info (array type count) same h = by_tests (is_inside z count) (takes_value (fits program) (info_at s) type v) refl
          where
            by_tests : (inside fitting : Bool) → takes_value (fits program) (info_at s) type v ≡ fitting
                → GoesOnWith program s i e shape (if not inside then only (does.raises BadIndex) else if not fitting then only (does.raises WrongElement) else does.writes (element a (unsigned_abs z)) (kept type v))
            by_tests false fitting fit = raises i e shape BadIndex
            by_tests true false fit = raises i e shape WrongElement
            by_tests true true fit = record {
              gives = record { effect = does.pushes []; written = Some (element a (unsigned_abs z), kept type v) };
              is_given = refl;
              follows = by_write (element a (unsigned_abs z)) (kept type v) writes pushes (in_element a (unsigned_abs z) o type count (kept type v) is same (good type h fit));
            }

  letters_array : (letters : List ℕ) (a : ℕ) → ReferenceMeets program s.heap (ArrayOf letters) a → StandsWith s.heap a (IsArrayWith (λ type. has_letter letters type ≡ true))
  letters_array letters a m = record { found = m.found; is_there = m.is_there; fits = m.fits }

  pub int_loads_go : (letters : List ℕ) → AreIntLetters program letters → (ls kinds : List Kind) (vs : List (Value ℕ)) → ArePopped program s.heap (AnInt ∷ ArrayOf letters ∷ []) kinds vs
      → Does code.loads_element (pushes_int (AnInt ∷ ArrayOf letters ∷ [])) ls kinds vs
  int_loads_go letters are ls = pop_two AnInt (ArrayOf letters) (Does code.loads_element (pushes_int (AnInt ∷ ArrayOf letters ∷ [])) ls) (λ x y kinds v w p h q k.
      by_int v (meets AnInt x v tt p h) (λ (a : Value ℕ). Does code.loads_element (pushes_int (AnInt ∷ ArrayOf letters ∷ [])) ls (x ∷ y ∷ kinds) (a ∷ w ∷ [])) (λ z f.
      by_array_of (ArrayOf letters) (λ type. has_letter letters type ≡ true) (letters_array letters) (λ n m. m) w (meets (ArrayOf letters) y w are.plain q k)
      (λ (a : Value ℕ). Does code.loads_element (pushes_int (AnInt ∷ ArrayOf letters ∷ [])) ls (x ∷ y ∷ kinds) (int z ∷ a ∷ []))
      (raises code.loads_element (pushes_int (AnInt ∷ ArrayOf letters ∷ [])) (at ls (x ∷ y ∷ kinds)) NullBase)
      (λ a there. loaded_go code.loads_element (pushes_int (AnInt ∷ ArrayOf letters ∷ [])) (at ls (x ∷ y ∷ kinds)) refl (λ type. has_letter letters type ≡ true) a there.found there.is_there
      (Always Int) refl there.fits (λ type has u holds. subst (λ (kind : Kind). IsOnStack program s.heap kind u) (are.ints type has) holds) z)))

  pub int_stores_go : (letters : List ℕ) → AreIntLetters program letters → (ls kinds : List Kind) (vs : List (Value ℕ)) → ArePopped program s.heap (AnInt ∷ AnInt ∷ ArrayOf letters ∷ []) kinds vs
      → Does code.stores_element (stack_effect (AnInt ∷ AnInt ∷ ArrayOf letters ∷ []) []) ls kinds vs
  int_stores_go letters are ls = pop_three AnInt AnInt (ArrayOf letters) (Does code.stores_element (stack_effect (AnInt ∷ AnInt ∷ ArrayOf letters ∷ []) []) ls) (λ x y t kinds v w u p h q k r l.
      by_int v (meets AnInt x v tt p h) (λ (a : Value ℕ). Does code.stores_element (stack_effect (AnInt ∷ AnInt ∷ ArrayOf letters ∷ []) []) ls (x ∷ y ∷ t ∷ kinds) (a ∷ w ∷ u ∷ [])) (λ n f.
      by_int w (meets AnInt y w tt q k) (λ (a : Value ℕ). Does code.stores_element (stack_effect (AnInt ∷ AnInt ∷ ArrayOf letters ∷ []) []) ls (x ∷ y ∷ t ∷ kinds) (int n ∷ a ∷ u ∷ [])) (λ z g.
      by_array_of (ArrayOf letters) (λ type. has_letter letters type ≡ true) (letters_array letters) (λ n m. m) u (meets (ArrayOf letters) t u are.plain r l)
      (λ (a : Value ℕ). Does code.stores_element (stack_effect (AnInt ∷ AnInt ∷ ArrayOf letters ∷ []) []) ls (x ∷ y ∷ t ∷ kinds) (int n ∷ int z ∷ a ∷ []))
      (raises code.stores_element (stack_effect (AnInt ∷ AnInt ∷ ArrayOf letters ∷ []) []) (at ls (x ∷ y ∷ t ∷ kinds)) NullBase)
      (λ a there. stored_go code.stores_element (stack_effect (AnInt ∷ AnInt ∷ ArrayOf letters ∷ []) []) (at ls (x ∷ y ∷ t ∷ kinds)) refl (λ type. has_letter letters type ≡ true) a there.found there.is_there
      refl there.fits (int n) (λ type has fit. subst (λ (kind : Kind). IsOnStack program s.heap kind (int (kept_int type n))) (sym (are.ints type has)) (set Int (int (kept_int type n)) (an_int (kept_int type n) (kept_int_fits type n f)))) z))))

  pub measure_go : (ls kinds : List Kind) (vs : List (Value ℕ)) → ArePopped program s.heap (AnArray ∷ []) kinds vs → Does code.measures (pushes_int (AnArray ∷ [])) ls kinds vs
  measure_go ls = pop_one AnArray (Does code.measures (pushes_int (AnArray ∷ [])) ls) (λ x kinds v p h.
      by_array v (meets AnArray x v tt p h) (λ (a : Value ℕ). Does code.measures (pushes_int (AnArray ∷ [])) ls (x ∷ kinds) (a ∷ []))
      (raises code.measures (pushes_int (AnArray ∷ [])) (at ls (x ∷ kinds)) NullBase)
      (λ a there. at_info a there.found there.is_there (λ (info : Info). GoesOnWith program s code.measures (pushes_int (AnArray ∷ [])) (at ls (x ∷ kinds)) (measured info))
      (by_info (x ∷ kinds) there.found (typed a there.found there.is_there) there.found.info refl there.fits)))
    where
      by_info : (kinds : List Kind) (o : HeapObject) → IsTypedObject program s.heap o → (info : Info) → o.info ≡ info → IsArrayWith (λ type. Unit {0}) info
          → GoesOnWith program s code.measures (pushes_int (AnArray ∷ [])) (at ls kinds) (measured info)
      by_info kinds o h (object c) same is = absurd is
      by_info kinds o h (array type count) same is = one_int code.measures (pushes_int (AnArray ∷ [])) (at ls kinds) (pos count) refl refl (by_object o same h)
        where
          by_object : (o : HeapObject) → o.info ≡ array type count → IsTypedObject program s.heap o → FitsSigned w32 (pos count)
          by_object o info (of_class _ c class isc found made fields contents) = absurd (no_class c count type (sym isc ∙ info))
          by_object o info (of_array _ own size iso long fitting elements) = subst (λ (n : ℕ). FitsSigned w32 (pos n)) (ap count_within (sym iso ∙ info)) fitting

  -- ---- elements that are references

  named_of : (base : Base) → is_class_base base ≡ true → (name : List ℕ) × (base ≡ OfName name)
  named_of (OfName name) e = (name, refl)
  named_of Byte e = never e
  named_of Char e = never e
  named_of Double e = never e
  named_of Float e = never e
  named_of IntBase e = never e
  named_of Long e = never e
  named_of Short e = never e
  named_of Boolean e = never e

  class_elements : (a b : Option ℕ) → is_subtype_of program a b ≡ true → (v : Value ℕ) → IsOnStack program s.heap (class_kind a) v → IsOnStack program s.heap (class_kind b) v
  class_elements None b p v h = never p
  class_elements (Some a) None p v h = never p
  class_elements (Some a) (Some b) p v h = widen_place (OfClass a) (OfClass b) v refl (or_right (is_interface program (OfClass b)) (type_fits program (OfClass a) (OfClass b)) p) h

  base_elements : (a b : Base) → base_fits program a b ≡ true → is_class_base b ≡ true → (v : Value ℕ) → IsOnStack program s.heap (base_kind program a) v → IsOnStack program s.heap (base_kind program b) v
  base_elements a b p is v h =
      let x = is_class program sound a b p is in
      let y = named_of b is in
      let p1 : base_fits program (OfName x.0) b ≡ true = subst (λ (base : Base). base_fits program base b ≡ true) x.1 p in
      let p2 : base_fits program (OfName x.0) (OfName y.0) ≡ true = subst (λ (base : Base). base_fits program (OfName x.0) base ≡ true) y.1 p1 in
      let h1 : IsOnStack program s.heap (base_kind program (OfName x.0)) v = subst (λ (base : Base). IsOnStack program s.heap (base_kind program base) v) x.1 h in
      subst (λ (base : Base). IsOnStack program s.heap (base_kind program base) v) (sym y.1)
      (class_elements (class_named program x.0) (class_named program y.0) p2 v h1)

  -- the kind of a type with no dimension, and with some
  flat_kind : (type : FieldDesc) → type.dims ≡ 0 → kind_of_type program type ≡ base_kind program type.base
  flat_kind type e = cond-true (type.dims == 0) (base_kind program type.base) (Ref (OfArray type)) (eq-eqb type.dims 0 e)

  deep_kind : (type : FieldDesc) → 0 < type.dims → kind_of_type program type ≡ Ref (OfArray type)
  deep_kind type h = cond-false (type.dims == 0) (base_kind program type.base) (Ref (OfArray type)) (ne_eqb type.dims 0 (λ e. omega arith))

  arrays_widen : (t u : FieldDesc) → 0 < t.dims → 0 < u.dims → array_fits program t u ≡ true → (v : Value ℕ)
      → IsOnStack program s.heap (kind_of_type program t) v → IsOnStack program s.heap (kind_of_type program u) v
  arrays_widen t u above over p v h =
      subst (λ (kind : Kind). IsOnStack program s.heap kind v) (sym (deep_kind u over))
      (widen_place (OfArray t) (OfArray u) v (lt-ltb 0 u.dims over) p (subst (λ (kind : Kind). IsOnStack program s.heap kind v) (deep_kind t above) h))

  -- what an array of a type holds is of the element type of each array type that it fits
  element_holds : (type desc : FieldDesc) → array_fits program (record { dims = type.dims + 1; base = type.base }) desc ≡ true → has_references desc ≡ true → nat_lt 0 desc.dims ≡ true
      → (v : Value ℕ) → IsOnStack program s.heap (kind_of_type program type) v → IsOnStack program s.heap (kind_of_type program (array_of (desc.dims - 1) desc.base)) v
  element_holds type desc fit has dims v h = by_parts (arrays_fit program (record { dims = type.dims + 1; base = type.base }) desc fit)
    where
      over : 0 < desc.dims
      over = ltb-true 0 desc.dims dims

      flat : type.dims ≡ 0 → type.dims + 1 ≡ desc.dims → base_fits program type.base desc.base ≡ true → IsOnStack program s.heap (kind_of_type program (array_of (desc.dims - 1) desc.base)) v
      flat none same p =
          let class_base : is_class_base desc.base ≡ true = elim (or_cases (nat_lt 1 desc.dims) (is_class_base desc.base) has) [
            | inl more ↦ absurd (omega (arith, ltb-true 1 desc.dims more))
            | inr is ↦ is
          ] in
          let less : desc.dims - 1 ≡ 0 = omega arith in
          subst (λ (kind : Kind). IsOnStack program s.heap kind v) (sym (flat_kind (array_of (desc.dims - 1) desc.base) less))
          (base_elements type.base desc.base p class_base v (subst (λ (kind : Kind). IsOnStack program s.heap kind v) (flat_kind type none) h))

      deep : 0 < type.dims → type.dims + 1 ≡ desc.dims → base_fits program type.base desc.base ≡ true → IsOnStack program s.heap (kind_of_type program (array_of (desc.dims - 1) desc.base)) v
      deep some same p =
          let less : type.dims ≡ desc.dims - 1 = omega arith in
          arrays_widen type (array_of (desc.dims - 1) desc.base) some (omega arith) (fit_arrays program type (array_of (desc.dims - 1) desc.base) (inl (less, p))) v h

      objects : desc.dims < type.dims + 1 → is_object desc.base ≡ true → IsOnStack program s.heap (kind_of_type program (array_of (desc.dims - 1) desc.base)) v
      objects below is = elim (cases_eq (desc.dims - 1) 0) [
        | inl none ↦
            let some : 0 < type.dims = omega (arith, over) in
            let named : base_kind program desc.base ≡ Ref (OfClass object_number) = ap (base_kind program) (object_base desc.base is) ∙ ap class_kind sound.object_named in
            subst (λ (kind : Kind). IsOnStack program s.heap kind v) (sym (flat_kind (array_of (desc.dims - 1) desc.base) none ∙ named))
            (widen_place (OfArray type) (OfClass object_number) v refl (or_right (is_interface program (OfClass object_number)) (type_fits program (OfArray type) (OfClass object_number)) (eq-eqb object_number object_number refl))
            (subst (λ (kind : Kind). IsOnStack program s.heap kind v) (deep_kind type some) h))
        | inr some ↦
            let above : 0 < type.dims = omega (arith, over) in
            let less : desc.dims - 1 < type.dims = omega (arith, over) in
            arrays_widen type (array_of (desc.dims - 1) desc.base) above (omega arith) (fit_arrays program type (array_of (desc.dims - 1) desc.base) (inr (less, is))) v h
      ]

      by_parts : ArraysFit program (record { dims = type.dims + 1; base = type.base }) desc → IsOnStack program s.heap (kind_of_type program (array_of (desc.dims - 1) desc.base)) v
      by_parts (inl both) = elim (cases_eq type.dims 0) [ inl none ↦ flat none both.0 both.1 | inr some ↦ deep (omega arith) both.0 both.1 ]
      by_parts (inr both) = objects both.0 both.1

  abbrev takes_reference : Effect
  takes_reference = stack_effect (AnInt ∷ ArrayOfReferences ∷ []) (OfStack 1 Element ∷ [])

  pub reference_loads_go : (ls kinds : List Kind) (vs : List (Value ℕ)) → ArePopped program s.heap (AnInt ∷ ArrayOfReferences ∷ []) kinds vs → Does code.loads_element takes_reference ls kinds vs
  reference_loads_go ls = pop_two AnInt ArrayOfReferences (Does code.loads_element takes_reference ls) (λ x y kinds v w p h q k.
      by_int v (meets AnInt x v tt p h) (λ (a : Value ℕ). Does code.loads_element takes_reference ls (x ∷ y ∷ kinds) (a ∷ w ∷ [])) (λ z f.
      elim (on_stack y w k) [ inl holds ↦ by_kind x kinds z y w q holds | inr none ↦ never (subst (λ (kind : Kind). passes program ArrayOfReferences kind ≡ true) none q) ]))
    where
      by_kind : (x : Kind) (kinds : List Kind) (z : ℤ) (y : Kind) (w : Value ℕ) → passes program ArrayOfReferences y ≡ true → HasKind program s.heap y w
          → Does code.loads_element takes_reference ls (x ∷ y ∷ kinds) (int z ∷ w ∷ [])
      by_kind x kinds z y w q (an_int n f) = never q
      by_kind x kinds z y w q a_null = raises code.loads_element takes_reference (at ls (x ∷ Null ∷ kinds)) NullBase
      by_kind x kinds z y w q (no_object type) = raises code.loads_element takes_reference (at ls (x ∷ Ref type ∷ kinds)) NullBase
      by_kind x kinds z y w q (an_object (OfClass c) a o is takes dims) = never q
      by_kind x kinds z y w q (an_object (OfArray desc) a o is takes dims) =
          loaded_go code.loads_element takes_reference (at ls (x ∷ Ref (OfArray desc) ∷ kinds)) refl (λ type. array_fits program (record { dims = type.dims + 1; base = type.base }) desc ≡ true) a o is
          (OfStack 1 Element) refl (of_info o.info takes)
          (λ type fit u holds. subst (λ (kind : Kind). IsOnStack program s.heap kind u) (sym (cond-true (has_references desc) (kind_of_type program (array_of (desc.dims - 1) desc.base)) Unset q))
          (element_holds type desc fit q dims u holds)) z
        where
          of_info : (info : Info) → type_fits program (type_of info) (OfArray desc) ≡ true → IsArrayWith (λ type. array_fits program (record { dims = type.dims + 1; base = type.base }) desc ≡ true) info
          of_info (object c) fit = never fit
          of_info (array type count) fit = fit

  null_holds : (type : FieldDesc) → is_reference_type type ≡ true → IsOnStack program s.heap (kind_of_type program type) null
  null_holds type is = elim (cases_eq type.dims 0) [
    | inl none ↦ subst (λ (kind : Kind). IsOnStack program s.heap kind null) (sym (flat_kind type none)) (by_base type.base (flat_class none))
    | inr some ↦ subst (λ (kind : Kind). IsOnStack program s.heap kind null) (sym (deep_kind type (omega arith))) (set (Ref (OfArray type)) null (no_object (OfArray type)))
  ]
    where
      flat_class : type.dims ≡ 0 → is_class_base type.base ≡ true
      flat_class none = elim (or_cases (not (type.dims == 0)) (is_class_base type.base) is) [
        | inl deep ↦ never (sym (not_from_true (type.dims == 0) (eq-eqb type.dims 0 none)) ∙ deep)
        | inr named ↦ named
      ]

      by_class : (o : Option ℕ) → IsOnStack program s.heap (class_kind o) null
      by_class None = unset (Some null)
      by_class (Some c) = set (Ref (OfClass c)) null (no_object (OfClass c))

      by_base : (base : Base) → is_class_base base ≡ true → IsOnStack program s.heap (base_kind program base) null
      by_base (OfName name) e = by_class (class_named program name)
      by_base Byte e = never e
      by_base Char e = never e
      by_base Double e = never e
      by_base Float e = never e
      by_base IntBase e = never e
      by_base Long e = never e
      by_base Short e = never e
      by_base Boolean e = never e

  -- an object that an array takes is of its element type
  taken_holds : (type : FieldDesc) (b : ℕ) (o : HeapObject) → slice_get s.heap b ≡ Some o → fits_ref program o.info (element_ref program type) ≡ true → IsOnStack program s.heap (kind_of_type program type) (ref b)
  taken_holds type b o is fit = elim (cases_Bool (type.dims == 0)) [
    | inl none ↦ subst (λ (kind : Kind). IsOnStack program s.heap kind (ref b)) (sym (flat_kind type (eqb-true type.dims 0 none))) (by_base type.base (rw none at fit))
    | inr some ↦
        let above : 0 < type.dims = by_number type.dims (eqb-false type.dims 0 some) in
        let fit1 : type_fits program (type_of o.info) (OfArray type) ≡ true = rw some at fit in
        subst (λ (kind : Kind). IsOnStack program s.heap kind (ref b)) (sym (deep_kind type above))
        (set (Ref (OfArray type)) (ref b) (an_object (OfArray type) b o is fit1 (lt-ltb 0 type.dims above)))
  ]
    where
      by_number : (n : ℕ) → (n ≡ 0 → ⊥) → 0 < n
      by_number zero ne = absurd (ne refl)
      by_number (suc n) ne = omega arith

      by_class : (c : Option ℕ) → fits_ref program o.info (option_map (λ c. OfClass c) c) ≡ true → IsOnStack program s.heap (class_kind c) (ref b)
      by_class None e = never e
      by_class (Some c) e = set (Ref (OfClass c)) (ref b) (an_object (OfClass c) b o is (or_right (is_interface program (OfClass c)) (type_fits program (type_of o.info) (OfClass c)) e) refl)

      by_base : (base : Base) → fits_ref program o.info (element_ref program (record { dims = 0; base = base })) ≡ true → IsOnStack program s.heap (base_kind program base) (ref b)
      by_base (OfName name) e = by_class (class_named program name) e
      by_base Byte e = never e
      by_base Char e = never e
      by_base Double e = never e
      by_base Float e = never e
      by_base IntBase e = never e
      by_base Long e = never e
      by_base Short e = never e
      by_base Boolean e = never e

  abbrev puts_reference : Effect
  puts_reference = stack_effect (AReference ∷ AnInt ∷ ArrayOfReferences ∷ []) []

  pub reference_stores_go : (ls kinds : List Kind) (vs : List (Value ℕ)) → ArePopped program s.heap (AReference ∷ AnInt ∷ ArrayOfReferences ∷ []) kinds vs → Does code.stores_element puts_reference ls kinds vs
  reference_stores_go ls = pop_three AReference AnInt ArrayOfReferences (Does code.stores_element puts_reference ls) (λ x y t kinds v w u p h q k r l.
      by_int w (meets AnInt y w tt q k) (λ (a : Value ℕ). Does code.stores_element puts_reference ls (x ∷ y ∷ t ∷ kinds) (v ∷ a ∷ u ∷ [])) (λ z f.
      by_array_of ArrayOfReferences (λ type. is_reference_type type ≡ true) (λ a m. record { found = m.found; is_there = m.is_there; fits = m.fits }) (λ n m. m) u (meets ArrayOfReferences t u tt r l)
      (λ (a : Value ℕ). Does code.stores_element puts_reference ls (x ∷ y ∷ t ∷ kinds) (v ∷ int z ∷ a ∷ []))
      (raises code.stores_element puts_reference (at ls (x ∷ y ∷ t ∷ kinds)) NullBase)
      (λ a there. stored_go code.stores_element puts_reference (at ls (x ∷ y ∷ t ∷ kinds)) refl (λ type. is_reference_type type ≡ true) a there.found there.is_there
      refl there.fits v (by_value v (meets AReference x v tt p h)) z)))
    where
      by_value : (v : Value ℕ) → Meets program s.heap AReference v → (type : FieldDesc) → is_reference_type type ≡ true → takes_value (fits program) (info_at s) type v ≡ true
          → IsOnStack program s.heap (kind_of_type program type) (kept type v)
      by_value (int n) m type is fit = absurd m
      by_value null m type is fit = null_holds type is
      by_value (ref b) m type is fit =
          taken_holds type b m.found m.is_there (subst (λ (info : Info). fits_ref program info (element_ref program type) ≡ true) (ap info_of m.is_there) fit)

  -- ---- moves

  pop_four : (a b c d : Need) (P : List Kind → List (Value ℕ) → Type 0)
      → ((x y z t : Kind) (kinds : List Kind) (v w u r : Value ℕ) → passes program a x ≡ true → IsOnStack program s.heap x v → passes program b y ≡ true → IsOnStack program s.heap y w
      → passes program c z ≡ true → IsOnStack program s.heap z u → passes program d t ≡ true → IsOnStack program s.heap t r → P (x ∷ y ∷ z ∷ t ∷ kinds) (v ∷ w ∷ u ∷ r ∷ []))
      → (kinds : List Kind) (vs : List (Value ℕ)) → ArePopped program s.heap (a ∷ b ∷ c ∷ d ∷ []) kinds vs → P kinds vs
  pop_four a b c d P f [] [] given = absurd given
  pop_four a b c d P f [] (v ∷ vs) given = absurd given
  pop_four a b c d P f (x ∷ kinds) [] given = absurd given
  pop_four a b c d P f (x ∷ kinds) (v ∷ vs) given =
      pop_three b c d (λ (ks : List Kind) (ws : List (Value ℕ)). P (x ∷ ks) (v ∷ ws)) (λ y z t ks w u r q k e l g m. f x y z t ks v w u r given.0 given.1 q k e l g m) kinds vs given.2

  pub one_dropped_go : (ls kinds : List Kind) (vs : List (Value ℕ)) → ArePopped program s.heap (Anything ∷ []) kinds vs → Does (code.shuffles 87) (moves 1 []) ls kinds vs
  one_dropped_go ls = pop_one Anything (Does (code.shuffles 87) (moves 1 []) ls) (λ x kinds v p h.
      goes (code.shuffles 87) (moves 1 []) (at ls (x ∷ kinds)) (does.pushes ([])) (by_push ([]) refl no_more))

  pub two_dropped_go : (ls kinds : List Kind) (vs : List (Value ℕ)) → ArePopped program s.heap (Anything ∷ Anything ∷ []) kinds vs → Does (code.shuffles 88) (moves 2 []) ls kinds vs
  two_dropped_go ls = pop_two Anything Anything (Does (code.shuffles 88) (moves 2 []) ls) (λ x y kinds v w p h q k.
      goes (code.shuffles 88) (moves 2 []) (at ls (x ∷ y ∷ kinds)) (does.pushes ([])) (by_push ([]) refl no_more))

  pub one_doubled_go : (ls kinds : List Kind) (vs : List (Value ℕ)) → ArePopped program s.heap (Anything ∷ []) kinds vs → Does (code.shuffles 89) (moves 1 (0 ∷ 0 ∷ [])) ls kinds vs
  one_doubled_go ls = pop_one Anything (Does (code.shuffles 89) (moves 1 (0 ∷ 0 ∷ [])) ls) (λ x kinds v p h.
      goes (code.shuffles 89) (moves 1 (0 ∷ 0 ∷ [])) (at ls (x ∷ kinds)) (does.pushes (v ∷ v ∷ [])) (by_push (v ∷ v ∷ []) refl (one_more x v (x ∷ []) (v ∷ []) h (one_more x v ([]) ([]) h no_more))))

  pub one_doubled_under_one_go : (ls kinds : List Kind) (vs : List (Value ℕ)) → ArePopped program s.heap (Anything ∷ Anything ∷ []) kinds vs → Does (code.shuffles 90) (moves 2 (0 ∷ 1 ∷ 0 ∷ [])) ls kinds vs
  one_doubled_under_one_go ls = pop_two Anything Anything (Does (code.shuffles 90) (moves 2 (0 ∷ 1 ∷ 0 ∷ [])) ls) (λ x y kinds v w p h q k.
      goes (code.shuffles 90) (moves 2 (0 ∷ 1 ∷ 0 ∷ [])) (at ls (x ∷ y ∷ kinds)) (does.pushes (v ∷ w ∷ v ∷ [])) (by_push (v ∷ w ∷ v ∷ []) refl (one_more x v (y ∷ x ∷ []) (w ∷ v ∷ []) h (one_more y w (x ∷ []) (v ∷ []) k (one_more x v ([]) ([]) h no_more)))))

  pub one_doubled_under_two_go : (ls kinds : List Kind) (vs : List (Value ℕ)) → ArePopped program s.heap (Anything ∷ Anything ∷ Anything ∷ []) kinds vs → Does (code.shuffles 91) (moves 3 (0 ∷ 1 ∷ 2 ∷ 0 ∷ [])) ls kinds vs
  one_doubled_under_two_go ls = pop_three Anything Anything Anything (Does (code.shuffles 91) (moves 3 (0 ∷ 1 ∷ 2 ∷ 0 ∷ [])) ls) (λ x y z kinds v w u p h q k a l.
      goes (code.shuffles 91) (moves 3 (0 ∷ 1 ∷ 2 ∷ 0 ∷ [])) (at ls (x ∷ y ∷ z ∷ kinds)) (does.pushes (v ∷ w ∷ u ∷ v ∷ [])) (by_push (v ∷ w ∷ u ∷ v ∷ []) refl (one_more x v (y ∷ z ∷ x ∷ []) (w ∷ u ∷ v ∷ []) h (one_more y w (z ∷ x ∷ []) (u ∷ v ∷ []) k (one_more z u (x ∷ []) (v ∷ []) l (one_more x v ([]) ([]) h no_more))))))

  pub two_doubled_go : (ls kinds : List Kind) (vs : List (Value ℕ)) → ArePopped program s.heap (Anything ∷ Anything ∷ []) kinds vs → Does (code.shuffles 92) (moves 2 (0 ∷ 1 ∷ 0 ∷ 1 ∷ [])) ls kinds vs
  two_doubled_go ls = pop_two Anything Anything (Does (code.shuffles 92) (moves 2 (0 ∷ 1 ∷ 0 ∷ 1 ∷ [])) ls) (λ x y kinds v w p h q k.
      goes (code.shuffles 92) (moves 2 (0 ∷ 1 ∷ 0 ∷ 1 ∷ [])) (at ls (x ∷ y ∷ kinds)) (does.pushes (v ∷ w ∷ v ∷ w ∷ [])) (by_push (v ∷ w ∷ v ∷ w ∷ []) refl (one_more x v (y ∷ x ∷ y ∷ []) (w ∷ v ∷ w ∷ []) h (one_more y w (x ∷ y ∷ []) (v ∷ w ∷ []) k (one_more x v (y ∷ []) (w ∷ []) h (one_more y w ([]) ([]) k no_more))))))

  pub two_doubled_under_one_go : (ls kinds : List Kind) (vs : List (Value ℕ)) → ArePopped program s.heap (Anything ∷ Anything ∷ Anything ∷ []) kinds vs → Does (code.shuffles 93) (moves 3 (0 ∷ 1 ∷ 2 ∷ 0 ∷ 1 ∷ [])) ls kinds vs
  two_doubled_under_one_go ls = pop_three Anything Anything Anything (Does (code.shuffles 93) (moves 3 (0 ∷ 1 ∷ 2 ∷ 0 ∷ 1 ∷ [])) ls) (λ x y z kinds v w u p h q k a l.
      goes (code.shuffles 93) (moves 3 (0 ∷ 1 ∷ 2 ∷ 0 ∷ 1 ∷ [])) (at ls (x ∷ y ∷ z ∷ kinds)) (does.pushes (v ∷ w ∷ u ∷ v ∷ w ∷ [])) (by_push (v ∷ w ∷ u ∷ v ∷ w ∷ []) refl (one_more x v (y ∷ z ∷ x ∷ y ∷ []) (w ∷ u ∷ v ∷ w ∷ []) h (one_more y w (z ∷ x ∷ y ∷ []) (u ∷ v ∷ w ∷ []) k (one_more z u (x ∷ y ∷ []) (v ∷ w ∷ []) l (one_more x v (y ∷ []) (w ∷ []) h (one_more y w ([]) ([]) k no_more)))))))

  pub two_doubled_under_two_go : (ls kinds : List Kind) (vs : List (Value ℕ)) → ArePopped program s.heap (Anything ∷ Anything ∷ Anything ∷ Anything ∷ []) kinds vs → Does (code.shuffles 94) (moves 4 (0 ∷ 1 ∷ 2 ∷ 3 ∷ 0 ∷ 1 ∷ [])) ls kinds vs
  two_doubled_under_two_go ls = pop_four Anything Anything Anything Anything (Does (code.shuffles 94) (moves 4 (0 ∷ 1 ∷ 2 ∷ 3 ∷ 0 ∷ 1 ∷ [])) ls) (λ x y z t kinds v w u r p h q k a l b m.
      goes (code.shuffles 94) (moves 4 (0 ∷ 1 ∷ 2 ∷ 3 ∷ 0 ∷ 1 ∷ [])) (at ls (x ∷ y ∷ z ∷ t ∷ kinds)) (does.pushes (v ∷ w ∷ u ∷ r ∷ v ∷ w ∷ [])) (by_push (v ∷ w ∷ u ∷ r ∷ v ∷ w ∷ []) refl (one_more x v (y ∷ z ∷ t ∷ x ∷ y ∷ []) (w ∷ u ∷ r ∷ v ∷ w ∷ []) h (one_more y w (z ∷ t ∷ x ∷ y ∷ []) (u ∷ r ∷ v ∷ w ∷ []) k (one_more z u (t ∷ x ∷ y ∷ []) (r ∷ v ∷ w ∷ []) l (one_more t r (x ∷ y ∷ []) (v ∷ w ∷ []) m (one_more x v (y ∷ []) (w ∷ []) h (one_more y w ([]) ([]) k no_more))))))))

  pub two_swapped_go : (ls kinds : List Kind) (vs : List (Value ℕ)) → ArePopped program s.heap (Anything ∷ Anything ∷ []) kinds vs → Does (code.shuffles 95) (moves 2 (1 ∷ 0 ∷ [])) ls kinds vs
  two_swapped_go ls = pop_two Anything Anything (Does (code.shuffles 95) (moves 2 (1 ∷ 0 ∷ [])) ls) (λ x y kinds v w p h q k.
      goes (code.shuffles 95) (moves 2 (1 ∷ 0 ∷ [])) (at ls (x ∷ y ∷ kinds)) (does.pushes (w ∷ v ∷ [])) (by_push (w ∷ v ∷ []) refl (one_more y w (x ∷ []) (v ∷ []) k (one_more x v ([]) ([]) h no_more))))

  -- ---- what is made

  made_array_go : (type : FieldDesc) → takes_type program (type_of (array type 0)) (type_of (array type 0)) ≡ true → (ls kinds : List Kind) (vs : List (Value ℕ))
      → ArePopped program s.heap (AnInt ∷ []) kinds vs → Does (code.creates_array type) (makes (AnInt ∷ []) (type_of (array type 0))) ls kinds vs
  made_array_go type same ls = pop_one AnInt (Does (code.creates_array type) (makes (AnInt ∷ []) (type_of (array type 0))) ls) (λ x kinds v p h.
      by_int v (meets AnInt x v tt p h) (λ (a : Value ℕ). Does (code.creates_array type) (makes (AnInt ∷ []) (type_of (array type 0))) ls (x ∷ kinds) (a ∷ [])) (λ z f.
      by_sign (x ∷ kinds) z f (int_lt z (pos 0)) refl))
    where
      length_fits : (z : ℤ) → FitsSigned w32 z → int_lt z (pos 0) ≡ false → FitsSigned w32 (pos (unsigned_abs z))
      length_fits (pos n) f e = f
      length_fits (negsuc n) f e = never (sym e)

      by_sign : (kinds : List Kind) (z : ℤ) → FitsSigned w32 z → (b : Bool) → int_lt z (pos 0) ≡ b
          → GoesOnWith program s (code.creates_array type) (makes (AnInt ∷ []) (type_of (array type 0))) (at ls kinds) (if b then only (does.raises NegativeLength) else only (does.allocates (array type (unsigned_abs z))))
      by_sign kinds z f true e = raises (code.creates_array type) (makes (AnInt ∷ []) (type_of (array type 0))) (at ls kinds) NegativeLength
      by_sign kinds z f false e = goes (code.creates_array type) (makes (AnInt ∷ []) (type_of (array type 0))) (at ls kinds) (does.allocates (array type (unsigned_abs z)))
          (by_new (array type (unsigned_abs z)) (type_of (array type 0)) refl refl (lt-ltb 0 (type.dims + 1) (omega arith)) (same, length_fits z f e))

  made_go : (c : ℕ) (class : Class) → class_at program c ≡ Some class → has_objects class ≡ true → (ls kinds : List Kind) (vs : List (Value ℕ)) → ArePopped program s.heap [] kinds vs → Does (code.creates c) (makes [] (OfClass c)) ls kinds vs
  made_go c class found made ls = pop_none (Does (code.creates c) (makes [] (OfClass c)) ls) (λ kinds.
      goes (code.creates c) (makes [] (OfClass c)) (at ls kinds) (does.allocates (object c))
      (by_new (object c) (OfClass c) refl refl refl
      ((class, found, made), or_right (is_interface program (OfClass c)) (type_fits program (OfClass c) (OfClass c)) (subtype_every program sound.no_cycle c c (stays c)))))

  -- ---- fields

  field_there : (fields : List (ℕ × Value ℕ)) (f : ℕ) → Contains (map (λ content. content.0) fields) f
      → (k : ℕ) × (v : Value ℕ) × (slice_get fields k ≡ Some (f, v)) × (field_content fields f ≡ Some v)
  field_there [] f there = absurd (none_there f there)
  field_there (first ∷ rest) f there = by_test (first.0 == f) refl (field_there rest f)
    where
      by_test : (b : Bool) → (first.0 == f) ≡ b
          → (Contains (map (λ content. content.0) rest) f → (k : ℕ) × (v : Value ℕ) × (slice_get rest k ≡ Some (f, v)) × (field_content rest f ≡ Some v))
          → (k : ℕ) × (v : Value ℕ) × (slice_get (first ∷ rest) k ≡ Some (f, v)) × ((if b then Some first.1 else field_content rest f) ≡ Some v)
      by_test true e later = (0, first.1, ap (λ (n : ℕ). Some (n, first.1)) (eqb-true first.0 f e), refl)
      by_test false e later = elim (head_or_behind first.0 (map (λ content. content.0) rest) f there) [
        | inl same ↦ absurd (eqb-false first.0 f e same)
        | inr behind_it ↦ let found = later behind_it in (suc found.0, found.1, found.2, found.3)
      ]

  same_some : {X : Type 0} {x y : X} → Some x ≡ Some y → x ≡ y
  same_some e = cc

  typed_content : (f : ℕ) (type : FieldDesc) → HasType program f type → (v : Value ℕ) → IsFieldContent program s.heap (f, v) → IsOnStack program s.heap (kind_of_type program type) v
  typed_content f type has v content =
      let same : content.field ≡ has.field = same_some (sym content.is_field ∙ has.is_field) in
      subst (λ (kind : Kind). IsOnStack program s.heap kind v) (ap (λ (field : Field). kind_of_desc program (field_desc_in field.desc)) same ∙ ap (kind_of_desc program) has.type_is) content.fits

  content_typed : (f : ℕ) (type : FieldDesc) → HasType program f type → (v : Value ℕ) → IsOnStack program s.heap (kind_of_type program type) v → IsFieldContent program s.heap (f, v)
  content_typed f type has v h = record {
    field = has.field;
    is_field = has.is_field;
    fits = subst (λ (kind : Kind). IsOnStack program s.heap kind v) (sym (ap (kind_of_desc program) has.type_is)) h;
  }

  abbrev field_gets : FieldDesc → TypeRef → Effect
  field_gets type owner = stack_effect (OfEach (owner ∷ []) ∷ []) (Always (kind_of_type program type) ∷ [])

  abbrev field_puts : FieldDesc → TypeRef → Effect
  field_puts type owner = stack_effect (need_of (kind_of_type program type) ∷ OfEach (owner ∷ []) ∷ []) []

  module _ (f : ℕ) (type : FieldDesc) (owner : TypeRef) (has : HasType program f type) (holds : HasField program owner f) where
    class_takes : (o : HeapObject) → fits_each program (type_of o.info) (owner ∷ []) ≡ true → takes_type program (type_of o.info) owner ≡ true
    class_takes o h = (and_parts (takes_type program (type_of o.info) owner) true h).0

    content_read : (a : ℕ) (o : HeapObject) → slice_get s.heap a ≡ Some o → fits_each program (type_of o.info) (owner ∷ []) ≡ true → IsTypedObject program s.heap o
        → (v : Value ℕ) × (content s (field a f) ≡ Some v) × IsOnStack program s.heap (kind_of_type program type) v
    content_read a o is fit (of_class _ c class isc found made names contents) =
        let takes : takes_type program (OfClass c) owner ≡ true = subst (λ (info : Info). takes_type program (type_of info) owner ≡ true) isc (class_takes o fit) in
        let there = field_there o.fields f (subst (λ (fields : List ℕ). Contains fields f) (sym names) (holds.objects c class found takes)) in
        (there.1, ap (λ (x : Option HeapObject). field_of x f) is ∙ there.3, typed_content f type has there.1 (contents there.0 (f, there.1) there.2))
    content_read a o is fit (of_array _ own size iso long fitting elements) =
        absurd (holds.no_array (record { dims = own.dims + 1; base = own.base }) (subst (λ (info : Info). takes_type program (type_of info) owner ≡ true) iso (class_takes o fit)))

    field_gets_go : (ls kinds : List Kind) (vs : List (Value ℕ)) → ArePopped program s.heap (OfEach (owner ∷ []) ∷ []) kinds vs → Does (code.gets_field f) (field_gets type owner) ls kinds vs
    field_gets_go ls = pop_one (OfEach (owner ∷ [])) (Does (code.gets_field f) (field_gets type owner) ls) (λ x kinds v p h.
        by_type (owner ∷ []) v (meets (OfEach (owner ∷ [])) x v tt p h) (λ (a : Value ℕ). Does (code.gets_field f) (field_gets type owner) ls (x ∷ kinds) (a ∷ []))
        (raises (code.gets_field f) (field_gets type owner) (at ls (x ∷ kinds)) NullBase)
        (λ a there.
        let found = content_read a there.found there.is_there there.fits (typed a there.found there.is_there) in
        subst (λ (c : Option (Value ℕ)). GoesOnWith program s (code.gets_field f) (field_gets type owner) (at ls (x ∷ kinds)) (content_pushed c)) (sym found.1)
        (one (code.gets_field f) (field_gets type owner) (at ls (x ∷ kinds)) (Always (kind_of_type program type)) found.0 refl refl found.2)))

    class_there : (a : ℕ) (o : HeapObject) → slice_get s.heap a ≡ Some o → fits_each program (type_of o.info) (owner ∷ []) ≡ true → IsTypedObject program s.heap o → (c : ℕ) × (o.info ≡ object c)
    class_there a o is fit (of_class _ c class isc found made names contents) = (c, isc)
    class_there a o is fit (of_array _ own size iso long fitting elements) =
        absurd (holds.no_array (record { dims = own.dims + 1; base = own.base }) (subst (λ (info : Info). takes_type program (type_of info) owner ≡ true) iso (class_takes o fit)))

    field_puts_go : (ls kinds : List Kind) (vs : List (Value ℕ)) → ArePopped program s.heap (need_of (kind_of_type program type) ∷ OfEach (owner ∷ []) ∷ []) kinds vs
        → Does (code.puts_field f type) (field_puts type owner) ls kinds vs
    field_puts_go ls = pop_two (need_of (kind_of_type program type)) (OfEach (owner ∷ [])) (Does (code.puts_field f type) (field_puts type owner) ls) (λ x y kinds v w p h q k.
        by_type (owner ∷ []) w (meets (OfEach (owner ∷ [])) y w tt q k) (λ (a : Value ℕ). Does (code.puts_field f type) (field_puts type owner) ls (x ∷ y ∷ kinds) (v ∷ a ∷ []))
        (raises (code.puts_field f type) (field_puts type owner) (at ls (x ∷ y ∷ kinds)) NullBase)
        (λ a there.
        let class = class_there a there.found there.is_there there.fits (typed a there.found there.is_there) in
        record {
          gives = record { effect = does.pushes []; written = Some (field a f, kept type v) };
          is_given = refl;
          follows = by_write (field a f) (kept type v) refl refl (in_field a f there.found class.0 (kept type v) there.is_there class.1 (content_typed f type has (kept type v) (passed_on type x v p h)));
        }))

  static_type : (f : ℕ) (type : FieldDesc) → IsStaticOf program f type → HasType program f type
  static_type f type is = record { field = is.field; is_field = is.is_field; type_is = is.type_is }

  static_puts_go : (f : ℕ) (type : FieldDesc) → IsStaticOf program f type → (ls kinds : List Kind) (vs : List (Value ℕ)) → ArePopped program s.heap (need_of (kind_of_type program type) ∷ []) kinds vs
      → Does (code.puts_static f type) (stack_effect (need_of (kind_of_type program type) ∷ []) []) ls kinds vs
  static_puts_go f type is ls = pop_one (need_of (kind_of_type program type)) (Does (code.puts_static f type) (stack_effect (need_of (kind_of_type program type) ∷ []) []) ls) (λ x kinds v p h.
      record {
        gives = record { effect = does.pushes []; written = Some (static f, kept type v) };
        is_given = refl;
        follows = by_write (static f) (kept type v) refl refl (in_static f (kept type v) (content_typed f type (static_type f type is) (kept type v) (passed_on type x v p h)));
      })

  value_returns_go : (type : FieldDesc) (ls kinds : List Kind) (vs : List (Value ℕ)) → ArePopped program s.heap (need_of (kind_of_type program type) ∷ []) kinds vs
      → Does (code.returns_value type) (stack_effect (need_of (kind_of_type program type) ∷ []) []) ls kinds vs
  value_returns_go type ls = pop_one (need_of (kind_of_type program type)) (Does (code.returns_value type) (stack_effect (need_of (kind_of_type program type) ∷ []) []) ls) (λ x kinds v p h.
      goes (code.returns_value type) (stack_effect (need_of (kind_of_type program type) ∷ []) []) (at ls (x ∷ kinds)) (does.returns (Some (kept type v)))
      (by_return (Some (kept type v)) refl (passed_on type x v p h)))

  module _ (state : IsTypedState program s) where
    static_gets_go : (f : ℕ) (type : FieldDesc) → IsStaticOf program f type → (ls kinds : List Kind) (vs : List (Value ℕ)) → ArePopped program s.heap [] kinds vs
        → Does (code.gets_static f) (stack_effect [] (Always (kind_of_type program type) ∷ [])) ls kinds vs
    static_gets_go f type is ls = pop_none (Does (code.gets_static f) (stack_effect [] (Always (kind_of_type program type) ∷ [])) ls) (λ kinds.
        let inside : f < length s.statics = omega (arith, slice_get_within program.fields f is.field is.is_field, state.count) in
        let found : slice_get s.statics f ≡ Some (get_or s.statics f null) = slice_get-get_or s.statics f null inside in
        subst (λ (c : Option (Value ℕ)). GoesOnWith program s (code.gets_static f) (stack_effect [] (Always (kind_of_type program type) ∷ [])) (at ls kinds) (content_pushed c)) (sym found)
        (one (code.gets_static f) (stack_effect [] (Always (kind_of_type program type) ∷ [])) (at ls kinds) (Always (kind_of_type program type)) (get_or s.statics f null) refl refl
        (typed_content f type (static_type f type is) (get_or s.statics f null) (state.statics f is.field (get_or s.statics f null) is.is_field is.is_static found))))

    text_go : (text : List ℕ) (a : ℕ) → string_address program text ≡ Some a → (ls kinds : List Kind) (vs : List (Value ℕ)) → ArePopped program s.heap [] kinds vs
        → Does (code.pushes_text text) (makes [] (OfClass string_class)) ls kinds vs
    text_go text a is ls = pop_none (Does (code.pushes_text text) (makes [] (OfClass string_class)) ls) (λ kinds.
        let there = state.texts text a is in
        subst (λ (o : Option ℕ). GoesOnWith program s (code.pushes_text text) (makes [] (OfClass string_class)) (at ls kinds) (text_pushed o)) (sym is)
        (one (code.pushes_text text) (makes [] (OfClass string_class)) (at ls kinds) (Always (Ref (OfClass string_class))) (ref a) refl refl
        (set (Ref (OfClass string_class)) (ref a) (an_object (OfClass string_class) a there.found there.is_there (or_right (is_interface program (OfClass string_class)) (type_fits program (type_of there.found.info) (OfClass string_class)) there.fits) refl))))

    -- ---- all of them

    pub instructions_go : (i : Instruction) (e : Effect) → HasEffect program i e → (shape : Shape) (vs : List (Value ℕ)) → AreGiven program s.heap e.reads e.pops shape vs
        → GoesOnWith program s i e shape (exec (ways program s) (fits program) i (read_from s (cell_read (info_at s) i vs)) vs)
    instructions_go i e nothing_done shape vs given = pop_none (Does code.passes (stack_effect [] []) shape.locals) (λ kinds. passes_on code.passes (stack_effect [] []) (at shape.locals kinds) refl refl) shape.stack vs given
    instructions_go i e null_pushed shape vs given = pop_none (Does code.pushes_null (stack_effect [] (Always Null ∷ [])) shape.locals) (λ kinds.
        one code.pushes_null (stack_effect [] (Always Null ∷ [])) (at shape.locals kinds) (Always Null) null refl refl (set Null null a_null)) shape.stack vs given
    instructions_go i e (int_pushed z f) shape vs given = pop_none (Does (code.pushes_int z) (pushes_int []) shape.locals) (λ kinds. one_int (code.pushes_int z) (pushes_int []) (at shape.locals kinds) z refl refl f) shape.stack vs given
    instructions_go i e (Effects.text_pushed text a is) shape vs given = text_go text a is shape.locals shape.stack vs given
    instructions_go i e (int_loaded k) shape vs given = loads_int_go k shape.locals shape.stack vs given
    instructions_go i e (reference_loaded k) shape vs given = loads_reference_go k shape.locals shape.stack vs given
    instructions_go i e (int_stored k) shape vs given = stores_int_go k shape.locals shape.stack vs given
    instructions_go i e (reference_stored k) shape vs given = stores_reference_go k shape.locals shape.stack vs given
    instructions_go i e (int_stepped k by) shape vs given = steps_go k by shape.locals shape.stack vs given
    instructions_go i e (element_loaded letters are) shape vs given = int_loads_go letters are shape.locals shape.stack vs given
    instructions_go i e reference_taken shape vs given = reference_loads_go shape.locals shape.stack vs given
    instructions_go i e (element_stored letters are) shape vs given = int_stores_go letters are shape.locals shape.stack vs given
    instructions_go i e reference_put shape vs given = reference_stores_go shape.locals shape.stack vs given
    instructions_go i e one_dropped shape vs given = one_dropped_go shape.locals shape.stack vs given
    instructions_go i e two_dropped shape vs given = two_dropped_go shape.locals shape.stack vs given
    instructions_go i e one_doubled shape vs given = one_doubled_go shape.locals shape.stack vs given
    instructions_go i e one_doubled_under_one shape vs given = one_doubled_under_one_go shape.locals shape.stack vs given
    instructions_go i e one_doubled_under_two shape vs given = one_doubled_under_two_go shape.locals shape.stack vs given
    instructions_go i e two_doubled shape vs given = two_doubled_go shape.locals shape.stack vs given
    instructions_go i e two_doubled_under_one shape vs given = two_doubled_under_one_go shape.locals shape.stack vs given
    instructions_go i e two_doubled_under_two shape vs given = two_doubled_under_two_go shape.locals shape.stack vs given
    instructions_go i e two_swapped shape vs given = two_swapped_go shape.locals shape.stack vs given
    instructions_go i e (two_computed op) shape vs given = computes_go op shape.locals shape.stack vs given
    instructions_go i e one_negated shape vs given = one_go code.negates negated (λ z f. negated_fits z) (λ z. refl) shape.locals shape.stack vs given
    instructions_go i e (one_narrowed op) shape vs given = one_go (code.narrows op) (narrow op) (λ z f. narrow_fits op z f) (λ z. refl) shape.locals shape.stack vs given
    instructions_go i e (one_tested op target) shape vs given = tests_go op target shape.locals shape.stack vs given
    instructions_go i e (two_compared op target) shape vs given = compares_go op target shape.locals shape.stack vs given
    instructions_go i e (references_compared op target) shape vs given = references_go op target shape.locals shape.stack vs given
    instructions_go i e (null_tested op target) shape vs given = null_go op target shape.locals shape.stack vs given
    instructions_go i e (jumped target) shape vs given = pop_none (Does (code.jumps_to target) (stack_effect [] []) shape.locals) (λ kinds.
        goes (code.jumps_to target) (stack_effect [] []) (at shape.locals kinds) (does.jumps target) (by_jump target refl refl refl)) shape.stack vs given
    instructions_go i e (Effects.switched cases other) shape vs given = switches_go cases other shape.locals shape.stack vs given
    instructions_go i e (value_returned type) shape vs given = value_returns_go type shape.locals shape.stack vs given
    instructions_go i e nothing_returned shape vs given = pop_none (Does code.returns_nothing (stack_effect [] []) shape.locals) (λ kinds.
        goes code.returns_nothing (stack_effect [] []) (at shape.locals kinds) (does.returns None) (by_return None refl tt)) shape.stack vs given
    instructions_go i e (static_got f type is) shape vs given = static_gets_go f type is shape.locals shape.stack vs given
    instructions_go i e (static_put f type is) shape vs given = static_puts_go f type is shape.locals shape.stack vs given
    instructions_go i e (field_got f type owner has holds) shape vs given = field_gets_go f type owner has holds shape.locals shape.stack vs given
    instructions_go i e (field_put f type owner has holds) shape vs given = field_puts_go f type owner has holds shape.locals shape.stack vs given
    instructions_go i e (created c class found made) shape vs given = made_go c class found made shape.locals shape.stack vs given
    instructions_go i e (array_created type same) shape vs given = made_array_go type same shape.locals shape.stack vs given
    instructions_go i e array_measured shape vs given = measure_go shape.locals shape.stack vs given
    instructions_go i e thrown shape vs given = throw_go shape.locals shape.stack vs given
    instructions_go i e (cast type dims) shape vs given = cast_go type dims shape.locals shape.stack vs given
    instructions_go i e (checked type) shape vs given = check_go type shape.locals shape.stack vs given

-- The first state is typed, where strings have no fields and the constants of fields are of their types.
use Rattle.std.proofs.Common.{◌≡◌, ◌∙◌, ℕ, zero, suc, Bool, true, false, ◌||◌, List, [], ◌∷◌, ◌++◌, map, length, take, replicate, Option, Some, None, refl, sym, subst, ap, ◌⊎◌, inl, inr, arith}
use Rattle.std.specs.Prelude.{codes, slice_get, slice_set, if◌then◌else◌, option_and_then, FitsSigned}
use Rattle.std.specs.Int.{w32}
use Rattle.std.specs.List.{Contains}
use Rattle.std.specs.Str.{bytes_eq}
use Rattle.std.specs.Cmp.Lexicographic.{bytes_decides}
use Rattle.std.proofs.lemmas.Bool.{or_cases}
use Rattle.std.proofs.lemmas.List.{length-replicate, length-map, take-replicate}
use Rattle.std.proofs.lemmas.Option.{none-some, same_Some, slice_get-map, slice_get_within, get_or_from_slice_get}
use Rattle.jo_ids.specs.Path.{stays}
use Rattle.jo_text.specs.declared.descriptors.Base.TheVariants.{Class as OfName}
use Rattle.jo_text.specs.Scan.{names_on, read_class, letter_base, read_base, read_field}
use Rattle.jo_insn.specs.AccessFlags.{has_flag, static_flag}
use Rattle.jo_prog.specs.declared.program.Program.{Program}
use Rattle.jo_prog.specs.declared.program.Class.{Class}
use Rattle.jo_prog.specs.declared.program.Code.{Code}
use Rattle.jo_prog.specs.declared.program.Field.{Field}
use Rattle.jo_prog.specs.declared.program.Method.{Method}
use Rattle.jo_prog.specs.declared.program.TypeRef.TheVariants.{Class as OfClass, Array as OfArray}
use Rattle.jo_prog.specs.declared.program.Operand.{Operand}
use Rattle.jo_prog.specs.declared.program.Operand.TheVariants.{Unused, Int as IntOperand, Text, OfType, Member}
use Rattle.jo_prog.specs.declared.labels.Labels.{Labels}
use Rattle.jo_prog.specs.Program.{class_at, method_at, code_at}
use Rattle.jo_prog.specs.PlainCode.{is_entry_desc, IsEntry}
use Rattle.jo_prog.specs.PreludeClasses.{string_name, string_class}
use Rattle.jo_prog.specs.Constants.{string_constants, string_address, reference_to, first_value, takes_arguments, arguments_address}
use Rattle.jo_prog.specs.Hierarchy.{is_subtype, HasNoCycle}
use Rattle.jo_prog.specs.MethodTypes.{field_desc_in, params_from, method_desc_in}
use Rattle.jo_prog.specs.Types.{class_named, is_subtype_of, type_fits}
use Rattle.jo_prog.specs.Typing.{Kind, Int, Ref, Unset}
use Rattle.jo_prog.specs.Shapes.{class_kind, takes_type}
use Rattle.jo_prog.specs.InsnTyping.{receiver_kinds, param_kinds, locals_at_start, shape_at_start}
use Rattle.jo_prog.specs.Values.{Value, int, null, ref}
use Rattle.jo_prog.specs.Machine.{Thread, HeapObject, string_object, no_arguments, first_heap, first_statics, first_locals, first_frame, start}
use Rattle.jo_prog.proofs.HierarchyLemmas.{subtype_every}
use Rattle.jo_prog.proofs.WalkLemmas.{head_or_behind, none_there}
use Rattle.machine.specs.Heaps.{first_contents}
use Rattle.step_laws.specs.TypedStates.{has_objects, an_int, no_object, an_object, PlaceHasKind, unset, set, IsOnStack, Pairwise, no_more, one_more, IsReady, AreFrames, StandsAt, IsTypedThread, kind_of_desc, IsFieldContent, IsTypedObject, of_class, of_array, IsTypedState}
use Rattle.step_laws.proofs.NewLemmas.{default_holds}

-- ---- what is asked

-- java/lang/String has its number, may have objects, and these have no fields
pub record HasPlainStrings (program : Program) : Type 0 where
  pub string_named : class_named program string_name ≡ Some string_class
  pub class : Class
  pub is_there : class_at program string_class ≡ Some class
  pub made : has_objects class ≡ true
  pub no_fields : first_contents program string_class ≡ []

-- a constant is of the type of its field
abbrev pub FitsFirst : Program → List ℕ → Option Operand → Type 0
FitsFirst program desc (Some (IntOperand z)) = FitsSigned w32 z × (kind_of_desc program (field_desc_in desc) ≡ Int)
FitsFirst program desc (Some (Text text)) = desc ≡ codes "Ljava/lang/String;"
FitsFirst program desc _ = Unit {0}

abbrev pub HasSoundConstants : Program → Type 0
HasSoundConstants program = (f : ℕ) (field : Field) → slice_get program.fields f ≡ Some field → FitsFirst program field.desc field.constant

-- where a text has an address, its object stands there
abbrev pub HasTexts : Program → Labels → Type 0
HasTexts program labels = (text : List ℕ) (a : ℕ) → string_address program text ≡ Some a → slice_get (first_heap program labels) a ≡ Some string_object

-- ---- lists

in_two : {X : Type 0} (n : ℕ) (x : X) (ys : List X) (k : ℕ) (y : X) → slice_get (replicate n x ++ ys) k ≡ Some y → (x ≡ y) ⊎ Contains ys y
in_two zero x ys k y at = inr (k, slice_get_within ys k y at, get_or_from_slice_get ys k y y at)
in_two (suc n) x ys zero y at = inl (same_Some x y at)
in_two (suc n) x ys (suc k) y at = in_two n x ys k y at

at_end : {X : Type 0} (n : ℕ) (x y : X) (ys : List X) → slice_get (replicate n x ++ y ∷ ys) n ≡ Some y
at_end zero x y ys = refl
at_end (suc n) x y ys = at_end n x y ys

one_item : {A : Type 0} (x y : A) (k : ℕ) → slice_get (x ∷ []) k ≡ Some y → (k ≡ 0) × (x ≡ y)
one_item x y zero found = (refl, same_Some x y found)
one_item x y (suc k) found = absurd (omega (arith, slice_get_within (x ∷ []) (suc k) y found))

none_set : (program : Program) (heap : List HeapObject) (n : ℕ) → Pairwise (PlaceHasKind program heap) (replicate n Unset) (replicate n None)
none_set program heap zero = no_more
none_set program heap (suc n) = one_more Unset None (replicate n Unset) (replicate n None) (unset None) (none_set program heap n)

module _ (program : Program) (none : HasNoCycle program) (strings : HasPlainStrings program) where
  string_below : is_subtype program string_class string_class ≡ true
  string_below = subtype_every program none string_class string_class (stays string_class)

  -- ---- objects

  string_typed : (heap : List HeapObject) → IsTypedObject program heap string_object
  string_typed heap =
      of_class string_object string_class strings.class refl strings.is_there strings.made (ap (map (λ (content : ℕ × Value ℕ). content.0)) (sym strings.no_fields))
      (λ k content at. absurd (none-some content at))

  arguments_typed : (heap : List HeapObject) → IsTypedObject program heap no_arguments
  arguments_typed heap = of_array no_arguments (record { dims = 0; base = OfName string_name }) 0 refl refl (record { sfits = omega arith }) (λ k v at. absurd (none-some v at))

  module _ (labels : Labels) where
    first_objects : (heap : List HeapObject) (a : ℕ) (o : HeapObject) → slice_get (first_heap program labels) a ≡ Some o → IsTypedObject program heap o
    unfolding first_heap
    first_objects heap a o at = by_part (in_two (length (string_constants program)) string_object _ a o at)
      where
        by_test : (b : Bool) → Contains (if b then no_arguments ∷ [] else []) o → IsTypedObject program heap o
        by_test true among = elim (head_or_behind no_arguments [] o among) [
          | inl same ↦ subst (IsTypedObject program heap) same (arguments_typed heap)
          | inr more ↦ absurd (none_there o more)
        ]
        by_test false among = absurd (none_there o among)

        by_part : (string_object ≡ o) ⊎ Contains (if takes_arguments (method_at program labels.entry) then no_arguments ∷ [] else []) o → IsTypedObject program heap o
        by_part (inl same) = subst (IsTypedObject program heap) same (string_typed heap)
        by_part (inr among) = by_test (takes_arguments (method_at program labels.entry)) among

    arguments_there : takes_arguments (method_at program labels.entry) ≡ true → slice_get (first_heap program labels) (arguments_address program) ≡ Some no_arguments
    unfolding first_heap arguments_address
    arguments_there takes =
        ap (λ (b : Bool). slice_get (replicate (length (string_constants program)) string_object ++ (if b then no_arguments ∷ [] else [])) (length (string_constants program))) takes
        ∙ at_end (length (string_constants program)) string_object no_arguments []

    module _ (texts : HasTexts program labels) where
      abbrev heap : List HeapObject
      heap = first_heap program labels

      first_texts : (text : List ℕ) (a : ℕ) → string_address program text ≡ Some a → StandsAt program heap a (OfClass string_class)
      first_texts text a is = record { found = string_object; is_there = texts text a is; fits = string_below }

      -- ---- static fields

      string_kind : kind_of_desc program (field_desc_in (codes "Ljava/lang/String;")) ≡ Ref (OfClass string_class)
      unfolding names_on read_class letter_base read_base read_field
      string_kind = ap class_kind strings.string_named

      reference_holds : (text : List ℕ) (o : Option ℕ) → string_address program text ≡ o → IsOnStack program heap (Ref (OfClass string_class)) (reference_to o)
      reference_holds text None is = set (Ref (OfClass string_class)) null (no_object (OfClass string_class))
      reference_holds text (Some a) is =
          set (Ref (OfClass string_class)) (ref a) (an_object (OfClass string_class) a string_object (texts text a is) (taken string_below) refl)
        where
          taken : type_fits program (OfClass string_class) (OfClass string_class) ≡ true → takes_type program (OfClass string_class) (OfClass string_class) ≡ true
          taken fits = fits_taken _ fits
            where
              fits_taken : (first : Bool) {second : Bool} → second ≡ true → (first || second) ≡ true
              fits_taken true e = refl
              fits_taken false e = e

      first_holds : (class : ℕ) (name desc : List ℕ) (flags : ℕ) (o : Option Operand) → FitsFirst program desc o
          → IsOnStack program heap (kind_of_desc program (field_desc_in desc)) (first_value program (record { class = class; name = name; desc = desc; flags = flags; constant = o }))
      first_holds class name desc flags None fits = default_holds program heap desc
      first_holds class name desc flags (Some Unused) fits = default_holds program heap desc
      first_holds class name desc flags (Some (OfType type)) fits = default_holds program heap desc
      first_holds class name desc flags (Some (Member named)) fits = default_holds program heap desc
      first_holds class name desc flags (Some (IntOperand z)) fits =
          subst (λ (kind : Kind). IsOnStack program heap kind (int z)) (sym fits.1) (set Int (int z) (an_int z fits.0))
      first_holds class name desc flags (Some (Text text)) fits =
          subst (λ (kind : Kind). IsOnStack program heap kind (reference_to (string_address program text))) (sym (ap (λ (d : List ℕ). kind_of_desc program (field_desc_in d)) fits ∙ string_kind))
          (reference_holds text (string_address program text) refl)

      module _ (constants : HasSoundConstants program) where
        first_content : (f : ℕ) (field : Field) (v : Value ℕ) → slice_get program.fields f ≡ Some field → slice_get (first_statics program) f ≡ Some v → IsFieldContent program heap (f, v)
        unfolding first_statics
        first_content f field v is_field at = record {
          field = field;
          is_field = is_field;
          fits = subst (λ (w : Value ℕ). IsOnStack program heap (kind_of_desc program (field_desc_in field.desc)) w) is_first
              (first_holds field.class field.name field.desc field.flags field.constant (constants f field is_field));
        }
          where
            is_first : first_value program field ≡ v
            is_first = same_Some (first_value program field) v (sym (slice_get-map (first_value program) program.fields f ∙ ap (option_map_first) is_field) ∙ at)
              where
                option_map_first : Option Field → Option (Value ℕ)
                option_map_first None = None
                option_map_first (Some own) = Some (first_value program own)

        static_count : length (first_statics program) ≡ length program.fields
        unfolding first_statics
        static_count = length-map program.fields (first_value program)

        -- ---- the first frame

        module _ (entry : IsEntry program labels.entry) where
          abbrev no_receiver : List Kind
          no_receiver = receiver_kinds entry.method

          arguments_hold : takes_arguments (method_at program labels.entry) ≡ true
              → PlaceHasKind program heap (Ref (OfArray (record { dims = 1; base = OfName string_name }))) (Some (ref (arguments_address program)))
          arguments_hold takes =
              set (Ref (OfArray (record { dims = 1; base = OfName string_name }))) (ref (arguments_address program))
              (an_object (OfArray (record { dims = 1; base = OfName string_name })) (arguments_address program) no_arguments (arguments_there takes)
              (ap (λ (o : Option ℕ). is_subtype_of program o o) strings.string_named ∙ string_below) refl)

          locals_by : (desc : List ℕ) → is_entry_desc desc ≡ true → (b : Bool) → bytes_eq desc (codes "([Ljava/lang/String;)V") ≡ b → (b ≡ true → takes_arguments (method_at program labels.entry) ≡ true) → (count : ℕ)
              → Pairwise (PlaceHasKind program heap) (take count (param_kinds program (method_desc_in desc) ++ replicate count Unset)) (first_locals b count (arguments_address program))
          unfolding names_on read_class letter_base read_base read_field params_from method_desc_in
          locals_by desc is true e takes count =
              subst (λ (d : List ℕ). Pairwise (PlaceHasKind program heap) (take count (param_kinds program (method_desc_in d) ++ replicate count Unset)) (first_locals true count (arguments_address program)))
              (sym ((bytes_decides desc (codes "([Ljava/lang/String;)V")).0 e)) (by_count count)
            where
              by_count : (n : ℕ) → Pairwise (PlaceHasKind program heap) (take n (Ref (OfArray (record { dims = 1; base = OfName string_name })) ∷ replicate n Unset)) (slice_set (replicate n None) 0 (Some (ref (arguments_address program))))
              by_count zero = no_more
              by_count (suc n) =
                  one_more _ _ (take n (replicate (suc n) Unset)) (replicate n None) (arguments_hold (takes refl))
                  (subst (λ (kinds : List Kind). Pairwise (PlaceHasKind program heap) kinds (replicate n None)) (sym (take-replicate n (suc n) Unset (omega arith))) (none_set program heap n))
          locals_by desc is false e takes count = by_desc (or_cases (bytes_eq desc (codes "()V")) (bytes_eq desc (codes "([Ljava/lang/String;)V")) is)
            where
              by_desc : (bytes_eq desc (codes "()V") ≡ true) ⊎ (bytes_eq desc (codes "([Ljava/lang/String;)V") ≡ true)
                  → Pairwise (PlaceHasKind program heap) (take count (param_kinds program (method_desc_in desc) ++ replicate count Unset)) (replicate count None)
              by_desc (inl none) =
                  subst (λ (d : List ℕ). Pairwise (PlaceHasKind program heap) (take count (param_kinds program (method_desc_in d) ++ replicate count Unset)) (replicate count None)) (sym ((bytes_decides desc (codes "()V")).0 none))
                  (subst (λ (kinds : List Kind). Pairwise (PlaceHasKind program heap) kinds (replicate count None)) (sym (take-replicate count count Unset (omega arith))) (none_set program heap count))
              by_desc (inr some) = absurd (differ (sym e ∙ some))
                where
                  differ : false ≡ true → ⊥
                  differ h = absurd (cc)

          static_kinds : (b : Bool) → b ≡ true → (if b then [] else Ref (OfClass entry.method.class) ∷ []) ≡ []
          static_kinds true e = refl
          static_kinds false e = absurd (cc)

          takes_is : takes_arguments (method_at program labels.entry) ≡ bytes_eq entry.method.desc (codes "([Ljava/lang/String;)V")
          takes_is = ap (λ (o : Option Method). takes_arguments o) entry.found

          locals_hold : (count : ℕ) → Pairwise (PlaceHasKind program heap) (locals_at_start program entry.method count) (first_locals (takes_arguments (method_at program labels.entry)) count (arguments_address program))
          locals_hold count =
              subst (λ (kinds : List Kind). Pairwise (PlaceHasKind program heap) (take count (kinds ++ param_kinds program (method_desc_in entry.method.desc) ++ replicate count Unset)) (first_locals (takes_arguments (method_at program labels.entry)) count (arguments_address program)))
              (sym (static_kinds (has_flag static_flag entry.method.flags) entry.is_static))
              (locals_by entry.method.desc entry.shape (takes_arguments (method_at program labels.entry)) (sym takes_is) (λ e. e) count)

          ready : (code : Code) → entry.method.code ≡ Some code
              → IsReady program heap (record { method = labels.entry; pc = 0; locals = first_locals (takes_arguments (method_at program labels.entry)) code.max_locals (arguments_address program); stack = [] })
          ready code is = record {
            shape = shape_at_start program entry.method code;
            has_shape = record {
              typable = record { number = labels.entry; method = entry.method; code = code };
              is_typable = (refl, entry.found, is);
              path = [];
              is_path = refl;
              arrives = refl;
              shape_is = refl;
            };
            locals = locals_hold code.max_locals;
            stack = no_more;
          }

          code_is : code_at program labels.entry ≡ entry.method.code
          code_is = ap (λ (o : Option Method). option_and_then (λ (method : Method). method.code) o) entry.found

          frames_ready : AreFrames program heap None (first_frame program labels.entry (code_at program labels.entry))
          frames_ready = subst (λ (o : Option Code). AreFrames program heap None (first_frame program labels.entry o)) (sym code_is) (by_code entry.method.code refl)
            where
              by_code : (o : Option Code) → entry.method.code ≡ o → AreFrames program heap None (first_frame program labels.entry o)
              by_code None is = tt
              by_code (Some code) is = (ready code is, tt)

          abbrev first_thread : Thread
          first_thread = record { frames = first_frame program labels.entry (code_at program labels.entry); pending = None; object = None }

          thread_typed : IsTypedThread program heap first_thread
          thread_typed = record { frames = frames_ready; thrown = λ a is. absurd (cc); started = λ a is. absurd (cc) }

          pub first_typed : IsTypedState program (start program labels)
          first_typed = record {
            objects = first_objects heap;
            texts = first_texts;
            count = static_count;
            statics = λ f field v is_field is_static at. first_content f field v is_field at;
            cursors = length-replicate (length program.methods) 0;
            threads = λ t thread at. subst (IsTypedThread program heap) (one_item first_thread thread t at).1 thread_typed;
            first_alone = λ t thread at none_there. (one_item first_thread thread t at).0;
            one_each = λ t u one other a at be o p. (one_item first_thread one t at).0 ∙ sym (one_item first_thread other u be).0;
          }

-- What is typed stays typed on a heap that grows, and as cells are written.
use Rattle.std.proofs.Common.{◌≡◌, ◌⊎◌, ◌∙◌, ℕ, suc, zero, Bool, true, false, List, [], ◌∷◌, map, length, drop, Option, Some, None, refl, sym, ap, subst, inl, inr}
use Rattle.std.specs.Prelude.{◌==◌, slice_get, slice_set, if◌then◌else◌}
use Rattle.std.proofs.lemmas.Bool.{cases_eq, eqb-true}
use Rattle.std.proofs.lemmas.List.{length-set}
use Rattle.jo_text.specs.declared.descriptors.FieldDesc.{FieldDesc}
use Rattle.jo_prog.specs.declared.program.Program.{Program}
use Rattle.jo_prog.specs.declared.program.TypeRef.{TypeRef}
use Rattle.jo_prog.specs.declared.program.TypeRef.TheVariants.{Class as OfClass}
use Rattle.jo_prog.specs.MethodTypes.{field_desc_in}
use Rattle.jo_prog.specs.PreludeClasses.{string_class, thread_number}
use Rattle.jo_prog.specs.Types.{type_fits}
use Rattle.jo_prog.specs.Typing.{Kind}
use Rattle.jo_prog.specs.Shapes.{kind_of_type, takes_type}
use Rattle.jo_prog.specs.InsnTyping.{throwable}
use Rattle.jo_prog.specs.Values.{Value, Info, object, array, Cell}
use Rattle.jo_prog.specs.Machine.{Frame, Thread, HeapObject, State}
use Rattle.machine.specs.Invocation.{type_of}
use Rattle.machine.specs.Heaps.{with_field, with_content, on_object, with_object, field_written, element_written}
use Rattle.step_laws.specs.TypedStates.{HasKind, an_int, a_null, no_object, an_object, PlaceHasKind, unset, set, IsOnStack, Pairwise, no_more, one_more, IsReady, IsLeft, IsWaiting, AreWaiting, AreFrames, StandsAt, IsStartedAt, IsTypedThread, kind_of_desc, IsFieldContent, IsTypedObject, of_class, of_array, IsTypedState}
use Rattle.step_laws.specs.Growth.{StillStands, GrowsTo}
use Rattle.step_laws.specs.Effects.{TakesValue, in_field, in_element, in_static}

-- ---- lists

same_some : {X : Type 0} {x y : X} → Some x ≡ Some y → x ≡ y
same_some e = cc

pub set_there : {X : Type 0} (xs : List X) (k : ℕ) (x y : X) → slice_get xs k ≡ Some x → slice_get (slice_set xs k y) k ≡ Some y
set_there [] k x y e = absurd (cc)
set_there (z ∷ zs) zero x y e = refl
set_there (z ∷ zs) (suc k) x y e = set_there zs k x y e

pub set_kept : {X : Type 0} (xs : List X) (k j : ℕ) (x y : X) → (j ≡ k → ⊥) → slice_get xs j ≡ Some x → slice_get (slice_set xs k y) j ≡ Some x
set_kept [] k j x y other e = absurd (cc)
set_kept (z ∷ zs) zero zero x y other e = absurd (other refl)
set_kept (z ∷ zs) zero (suc j) x y other e = e
set_kept (z ∷ zs) (suc k) zero x y other e = e
set_kept (z ∷ zs) (suc k) (suc j) x y other e = set_kept zs k j x y (λ same. other (ap suc same)) e

pub set_read : {X : Type 0} (xs : List X) (k j : ℕ) (x y : X) → slice_get (slice_set xs k y) j ≡ Some x → ((j ≡ k) × (x ≡ y)) ⊎ (slice_get xs j ≡ Some x)
set_read [] k j x y e = absurd (cc)
set_read (z ∷ zs) zero zero x y e = inl (refl, sym (same_some e))
set_read (z ∷ zs) zero (suc j) x y e = inr e
set_read (z ∷ zs) (suc k) zero x y e = inr e
set_read (z ∷ zs) (suc k) (suc j) x y e = elim (set_read zs k j x y e) [ inl both ↦ inl (ap suc both.0, both.1) | inr before ↦ inr before ]

pub pairwise_map : {A B : Type 0} (P Q : A → B → Type 0) → ((x : A) (y : B) → P x y → Q x y) → (xs : List A) (ys : List B) → Pairwise P xs ys → Pairwise Q xs ys
pairwise_map P Q f xs ys no_more = no_more
pairwise_map P Q f xs ys (one_more x y more others h rest) = one_more x y more others (f x y h) (pairwise_map P Q f more others rest)

-- ---- a heap that grows

module _ (program : Program) (old new : List HeapObject) (grows : GrowsTo old new) where
  pub kind_kept : (kind : Kind) (v : Value ℕ) → HasKind program old kind v → HasKind program new kind v
  kind_kept kind v (an_int z f) = an_int z f
  kind_kept kind v a_null = a_null
  kind_kept kind v (no_object type) = no_object type
  kind_kept kind v (an_object type a o is takes dims) =
      let there = grows.keeps a o is in
      an_object type a there.found there.is_there (subst (λ (info : Info). takes_type program (type_of info) type ≡ true) (sym there.same_info) takes) dims

  pub place_kept : (kind : Kind) (content : Option (Value ℕ)) → PlaceHasKind program old kind content → PlaceHasKind program new kind content
  place_kept kind content (unset _) = unset content
  place_kept kind content (set _ v h) = set kind v (kind_kept kind v h)

  pub stack_kept : (kind : Kind) (v : Value ℕ) → IsOnStack program old kind v → IsOnStack program new kind v
  stack_kept kind v h = place_kept kind (Some v) h

  locals_kept : (kinds : List Kind) (locals : List (Option (Value ℕ))) → Pairwise (PlaceHasKind program old) kinds locals → Pairwise (PlaceHasKind program new) kinds locals
  locals_kept kinds locals h = pairwise_map (PlaceHasKind program old) (PlaceHasKind program new) place_kept kinds locals h

  stacks_kept : (kinds : List Kind) (stack : List (Value ℕ)) → Pairwise (IsOnStack program old) kinds stack → Pairwise (IsOnStack program new) kinds stack
  stacks_kept kinds stack h = pairwise_map (IsOnStack program old) (IsOnStack program new) stack_kept kinds stack h

  pub ready_kept : (f : Frame) → IsReady program old f → IsReady program new f
  ready_kept f h = record { shape = h.shape; has_shape = h.has_shape; locals = locals_kept h.shape.locals f.locals h.locals; stack = stacks_kept h.shape.stack f.stack h.stack }

  pub left_kept : (f : Frame) → IsLeft program old f → IsLeft program new f
  left_kept f h = record { shape = h.shape; has_shape = h.has_shape; locals = locals_kept h.shape.locals f.locals h.locals }

  pub waiting_kept : (callee : ℕ) (f : Frame) → IsWaiting program old callee f → IsWaiting program new callee f
  waiting_kept callee f h = record {
    shape = h.shape;
    has_shape = h.has_shape;
    locals = locals_kept h.shape.locals f.locals h.locals;
    op = h.op;
    owner = h.owner;
    named = h.named;
    count = h.count;
    next = h.next;
    at_call = h.at_call;
    stack = stacks_kept (drop h.count h.shape.stack) f.stack h.stack;
    same_result = h.same_result;
  }

  pub all_waiting_kept : (callee : ℕ) (fs : List Frame) → AreWaiting program old callee fs → AreWaiting program new callee fs
  all_waiting_kept callee [] h = tt
  all_waiting_kept callee (f ∷ below) h = (waiting_kept callee f h.0, all_waiting_kept f.method below h.1)

  pub frames_kept : (pending : Option ℕ) (fs : List Frame) → AreFrames program old pending fs → AreFrames program new pending fs
  frames_kept pending [] h = tt
  frames_kept None (f ∷ below) h = (ready_kept f h.0, all_waiting_kept f.method below h.1)
  frames_kept (Some a) (f ∷ below) h = (left_kept f h.0, all_waiting_kept f.method below h.1)

  pub stands_kept : (a : ℕ) (type : TypeRef) → StandsAt program old a type → StandsAt program new a type
  stands_kept a type h =
      let there = grows.keeps a h.found h.is_there in
      record { found = there.found; is_there = there.is_there; fits = subst (λ (info : Info). type_fits program (type_of info) type ≡ true) (sym there.same_info) h.fits }

  pub started_kept : (a : ℕ) → IsStartedAt program old a → IsStartedAt program new a
  started_kept a h =
      let there = grows.keeps a h.found h.is_there in
      record {
        found = there.found;
        is_there = there.is_there;
        is_thread = subst (λ (info : Info). type_fits program (type_of info) (OfClass thread_number) ≡ true) (sym there.same_info) h.is_thread;
        marked = there.started h.marked;
      }

  pub thread_kept : (thread : Thread) → IsTypedThread program old thread → IsTypedThread program new thread
  thread_kept thread h = record {
    frames = frames_kept thread.pending thread.frames h.frames;
    thrown = λ a is. stands_kept a throwable (h.thrown a is);
    started = λ a is. started_kept a (h.started a is);
  }

  pub content_kept : (content : ℕ × Value ℕ) → IsFieldContent program old content → IsFieldContent program new content
  content_kept content h = record { field = h.field; is_field = h.is_field; fits = stack_kept (kind_of_desc program (field_desc_in h.field.desc)) content.1 h.fits }

  pub object_kept : (o : HeapObject) → IsTypedObject program old o → IsTypedObject program new o
  object_kept o (of_class _ c class is found made names contents) = of_class o c class is found made names (λ k content at. content_kept content (contents k content at))
  object_kept o (of_array _ type count is long fits elements) =
      of_array o type count is long fits (λ k v at. stack_kept (kind_of_type program type) v (elements k v at))

-- ---- a state on a heap that grows, whose objects and statics are typed

pub state_kept : (program : Program) (s : State) (heap : List HeapObject) (statics : List (Value ℕ)) → IsTypedState program s → GrowsTo s.heap heap
    → ((a : ℕ) (o : HeapObject) → slice_get heap a ≡ Some o → IsTypedObject program heap o)
    → length statics ≡ length s.statics
    → ((f : ℕ) (v : Value ℕ) → slice_get statics f ≡ Some v → (slice_get s.statics f ≡ Some v) ⊎ IsFieldContent program heap (f, v))
    → IsTypedState program (record { heap = heap; statics = statics; cursors = s.cursors; threads = s.threads })
state_kept program s heap statics state grows objects same given = record {
  objects = objects;
  texts = λ text a is. stands_kept program s.heap heap grows a (OfClass string_class) (state.texts text a is);
  count = same ∙ state.count;
  statics = λ f own v is_field is_static at. elim (given f v at) [
    | inl before ↦ content_kept program s.heap heap grows (f, v) (state.statics f own v is_field is_static before)
    | inr content ↦ content
  ];
  cursors = state.cursors;
  threads = λ t thread at. thread_kept program s.heap heap grows thread (state.threads t thread at);
  first_alone = state.first_alone;
  one_each = state.one_each;
}

-- ---- an object whose content changes

pub changed_grows : (heap : List HeapObject) (a : ℕ) (o o' : HeapObject) → slice_get heap a ≡ Some o → o'.info ≡ o.info → (o.started ≡ true → o'.started ≡ true) → GrowsTo heap (slice_set heap a o')
changed_grows heap a o o' is info started = record { keeps = λ b p at. by_place b p at (cases_eq b a) }
  where
    by_place : (b : ℕ) (p : HeapObject) → slice_get heap b ≡ Some p → (b ≡ a) ⊎ (b ≡ a → ⊥) → StillStands (slice_set heap a o') b p
    by_place b p at (inl same) =
        let objects : o ≡ p = same_some (sym is ∙ sym (ap (slice_get heap) same) ∙ at) in
        record {
          found = o';
          is_there = ap (slice_get (slice_set heap a o')) same ∙ set_there heap a o o' is;
          same_info = info ∙ ap (λ (x : HeapObject). x.info) objects;
          started = λ h. started (ap (λ (x : HeapObject). x.started) objects ∙ h);
        }
    by_place b p at (inr other) = record { found = p; is_there = set_kept heap a b p o' other at; same_info = refl; started = λ h. h }

module _ (program : Program) (s : State) (state : IsTypedState program s) (a : ℕ) (o o' : HeapObject) (is : slice_get s.heap a ≡ Some o)
    (info : o'.info ≡ o.info) (started : o.started ≡ true → o'.started ≡ true) (typed : IsTypedObject program s.heap o') where
  pub object_changed : IsTypedState program (with_object s a o')
  object_changed = state_kept program s (slice_set s.heap a o') s.statics state grows objects refl (λ f v at. inl at)
    where
      grows : GrowsTo s.heap (slice_set s.heap a o')
      grows = changed_grows s.heap a o o' is info started

      objects : (b : ℕ) (p : HeapObject) → slice_get (slice_set s.heap a o') b ≡ Some p → IsTypedObject program (slice_set s.heap a o') p
      objects b p at = elim (set_read s.heap a b p o' at) [
        | inl both ↦ subst (IsTypedObject program (slice_set s.heap a o')) (sym both.1) (object_kept program s.heap (slice_set s.heap a o') grows o' typed)
        | inr before ↦ object_kept program s.heap (slice_set s.heap a o') grows p (state.objects b p before)
      ]

-- ---- a field, an element, a static field

same_names : (fields : List (ℕ × Value ℕ)) (f : ℕ) (v : Value ℕ) → map (λ content. content.0) (with_field fields f v) ≡ map (λ content. content.0) fields
same_names [] f v = refl
same_names (first ∷ rest) f v = by_test (first.0 == f) refl (same_names rest f v)
  where
    by_test : (b : Bool) → (first.0 == f) ≡ b → map (λ content. content.0) (with_field rest f v) ≡ map (λ content. content.0) rest
        → map (λ content. content.0) (if b then (f, v) ∷ rest else first ∷ with_field rest f v) ≡ first.0 ∷ map (λ content. content.0) rest
    by_test true e later = ap (λ (n : ℕ). n ∷ map (λ content. content.0) rest) (sym (eqb-true first.0 f e))
    by_test false e later = ap (λ (ns : List ℕ). first.0 ∷ ns) later

field_read : (fields : List (ℕ × Value ℕ)) (f : ℕ) (v : Value ℕ) (k : ℕ) (content : ℕ × Value ℕ) → slice_get (with_field fields f v) k ≡ Some content
    → (content ≡ (f, v)) ⊎ (slice_get fields k ≡ Some content)
field_read [] f v k content e = inr e
field_read (first ∷ rest) f v k content e = by_test (first.0 == f) k e (λ j later. field_read rest f v j content later)
  where
    by_test : (b : Bool) (k : ℕ) → slice_get (if b then (f, v) ∷ rest else first ∷ with_field rest f v) k ≡ Some content
        → ((j : ℕ) → slice_get (with_field rest f v) j ≡ Some content → (content ≡ (f, v)) ⊎ (slice_get rest j ≡ Some content))
        → (content ≡ (f, v)) ⊎ (slice_get (first ∷ rest) k ≡ Some content)
    by_test true zero at later = inl (sym (same_some at))
    by_test true (suc j) at later = inr at
    by_test false zero at later = inr at
    by_test false (suc j) at later = later j at

no_class : (c count : ℕ) (type : FieldDesc) → object c ≡ array type count → ⊥
no_class c count type e = absurd (cc)

abbrev type_within : FieldDesc → Info → FieldDesc
type_within other (object c) = other
type_within other (array type count) = type

field_typed : (program : Program) (heap : List HeapObject) (o : HeapObject) (c f : ℕ) (v : Value ℕ) → o.info ≡ object c → IsFieldContent program heap (f, v) → IsTypedObject program heap o
    → IsTypedObject program heap (field_written o f v)
field_typed program heap o c f v is content (of_class _ own class info found made names contents) =
    of_class (field_written o f v) own class info found made (same_names o.fields f v ∙ names) (λ k other at. elim (field_read o.fields f v k other at) [
      | inl same ↦ subst (IsFieldContent program heap) (sym same) content
      | inr before ↦ contents k other before
    ])
field_typed program heap o c f v is content (of_array _ type count info long fits elements) = absurd (no_class c count type (sym is ∙ info))

element_typed : (program : Program) (heap : List HeapObject) (o : HeapObject) (type : FieldDesc) (count i : ℕ) (v : Value ℕ) → o.info ≡ array type count
    → IsOnStack program heap (kind_of_type program type) v → IsTypedObject program heap o → IsTypedObject program heap (element_written o i v)
element_typed program heap o type count i v is holds (of_class _ c class info found made names contents) = absurd (no_class c count type (sym info ∙ is))
element_typed program heap o type count i v is holds (of_array _ own size info long fits elements) =
    of_array (element_written o i v) own size info (length-set o.elements i v ∙ long) fits (λ k w at. elim (set_read o.elements i k w v at) [
      | inl both ↦
          let types : type ≡ own = ap (type_within type) (sym is ∙ info) in
          subst (λ (x : Value ℕ). IsOnStack program heap (kind_of_type program own) x) (sym both.1) (subst (λ (t : FieldDesc). IsOnStack program heap (kind_of_type program t) v) types holds)
      | inr before ↦ elements k w before
    ])

pub written_kept : (program : Program) (s : State) → IsTypedState program s → (cell : Cell ℕ) (v : Value ℕ) → TakesValue program s cell v → IsTypedState program (with_content s cell v)
written_kept program s state cell v (in_field a f o c _ is info content) =
    subst (λ (x : Option HeapObject). IsTypedState program (on_object s a x (λ p. field_written p f v))) (sym is)
    (object_changed program s state a o (field_written o f v) is refl (λ h. h) (field_typed program s.heap o c f v info content (state.objects a o is)))
written_kept program s state cell v (in_element a i o type count _ is info holds) =
    subst (λ (x : Option HeapObject). IsTypedState program (on_object s a x (λ p. element_written p i v))) (sym is)
    (object_changed program s state a o (element_written o i v) is refl (λ h. h) (element_typed program s.heap o type count i v info holds (state.objects a o is)))
written_kept program s state cell v (in_static f _ content) =
    state_kept program s s.heap (slice_set s.statics f v) state (record { keeps = λ a o is. record { found = o; is_there = is; same_info = refl; started = λ h. h } }) state.objects (length-set s.statics f v)
    (λ g w at. elim (set_read s.statics f g w v at) [
      | inl both ↦ inr (subst (λ (x : ℕ × Value ℕ). IsFieldContent program s.heap x) (sym (ap (λ (n : ℕ). (n, w)) both.0 ∙ ap (λ (x : Value ℕ). (f, x)) both.1)) content)
      | inr before ↦ inl before
    ])

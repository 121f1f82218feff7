-- Lists of objects and of fields.
use Rattle.std.proofs.Common.{◌-◌, append_assoc, append-nil, ◌≡◌, ◌∙◌, sym, ap, refl, subst, ℕ, zero, suc, ◌<◌, Bool, true, false, List, [], ◌∷◌, ◌++◌, length, get_or, map, Option, Some, None, option_map, slice_get, slice_set, arith}
use Rattle.std.proofs.Math.ListN.{set, replicate}
use Rattle.std.specs.List.{flat_map, position_or_len}
use Rattle.std.proofs.lemmas.List.{map-set}
use Rattle.std.proofs.lemmas.Option.{slice_get-map, slice_get_read}
use Rattle.jo_prog.specs.declared.program.Program.{Program}
use Rattle.std.specs.Option.{option_to_list}
use Rattle.jo_prog.specs.declared.program.Class.{Class}
use Rattle.jo_prog.specs.Program.{class_at}
use Rattle.jo_prog.specs.Values as machine
use Rattle.jo_prog.specs.Calls.{superclass_at}
use Rattle.jo_prog.specs.Hierarchy.{superclass_of, superclasses}
use Rattle.jo_prog.specs.Walks.{walk}
use Rattle.jo_prog.specs.Machine.{HeapObject as MachineObject, State}
use Rattle.machine.specs.Heaps.{own_contents, first_contents, with_field, on_object}
use Rattle.jvm_values.specs.declared.heap.FieldValue.{FieldValue}
use Rattle.jvm_values.specs.declared.heap.HeapObject.{HeapObject}
use Rattle.jvm_values.specs.declared.values.Value.{Value}
use Rattle.jvm_values.specs.Values.{value_of}
use Rattle.jvm_values.specs.Heaps.{content_of, is_field, object_of, changed, changed_if, contents_up}

-- the object that was read is replaced
pub object_changed : (os : List HeapObject) (n a : ℕ) (was is : HeapObject) (change : MachineObject → MachineObject) → n ≡ length os → a < n → was ≡ get_or os a was → object_of is ≡ change (object_of was) → map object_of (slice_set os a is) ≡ changed (map object_of os) a change
object_changed os n a was is change same within read by =
    let at : slice_get (map object_of os) a ≡ Some (object_of was) = slice_get-map object_of os a ∙ ap (option_map object_of) (slice_get_read os n a was same within read) in
    rw at (map-set object_of os a is ∙ ap (slice_set (map object_of os) a) by)

-- no object is there
pub nothing_changed : (os : List MachineObject) (a : ℕ) (change : MachineObject → MachineObject) → slice_get os a ≡ None → os ≡ changed os a change
nothing_changed os a change none = rw none refl

pub replicated : {A B : Type 0} (f : A → B) (n : ℕ) (x : A) → map f (replicate n x) ≡ replicate n (f x)
replicated f zero x = refl
replicated f (suc n) x = ap (λ xs. f x ∷ xs) (replicated f n x)

-- the first field with a number is set, or none where the place is the end
pub value_set : (own : List FieldValue) (f : ℕ) (v : Value) → map content_of (slice_set own (position_or_len (is_field f) own) (record { field = f; value = v })) ≡ with_field (map content_of own) f (value_of v)
value_set [] f v = refl
value_set (first ∷ rest) f v = by_test (is_field f first) refl (value_set rest f v)
  where
    by_test : (b : Bool) → is_field f first ≡ b → map content_of (slice_set rest (position_or_len (is_field f) rest) (record { field = f; value = v })) ≡ with_field (map content_of rest) f (value_of v) → map content_of (slice_set (first ∷ rest) (position_or_len (is_field f) (first ∷ rest)) (record { field = f; value = v })) ≡ with_field (map content_of (first ∷ rest)) f (value_of v)
    by_test true is behind = rw is refl
    by_test false is behind =
        let place : position_or_len (is_field f) (first ∷ rest) ≡ suc (position_or_len (is_field f) rest) = rw is (omega arith) in
        subst (λ (k : ℕ). map content_of (slice_set (first ∷ rest) k (record { field = f; value = v })) ≡ with_field (map content_of (first ∷ rest)) f (value_of v)) (sym place)
        (rw is (ap (λ fs. content_of first ∷ fs) behind))

-- a state's heap with a changed object
pub state_changed : (s : State) (a : ℕ) (change : MachineObject → MachineObject) → on_object s a (slice_get s.heap a) change ≡ record { heap = changed s.heap a change; statics = s.statics; cursors = s.cursors; threads = s.threads }
state_changed s a change = by_object (slice_get s.heap a)
  where
    by_object : (o : Option MachineObject) → on_object s a o change ≡ record { heap = changed_if s.heap a o change; statics = s.statics; cursors = s.cursors; threads = s.threads }
    by_object None = refl
    by_object (Some o) = refl

-- ---- the fields of a class and of those above it

pub none_above : (program : Program) (n : ℕ) → contents_up program n None ≡ []
none_above program zero = refl
none_above program (suc n) = refl

-- one class more, with its superclass still to come
pub one_class : (program : Program) (left a b : ℕ) (before new whole : List (ℕ × machine.Value ℕ)) → 0 < left → before ++ contents_up program left (Some a) ≡ whole → new ≡ before ++ own_contents program (class_at program a) → superclass_at program a ≡ Some b → new ++ contents_up program (left - 1) (Some b) ≡ whole
one_class program zero a b before new whole some is added up = absurd (omega arith)
one_class program (suc n) a b before new whole some is added up =
    let less : suc n - 1 ≡ n = omega arith in
    rw (less, added, append_assoc) (rw up at is)

-- the last class, which has none above it
pub last_class : (program : Program) (left a : ℕ) (before new whole : List (ℕ × machine.Value ℕ)) → 0 < left → before ++ contents_up program left (Some a) ≡ whole → new ≡ before ++ own_contents program (class_at program a) → superclass_at program a ≡ None → new ≡ whole
last_class program zero a before new whole some is added up = absurd (omega arith)
last_class program (suc n) a before new whole some is added up =
    added ∙ simp append-nil at (rw (up, none_above program n) at is)

pub up_is : (program : Program) (n c : ℕ) → contents_up program n (Some c) ≡ flat_map (λ above. own_contents program (class_at program above)) (walk n (superclass_of program) c)
up_is program zero c = refl
up_is program (suc n) c = by_class (class_at program c) refl (up_is program n)
  where
    by_superclass : (above : Option ℕ) → superclass_at program c ≡ above → superclass_of program c ≡ option_to_list above → ((s : ℕ) → contents_up program n (Some s) ≡ flat_map (λ above. own_contents program (class_at program above)) (walk n (superclass_of program) s)) → contents_up program (suc n) (Some c) ≡ flat_map (λ above. own_contents program (class_at program above)) (walk (suc n) (superclass_of program) c)
    by_superclass None up is behind = rw (up, is, none_above program n) refl
    by_superclass (Some s) up is behind =
        let whole = ap (flat_map (λ above. own_contents program (class_at program above))) (append-nil (walk n (superclass_of program) s)) in
        rw (up, is) (ap (λ xs. own_contents program (class_at program c) ++ xs) (behind s ∙ sym whole))

    by_class : (class : Option Class) → class_at program c ≡ class → ((s : ℕ) → contents_up program n (Some s) ≡ flat_map (λ above. own_contents program (class_at program above)) (walk n (superclass_of program) s)) → contents_up program (suc n) (Some c) ≡ flat_map (λ above. own_contents program (class_at program above)) (walk (suc n) (superclass_of program) c)
    by_class None is behind = by_superclass None (rw is refl) (rw is refl) behind
    by_class (Some class) is behind = by_superclass class.superclass (rw is refl) (rw is refl) behind

-- so many steps give the first contents
pub first_contents_up : (program : Program) (c : ℕ) → contents_up program (suc (length program.classes)) (Some c) ≡ first_contents program c
unfolding superclasses
first_contents_up program c = up_is program (suc (length program.classes)) c

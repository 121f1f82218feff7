-- Objects, arrays and static fields (JVM Specification SE 8, 2.4, 2.7 and 6.5).
use Rattle.std.specs.Prelude.{ℕ, zero, ◌==◌, not, Bool, true, false, ◌&&◌, ◌||◌, if◌then◌else◌, pos, List, [], ◌∷◌, ◌++◌, length, map, filter, flat_map, replicate, Option, Some, None, slice_get, slice_set}
use Rattle.jo_text.specs.declared.descriptors.Base.{Base}
use Rattle.jo_text.specs.declared.descriptors.Base.TheVariants.{Class as OfName}
use Rattle.jo_text.specs.declared.descriptors.FieldDesc.{FieldDesc}
use Rattle.jo_insn.specs.AccessFlags.{has_flag, static_flag}
use Rattle.jo_prog.specs.declared.program.Program.{Program}
use Rattle.jo_prog.specs.declared.program.Class.{Class}
use Rattle.jo_prog.specs.declared.program.Field.{Field}
use Rattle.jo_prog.specs.Program.{class_at}
use Rattle.jo_prog.specs.Constants.{default_value}
use Rattle.jo_prog.specs.Hierarchy.{superclasses}
use Rattle.jo_prog.specs.Values.{Value, int, null, ref, Info, object, array, Cell, field, element, static, cursor, started}
use Rattle.jo_prog.specs.Machine.{HeapObject, State}

-- ---- what stands there first (2.3, 2.4)

abbrev pub is_class_type : Base → Bool
is_class_type (OfName name) = true
is_class_type _ = false

abbrev pub first_element : FieldDesc → Value ℕ
first_element type = if type.dims == 0 && not (is_class_type type.base) then int (pos 0) else null

-- a field of an object, with its value
abbrev pub first_content : ℕ → Option Field → List (ℕ × Value ℕ)
first_content f None = []
first_content f (Some own) = if has_flag static_flag own.flags then [] else (f, default_value own.desc) ∷ []

abbrev pub own_contents : Program → Option Class → List (ℕ × Value ℕ)
own_contents program None = []
own_contents program (Some class) = flat_map (λ f. first_content f (slice_get program.fields f)) class.fields

-- the fields of a class and of those above it
abbrev pub first_contents : Program → ℕ → List (ℕ × Value ℕ)
first_contents program c = flat_map (λ above. own_contents program (class_at program above)) (superclasses program c)

abbrev pub new_object : Program → Info → HeapObject
new_object program (object c) = record { info = object c; fields = first_contents program c; elements = []; started = false }
new_object program (array type length) = record { info = array type length; fields = []; elements = replicate length (first_element type); started = false }

-- ---- cells

abbrev pub field_content : List (ℕ × Value ℕ) → ℕ → Option (Value ℕ)
field_content [] f = None
field_content (first ∷ rest) f = if first.0 == f then Some first.1 else field_content rest f

abbrev pub with_field : List (ℕ × Value ℕ) → ℕ → Value ℕ → List (ℕ × Value ℕ)
with_field [] f v = []
with_field (first ∷ rest) f v = if first.0 == f then (f, v) ∷ rest else first ∷ with_field rest f v

abbrev pub field_of : Option HeapObject → ℕ → Option (Value ℕ)
field_of None f = None
field_of (Some o) f = field_content o.fields f

abbrev pub element_of : Option HeapObject → ℕ → Option (Value ℕ)
element_of None i = None
element_of (Some o) i = slice_get o.elements i

-- the value in a cell; a cursor and a flag hold none
abbrev pub content : State → Cell ℕ → Option (Value ℕ)
content s (field a f) = field_of (slice_get s.heap a) f
content s (element a i) = element_of (slice_get s.heap a) i
content s (static f) = slice_get s.statics f
content s (cursor source) = None
content s (started a) = None

abbrev pub with_object : State → ℕ → HeapObject → State
with_object s a o = record { heap = slice_set s.heap a o; statics = s.statics; cursors = s.cursors; threads = s.threads }

abbrev pub field_written : HeapObject → ℕ → Value ℕ → HeapObject
field_written o f v = record { info = o.info; fields = with_field o.fields f v; elements = o.elements; started = o.started }

abbrev pub element_written : HeapObject → ℕ → Value ℕ → HeapObject
element_written o i v = record { info = o.info; fields = o.fields; elements = slice_set o.elements i v; started = o.started }

abbrev pub on_object : State → ℕ → Option HeapObject → (HeapObject → HeapObject) → State
on_object s a None change = s
on_object s a (Some o) change = with_object s a (change o)

abbrev pub with_static : State → ℕ → Value ℕ → State
with_static s f v = record { heap = s.heap; statics = slice_set s.statics f v; cursors = s.cursors; threads = s.threads }

-- the state with a value in a cell
abbrev pub with_content : State → Cell ℕ → Value ℕ → State
with_content s (field a f) v = on_object s a (slice_get s.heap a) (λ o. field_written o f v)
with_content s (element a i) v = on_object s a (slice_get s.heap a) (λ o. element_written o i v)
with_content s (static f) v = with_static s f v
with_content s (cursor source) v = s
with_content s (started a) v = s

-- ---- new objects, threads that are started

abbrev pub with_new : State → HeapObject → State
with_new s o = record { heap = s.heap ++ o ∷ []; statics = s.statics; cursors = s.cursors; threads = s.threads }

-- the address of the next object
abbrev pub new_address : State → ℕ
new_address s = length s.heap

abbrev pub marked_started : HeapObject → HeapObject
marked_started o = record { info = o.info; fields = o.fields; elements = o.elements; started = true }

abbrev pub with_started : State → ℕ → State
with_started s a = on_object s a (slice_get s.heap a) marked_started

abbrev pub is_marked : Option HeapObject → Bool
is_marked None = false
is_marked (Some o) = o.started

-- the thread object at an address was started
abbrev pub was_started : State → ℕ → Bool
was_started s a = is_marked (slice_get s.heap a)

-- What each instruction does with the shape of its values (JVM Specification SE 8, 6.5). The proofs show that this is the machine's exec.
use Rattle.std.specs.Prelude.{ℕ, ◌==◌, Bool, true, false, if◌then◌else◌, ℤ, pos, unsigned_abs, List, Option, Some, None, slice_get}
use Rattle.std.specs.Int.{w32, int_wrapping_add}
use Rattle.jo_text.specs.declared.descriptors.FieldDesc.{FieldDesc}
use Rattle.jo_prog.specs.declared.program.Program.{Program}
use Rattle.jo_prog.specs.declared.program.TypeRef.{TypeRef}
use Rattle.jo_prog.specs.declared.sites.Cause.TheVariants.{NullBase, BadIndex}
use Rattle.jo_prog.specs.Values.{Value, int, null, Info, object, array, field, static}
use Rattle.jo_prog.specs.Machine.{HeapObject, Thread, State, info_at}
use Rattle.machine.specs.Arithmetic.{int_op, int_test, narrow, negated}
use Rattle.machine.specs.Instructions.{Instruction}
use Rattle.machine.specs.Execution.{Outcome, puts, jumps, raises, throws_at, returns, only, pushes_one, writes, content_pushed, kept, bool_int, is_inside, stored_element, measured, computed, jumps_if, reference_test, null_test, switched, created_array, cast_to, cell_read, exec}
use Rattle.machine.specs.Heaps.{field_of, element_of}
use Rattle.machine.specs.Steps.{ways, fits, read_from}
pub use Rattle.jvm_values.specs.Types.{info_in, of_type}
use Rattle.jvm_exec.specs.Shapes.{no_value, one_value, one_int, two_ints, one_reference, two_references, on_array, stored_on_array, on_object}

-- what the machine does with values in a state
abbrev pub executes : Program → State → Instruction → List (Value ℕ) → Option (Outcome ℕ)
executes program s instruction values =
    exec (ways program s) (fits program) instruction (read_from s (cell_read (info_at s) instruction values)) values

-- a state with this heap and these static fields
abbrev pub state_with : List HeapObject → List (Value ℕ) → List ℕ → List Thread → State
state_with heap statics cursors threads = record { heap = heap; statics = statics; cursors = cursors; threads = threads }

-- where the values have that shape
abbrev pub bind : {B : Type 0} → Option B → (B → Option (Outcome ℕ)) → Option (Outcome ℕ)
bind None f = None
bind (Some x) f = f x

-- null is no base
abbrev pub on_base : Option ℕ → (ℕ → Option (Outcome ℕ)) → Option (Outcome ℕ)
on_base None f = only (raises NullBase)
on_base (Some a) f = f a

abbrev pub with_none : Option (Outcome ℕ) → List (Value ℕ) → Option (Outcome ℕ)
with_none outcome values = if no_value values then outcome else None

abbrev pub loaded : List (Value ℕ) → Option (Outcome ℕ)
loaded values = bind (one_value values) (λ v. pushes_one v)

abbrev pub stored : ℕ → List (Value ℕ) → Option (Outcome ℕ)
stored k values = bind (one_value values) (λ v. only (puts k v))

abbrev pub incremented : ℕ → ℤ → List (Value ℕ) → Option (Outcome ℕ)
incremented k by values = bind (one_int values) (λ x. only (puts k (int (int_wrapping_add w32 x by))))

abbrev pub computed_by : ℕ → List (Value ℕ) → Option (Outcome ℕ)
computed_by op values = bind (two_ints values) (λ found. computed (int_op op found.0 found.1))

abbrev pub negated_one : List (Value ℕ) → Option (Outcome ℕ)
negated_one values = bind (one_int values) (λ x. pushes_one (int (negated x)))

abbrev pub narrowed : ℕ → List (Value ℕ) → Option (Outcome ℕ)
narrowed op values = bind (one_int values) (λ x. pushes_one (int (narrow op x)))

abbrev pub tested : ℕ → ℕ → List (Value ℕ) → Option (Outcome ℕ)
tested op target values = bind (one_int values) (λ x. jumps_if target (int_test op x (pos 0)))

abbrev pub compared_ints : ℕ → ℕ → List (Value ℕ) → Option (Outcome ℕ)
compared_ints op target values = bind (two_ints values) (λ found. jumps_if target (int_test op found.0 found.1))

abbrev pub same_address : Option ℕ → Option ℕ → Bool
same_address None None = true
same_address None (Some b) = false
same_address (Some a) None = false
same_address (Some a) (Some b) = a == b

abbrev pub compared_references : ℕ → ℕ → List (Value ℕ) → Option (Outcome ℕ)
compared_references op target values =
    bind (two_references values) (λ found. jumps_if target (reference_test op (same_address found.0 found.1)))

abbrev pub is_null : Option ℕ → Bool
is_null None = true
is_null (Some a) = false

abbrev pub null_tested : ℕ → ℕ → List (Value ℕ) → Option (Outcome ℕ)
null_tested op target values = bind (one_reference values) (λ found. jumps_if target (null_test op (is_null found)))

abbrev pub switched_to : List (ℤ × ℕ) → ℕ → List (Value ℕ) → Option (Outcome ℕ)
switched_to cases other values = bind (one_int values) (λ z. only (jumps (switched z cases other)))

abbrev pub returned : FieldDesc → List (Value ℕ) → Option (Outcome ℕ)
returned type values = bind (one_value values) (λ v. only (returns (Some (kept type v))))

abbrev pub static_put : ℕ → FieldDesc → List (Value ℕ) → Option (Outcome ℕ)
static_put f type values = bind (one_value values) (λ v. writes (static f) (kept type v))

abbrev pub field_got : List HeapObject → ℕ → List (Value ℕ) → Option (Outcome ℕ)
field_got heap f values = bind (one_reference values) (λ found. on_base found (λ a. content_pushed (field_of (slice_get heap a) f)))

abbrev pub field_put : ℕ → FieldDesc → List (Value ℕ) → Option (Outcome ℕ)
field_put f type values = bind (on_object values) (λ found. on_base found.1 (λ a. writes (field a f) (kept type found.0)))

abbrev pub array_created : FieldDesc → List (Value ℕ) → Option (Outcome ℕ)
array_created type values = bind (one_int values) (λ n. created_array type n)

abbrev pub array_measured : List HeapObject → List (Value ℕ) → Option (Outcome ℕ)
array_measured heap values = bind (one_reference values) (λ found. on_base found (λ a. measured (info_in heap a)))

abbrev pub thrown : List (Value ℕ) → Option (Outcome ℕ)
thrown values = bind (one_reference values) (λ found. on_base found (λ a. only (throws_at a)))

abbrev pub cast_one : Program → List HeapObject → TypeRef → Option ℕ → Option (Outcome ℕ)
cast_one program heap type None = pushes_one null
cast_one program heap type (Some a) = cast_to a (of_type program heap type a)

abbrev pub cast_of : Program → List HeapObject → TypeRef → List (Value ℕ) → Option (Outcome ℕ)
cast_of program heap type values = bind (one_reference values) (λ found. cast_one program heap type found)

abbrev pub check_one : Program → List HeapObject → TypeRef → Option ℕ → Option (Outcome ℕ)
check_one program heap type None = pushes_one (int (pos 0))
check_one program heap type (Some a) = pushes_one (int (bool_int (of_type program heap type a)))

abbrev pub checked : Program → List HeapObject → TypeRef → List (Value ℕ) → Option (Outcome ℕ)
checked program heap type values = bind (one_reference values) (λ found. check_one program heap type found)

abbrev pub element_from : List HeapObject → ℕ → ℤ → Info → Option (Outcome ℕ)
element_from heap a i (object c) = None
element_from heap a i (array type length) =
    if is_inside i length then content_pushed (element_of (slice_get heap a) (unsigned_abs i)) else only (raises BadIndex)

abbrev pub element_loaded : List HeapObject → List (Value ℕ) → Option (Outcome ℕ)
element_loaded heap values = bind (on_array values) (λ found. on_base found.1 (λ a. element_from heap a found.0 (info_in heap a)))

abbrev pub element_stored : Program → List HeapObject → List (Value ℕ) → Option (Outcome ℕ)
element_stored program heap values =
    bind (stored_on_array values) (λ found. on_base found.1.1 (λ a. stored_element (fits program) (info_in heap) found.0 found.1.0 a (info_in heap a)))

-- Objects and arrays, as the program holds them (JVM Specification SE 8, 2.4 and 2.7).
use Rattle.std.specs.Prelude.{ℕ, zero, suc, ◌==◌, Bool, List, [], ◌++◌, map, Option, Some, None, slice_get, slice_set}
use Rattle.jo_prog.specs.declared.program.Program.{Program}
use Rattle.jo_prog.specs.Program.{class_at}
use Rattle.jo_prog.specs.Calls.{superclass_at}
use Rattle.jo_prog.specs.Values as machine
use Rattle.jo_prog.specs.Machine.{HeapObject as MachineObject}
use Rattle.machine.specs.Heaps.{own_contents}
use Rattle.jvm_values.specs.declared.heap.FieldValue.{FieldValue}
use Rattle.jvm_values.specs.declared.heap.HeapObject.{HeapObject}
use Rattle.jvm_values.specs.Values.{value_of, info_of}

abbrev pub content_of : FieldValue → ℕ × machine.Value ℕ
content_of own = (own.field, value_of own.value)

abbrev pub is_field : ℕ → FieldValue → Bool
is_field f own = own.field == f

abbrev pub object_of : HeapObject → MachineObject
object_of o = record {
  info = info_of o.info;
  fields = map content_of o.fields.items;
  elements = map value_of o.elements.items;
  started = o.started;
}

-- a heap in which the object at an address is changed, if one is there
abbrev pub changed_if : List MachineObject → ℕ → Option MachineObject → (MachineObject → MachineObject) → List MachineObject
changed_if heap a None change = heap
changed_if heap a (Some o) change = slice_set heap a (change o)

abbrev pub changed : List MachineObject → ℕ → (MachineObject → MachineObject) → List MachineObject
changed heap a change = changed_if heap a (slice_get heap a) change

-- the first contents of a class and of those above it, so many classes at most
abbrev pub contents_up : Program → ℕ → Option ℕ → List (ℕ × machine.Value ℕ)
contents_up program zero c = []
contents_up program (suc steps) None = []
contents_up program (suc steps) (Some c) = own_contents program (class_at program c) ++ contents_up program steps (superclass_at program c)

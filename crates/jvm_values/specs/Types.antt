-- What stands at an address, and whether it is of a type (JVM Specification SE 8, 6.5, checkcast and instanceof).
use Rattle.std.specs.Prelude.{ℕ, Bool, List, slice_get}
use Rattle.jo_prog.specs.declared.program.Program.{Program}
use Rattle.jo_prog.specs.declared.program.TypeRef.{TypeRef}
use Rattle.jo_prog.specs.Values.{Info}
use Rattle.jo_prog.specs.Machine.{HeapObject, info_of}
use Rattle.machine.specs.Steps.{fits}

abbrev pub info_in : List HeapObject → ℕ → Info
info_in heap a = info_of (slice_get heap a)

abbrev pub of_type : Program → List HeapObject → TypeRef → ℕ → Bool
of_type program heap type a = (fits program).of_type (info_in heap a) type

-- Heaps that only grow: what stood at an address still stands there, maybe with other content; and what may be made anew (JVM
-- Specification SE 8, 6.5, new and newarray; the form is this project's own).
use Rattle.std.specs.Prelude.{◌≡◌, ℕ, true, pos, List, Some, slice_get, FitsSigned}
use Rattle.std.specs.Int.{w32}
use Rattle.jo_prog.specs.declared.program.Program.{Program}
use Rattle.jo_prog.specs.declared.program.Class.{Class}
use Rattle.jo_prog.specs.Program.{class_at}
use Rattle.jo_prog.specs.Values.{Info, object, array}
use Rattle.jo_prog.specs.Machine.{HeapObject}
use Rattle.step_laws.specs.TypedStates.{has_objects}

-- the same object, maybe with other content; one that was started stays so
pub record StillStands (heap : List HeapObject) (a : ℕ) (o : HeapObject) : Type 0 where
  pub found : HeapObject
  pub is_there : slice_get heap a ≡ Some found
  pub same_info : found.info ≡ o.info
  pub started : o.started ≡ true → found.started ≡ true

-- what stands on the first heap stands on the second
pub record GrowsTo (old new : List HeapObject) : Type 0 where
  pub keeps : (a : ℕ) (o : HeapObject) → slice_get old a ≡ Some o → StillStands new a o

-- an object of a class of the program that may have objects, or an array whose length is an int
abbrev pub CanBeMade : Program → Info → Type 0
CanBeMade program (object c) = (class : Class) × (class_at program c ≡ Some class) × (has_objects class ≡ true)
CanBeMade program (array type count) = FitsSigned w32 (pos count)

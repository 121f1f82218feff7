-- What an instruction asks of a value itself, where typing asks it of the kind of the value's place (JVM Specification SE 8, 2.11.1 and
-- 4.10.1.2).
use Rattle.std.specs.Prelude.{◌≡◌, ℕ, Bool, true, false, not, ◌||◌, ◌&&◌, ◌==◌, ℤ, List, Some, slice_get, FitsSigned}
use Rattle.std.specs.Int.{w32}
use Rattle.std.specs.List.{list_any}
use Rattle.jo_text.specs.declared.descriptors.FieldDesc.{FieldDesc}
use Rattle.jo_prog.specs.declared.program.Program.{Program}
use Rattle.jo_prog.specs.Types.{letter_of}
use Rattle.jo_prog.specs.Shapes.{Need, Anything, AnInt, AReference, OfEach, AnArray, ArrayOfReferences, ArrayOf, Nothing, fits_each, null_passes, is_class_base}
use Rattle.jo_prog.specs.Typing.{Kind, Ref}
use Rattle.jo_prog.specs.Values.{Value, int, null, ref, Info, object, array}
use Rattle.jo_prog.specs.Machine.{HeapObject}
use Rattle.machine.specs.Invocation.{type_of}
use Rattle.step_laws.specs.TypedStates.{IsTypedObject, has_dims}

-- an object or array stands at an address, and is as is asked
pub record StandsWith (heap : List HeapObject) (a : ℕ) (P : Info → Type 0) : Type 0 where
  pub found : HeapObject
  pub is_there : slice_get heap a ≡ Some found
  pub fits : P found.info

-- an array whose element type is as is asked
abbrev pub IsArrayWith : (FieldDesc → Type 0) → Info → Type 0
IsArrayWith P (object c) = ⊥
IsArrayWith P (array type count) = P type

-- elements of the type are references
abbrev pub is_reference_type : FieldDesc → Bool
is_reference_type type = not (type.dims == 0) || is_class_base type.base

-- elements of the type are of a primitive type with one of these letters (4.3.2)
abbrev pub has_letter : List ℕ → FieldDesc → Bool
has_letter letters type = type.dims == 0 && list_any (λ letter. letter == letter_of type.base) letters

abbrev pub InfoMeets : Program → Need → Info → Type 0
InfoMeets program Anything info = Unit {0}
InfoMeets program AnInt info = ⊥
InfoMeets program AReference info = Unit {0}
InfoMeets program (OfEach types) info = fits_each program (type_of info) types ≡ true
InfoMeets program AnArray info = IsArrayWith (λ type. Unit {0}) info
InfoMeets program ArrayOfReferences info = IsArrayWith (λ type. is_reference_type type ≡ true) info
InfoMeets program (ArrayOf letters) info = IsArrayWith (λ type. has_letter letters type ≡ true) info
InfoMeets program Nothing info = ⊥

abbrev pub IntMeets : Need → ℤ → Type 0
IntMeets Anything z = Unit {0}
IntMeets AnInt z = FitsSigned w32 z
IntMeets _ z = ⊥

-- where anything passes nothing is known
abbrev pub ReferenceMeets : Program → List HeapObject → Need → ℕ → Type 0
ReferenceMeets program heap Anything a = Unit {0}
ReferenceMeets program heap need a = StandsWith heap a (InfoMeets program need)

-- the value is as is asked
abbrev pub Meets : Program → List HeapObject → Need → Value ℕ → Type 0
Meets program heap need (int z) = IntMeets need z
Meets program heap need null = null_passes need ≡ true
Meets program heap need (ref a) = ReferenceMeets program heap need a

-- ---- what is asked of needs, kinds and heaps where these go together

-- arrays of what the letters say are arrays of primitive types: none is that of a class (76)
abbrev pub IsPlainNeed : Need → Type 0
IsPlainNeed (ArrayOf letters) = list_any (λ letter. letter == 76) letters ≡ false
IsPlainNeed _ = Unit {0}

-- an array type of the kind has a dimension
abbrev pub HasDims : Kind → Type 0
HasDims (Ref type) = has_dims type ≡ true
HasDims _ = Unit {0}

abbrev pub AreTypedObjects : Program → List HeapObject → Type 0
AreTypedObjects program heap = (a : ℕ) (o : HeapObject) → slice_get heap a ≡ Some o → IsTypedObject program heap o

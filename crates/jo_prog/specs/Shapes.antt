-- The kinds of values by their types, and what an instruction asks of the kind of a place and makes of it (JVM Specification SE 8,
-- 2.11.1, 4.3.2 and 4.10.1.2; that a type outside the profile has no kind, and that an object is of its class as soon as it is made,
-- is this project's own).
use Rattle.std.specs.Prelude.{ℕ, suc, ◌-◌, Bool, true, false, ◌&&◌, ◌||◌, ◌==◌, nat_lt, if◌then◌else◌, List, [], ◌∷◌, ◌++◌, map, length, drop, Option, Some, None, slice_index_or, slice_set}
use Rattle.std.specs.List.{list_any}
use Rattle.jo_insn.specs.AccessFlags.{has_flag}
use Rattle.jo_text.specs.declared.descriptors.FieldDesc.{FieldDesc}
use Rattle.jo_text.specs.declared.descriptors.Base.{Base}
use Rattle.jo_text.specs.declared.descriptors.Base.TheVariants.{Byte, Char, Double, Float, Int as IntBase, Long, Short, Boolean, Class as OfName}
use Rattle.jo_prog.specs.declared.program.Program.{Program}
use Rattle.jo_prog.specs.declared.program.Class.{Class}
use Rattle.jo_prog.specs.declared.program.TypeRef.{TypeRef}
use Rattle.jo_prog.specs.declared.program.TypeRef.TheVariants.{Class as OfClass, Array as OfArray}
use Rattle.jo_prog.specs.Program.{class_at}
use Rattle.jo_prog.specs.Types.{class_named, letter_of, array_of, type_fits}
use Rattle.jo_prog.specs.Typing.{Kind, Int, Null, Ref, Unset, Shape}

-- ---- kinds of types

abbrev pub class_kind : Option ℕ → Kind
class_kind None = Unset
class_kind (Some c) = Ref (OfClass c)

-- boolean, byte, char and short are ints on the stack and in locals (2.11.1)
abbrev pub base_kind : Program → Base → Kind
base_kind program Byte = Int
base_kind program Char = Int
base_kind program Double = Unset
base_kind program Float = Unset
base_kind program IntBase = Int
base_kind program Long = Unset
base_kind program Short = Int
base_kind program Boolean = Int
base_kind program (OfName name) = class_kind (class_named program name)

abbrev pub kind_of_type : Program → FieldDesc → Kind
kind_of_type program desc = if desc.dims == 0 then base_kind program desc.base else Ref (OfArray desc)

-- ---- what a place is asked for

pub data Need : Type 0 where
  Anything : Need
  AnInt : Need
  -- null, or of any class or array type
  AReference : Need
  -- null, or of all of these types
  OfEach : List TypeRef → Need
  AnArray : Need
  -- of elements that are references
  ArrayOfReferences : Need
  -- of one dimension, whose elements are of a primitive type with one of these letters (4.3.2)
  ArrayOf : List ℕ → Need
  -- what no place has
  Nothing : Need

-- ACC_INTERFACE (4.1)
abbrev pub interface_flag : ℕ
interface_flag = 0x0200

abbrev pub is_interface_class : Option Class → Bool
is_interface_class None = false
is_interface_class (Some class) = has_flag interface_flag class.flags

abbrev pub is_interface : Program → TypeRef → Bool
is_interface program (OfClass c) = is_interface_class (class_at program c)
is_interface program (OfArray desc) = false

-- an interface takes every reference (4.10.1.2)
abbrev pub takes_type : Program → TypeRef → TypeRef → Bool
takes_type program given needed = is_interface program needed || type_fits program given needed

abbrev pub fits_each : Program → TypeRef → List TypeRef → Bool
fits_each program given [] = true
fits_each program given (needed ∷ more) = takes_type program given needed && fits_each program given more

abbrev pub is_class_base : Base → Bool
is_class_base (OfName name) = true
is_class_base _ = false

-- the elements of the array are references
abbrev pub has_references : FieldDesc → Bool
has_references desc = nat_lt 1 desc.dims || is_class_base desc.base

abbrev pub is_array_of : List ℕ → FieldDesc → Bool
is_array_of letters desc = desc.dims == 1 && list_any (λ letter. letter == letter_of desc.base) letters

-- an array passes
abbrev pub array_passes : Program → Need → FieldDesc → Bool
array_passes program Anything desc = true
array_passes program AnInt desc = false
array_passes program AReference desc = true
array_passes program (OfEach types) desc = fits_each program (OfArray desc) types
array_passes program AnArray desc = true
array_passes program ArrayOfReferences desc = has_references desc
array_passes program (ArrayOf letters) desc = is_array_of letters desc
array_passes program Nothing desc = false

-- an object of a class passes
abbrev pub object_passes : Program → Need → ℕ → Bool
object_passes program Anything c = true
object_passes program AReference c = true
object_passes program (OfEach types) c = fits_each program (OfClass c) types
object_passes program _ c = false

abbrev pub null_passes : Need → Bool
null_passes AnInt = false
null_passes Nothing = false
null_passes _ = true

abbrev pub int_passes : Need → Bool
int_passes Anything = true
int_passes AnInt = true
int_passes _ = false

abbrev pub unset_passes : Need → Bool
unset_passes Anything = true
unset_passes _ = false

-- a place of that kind has what is asked for
abbrev pub passes : Program → Need → Kind → Bool
passes program need Int = int_passes need
passes program need Null = null_passes need
passes program need (Ref (OfClass c)) = object_passes program need c
passes program need (Ref (OfArray desc)) = array_passes program need desc
passes program need Unset = unset_passes need

-- what a value of that kind is asked for, where it is passed on
abbrev pub need_of : Kind → Need
need_of Int = AnInt
need_of Null = Nothing
need_of (Ref type) = OfEach (type ∷ [])
need_of Unset = Nothing

-- ---- what an instruction makes of the kind of a place

pub data Change : Type 0 where
  Same : Change
  -- its kind where it is a reference, else unset
  Reference : Change
  -- that of the elements of the array, where they are references, null of null, else unset
  Element : Change

abbrev pub reference_kind : Kind → Kind
reference_kind Int = Unset
reference_kind Null = Null
reference_kind (Ref type) = Ref type
reference_kind Unset = Unset

abbrev pub element_kind : Program → Kind → Kind
element_kind program Int = Unset
element_kind program Null = Null
element_kind program (Ref (OfClass c)) = Unset
element_kind program (Ref (OfArray desc)) = if has_references desc then kind_of_type program (array_of (desc.dims - 1) desc.base) else Unset
element_kind program Unset = Unset

abbrev pub changed : Program → Change → Kind → Kind
changed program Same kind = kind
changed program Reference kind = reference_kind kind
changed program Element kind = element_kind program kind

-- Where the kind of a place comes from: it is always that, or comes from one place before the instruction, from the stack (the top has
-- number 0) or from a local.
pub data Origin : Type 0 where
  Always : Kind → Origin
  OfStack : ℕ → Change → Origin
  OfLocal : ℕ → Change → Origin

abbrev pub kind_from : Program → Shape → Origin → Kind
kind_from program s (Always kind) = kind
kind_from program s (OfStack k change) = changed program change (slice_index_or s.stack k Unset)
kind_from program s (OfLocal k change) = changed program change (slice_index_or s.locals k Unset)

-- What an instruction pops, pushes, reads and writes. Lists begin with the top of the stack.
pub record Effect : Type 0 where
  pub pops : List Need
  pub pushes : List Origin
  pub reads : Option (ℕ × Need)
  pub writes : Option (ℕ × Origin)
  -- of a wrong kind, whatever the places hold
  pub wrong : Bool

abbrev pub written : Program → Shape → Option (ℕ × Origin) → List Kind
written program s None = s.locals
written program s (Some (k, origin)) = slice_set s.locals k (kind_from program s origin)

-- the shape after an instruction, also where a place didn't have what it was asked for
abbrev pub after : Program → Effect → Shape → Shape
after program effect s = record {
  locals = written program s effect.writes;
  stack = map (kind_from program s) effect.pushes ++ drop (length effect.pops) s.stack;
}

-- each place that is there has what it is asked for
abbrev pub all_pass : Program → List Need → List Kind → Bool
all_pass program [] stack = true
all_pass program (need ∷ needs) [] = true
all_pass program (need ∷ needs) (kind ∷ stack) = passes program need kind && all_pass program needs stack

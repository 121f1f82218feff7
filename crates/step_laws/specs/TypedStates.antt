-- States of the machine that typing speaks of: what stands in each place is of the kind that some typing path gives that place (JVM
-- Specification SE 8, 2.3, 2.4, 2.6, 2.10 and 4.10; the form by paths is this project's own).
use Rattle.std.specs.Prelude.{◌≡◌, ℕ, Bool, true, not, ◌||◌, nat_lt, ℤ, pos, List, [], ◌∷◌, length, map, drop, Option, Some, None, slice_get, FitsSigned}
use Rattle.std.specs.Int.{w32}
use Rattle.jo_text.specs.declared.descriptors.FieldDesc.{FieldDesc}
use Rattle.jo_insn.specs.AccessFlags.{has_flag, static_flag, abstract_flag}
use Rattle.jo_prog.specs.declared.program.Program.{Program}
use Rattle.jo_prog.specs.declared.program.Class.{Class}
use Rattle.jo_prog.specs.declared.program.Field.{Field}
use Rattle.jo_prog.specs.declared.program.TypeRef.{TypeRef}
use Rattle.jo_prog.specs.declared.program.TypeRef.TheVariants.{Class as OfClass, Array as OfArray}
use Rattle.jo_prog.specs.Program.{method_at, class_at}
use Rattle.jo_prog.specs.PreludeClasses.{string_class, thread_number}
use Rattle.jo_prog.specs.Constants.{string_address}
use Rattle.jo_prog.specs.MethodTypes.{field_desc_in}
use Rattle.jo_prog.specs.Types.{type_fits}
use Rattle.jo_prog.specs.Typing.{Kind, Int, Null, Ref, Unset, Shape}
use Rattle.jo_prog.specs.Shapes.{interface_flag, kind_of_type, takes_type}
use Rattle.jo_prog.specs.InsnTyping.{throwable}
use Rattle.jo_prog.specs.TypingPaths.{Typable, Step, IsTypable, TypingPath, arrives_at, shape_of}
use Rattle.jo_prog.specs.Values.{Value, int, null, ref, object, array}
use Rattle.jo_prog.specs.Machine.{Frame, Thread, HeapObject, State}
use Rattle.machine.specs.Instructions.{calls, instruction_at, method_desc, result_of}
use Rattle.machine.specs.Invocation.{type_of}
use Rattle.machine.specs.Heaps.{first_contents}

-- ---- values and places

-- an array type has a dimension (4.3.2)
abbrev pub has_dims : TypeRef → Bool
has_dims (OfClass c) = true
has_dims (OfArray desc) = nat_lt 0 desc.dims

-- A value of a kind. A reference leads to an object or array of the type, where that is an interface to any.
pub data HasKind (program : Program) (heap : List HeapObject) : Kind → Value ℕ → Type 0 where
  an_int : (z : ℤ) → FitsSigned w32 z → HasKind program heap Int (int z)
  a_null : HasKind program heap Null null
  no_object : (type : TypeRef) → HasKind program heap (Ref type) null
  an_object : (type : TypeRef) (a : ℕ) (o : HeapObject) → slice_get heap a ≡ Some o → takes_type program (type_of o.info) type ≡ true
      → has_dims type ≡ true → HasKind program heap (Ref type) (ref a)

-- what stands in a place of a kind; of an unset one nothing is known, and it may hold nothing
pub data PlaceHasKind (program : Program) (heap : List HeapObject) : Kind → Option (Value ℕ) → Type 0 where
  unset : (content : Option (Value ℕ)) → PlaceHasKind program heap Unset content
  set : (kind : Kind) (v : Value ℕ) → HasKind program heap kind v → PlaceHasKind program heap kind (Some v)

abbrev pub IsOnStack : Program → List HeapObject → Kind → Value ℕ → Type 0
IsOnStack program heap kind v = PlaceHasKind program heap kind (Some v)

-- two lists of one length, related item by item
pub data Pairwise {A B : Type 0} (P : A → B → Type 0) : List A → List B → Type 0 where
  no_more : Pairwise P [] []
  one_more : (x : A) (y : B) (xs : List A) (ys : List B) → P x y → Pairwise P xs ys → Pairwise P (x ∷ xs) (y ∷ ys)

-- ---- frames

-- some typing path of the frame's method arrives at its pc with this shape
pub record HasShape (program : Program) (f : Frame) (shape : Shape) : Type 0 where
  pub typable : Typable
  pub is_typable : IsTypable program f.method typable
  pub path : List Step
  pub is_path : TypingPath program typable path
  pub arrives : arrives_at path ≡ f.pc
  pub shape_is : shape_of program typable path ≡ shape

-- a frame that goes on at its pc
pub record IsReady (program : Program) (heap : List HeapObject) (f : Frame) : Type 0 where
  pub shape : Shape
  pub has_shape : HasShape program f shape
  pub locals : Pairwise (PlaceHasKind program heap) shape.locals f.locals
  pub stack : Pairwise (IsOnStack program heap) shape.stack f.stack

-- a frame whose instruction has thrown, or was left by an exception: at a handler its locals count alone
pub record IsLeft (program : Program) (heap : List HeapObject) (f : Frame) : Type 0 where
  pub shape : Shape
  pub has_shape : HasShape program f shape
  pub locals : Pairwise (PlaceHasKind program heap) shape.locals f.locals

-- a frame at a call that has begun a method, whose result is of the type that the call gives; the call's values are off its stack
pub record IsWaiting (program : Program) (heap : List HeapObject) (callee : ℕ) (f : Frame) : Type 0 where
  pub shape : Shape
  pub has_shape : HasShape program f shape
  pub locals : Pairwise (PlaceHasKind program heap) shape.locals f.locals
  pub op : ℕ
  pub owner : TypeRef
  pub named : ℕ
  pub count : ℕ
  pub next : ℕ
  pub at_call : instruction_at program f.method f.pc ≡ Some (calls op owner named count, next)
  pub stack : Pairwise (IsOnStack program heap) (drop count shape.stack) f.stack
  pub same_result : result_of (method_desc (method_at program callee)) ≡ result_of (method_desc (method_at program named))

-- the frames below that of a method, each at the call of the one above it
abbrev pub AreWaiting : Program → List HeapObject → ℕ → List Frame → Type 0
AreWaiting program heap callee [] = Unit {0}
AreWaiting program heap callee (f ∷ below) = IsWaiting program heap callee f × AreWaiting program heap f.method below

-- the frames of a thread, where an exception is on its way or not
abbrev pub AreFrames : Program → List HeapObject → Option ℕ → List Frame → Type 0
AreFrames program heap pending [] = Unit {0}
AreFrames program heap None (f ∷ below) = IsReady program heap f × AreWaiting program heap f.method below
AreFrames program heap (Some a) (f ∷ below) = IsLeft program heap f × AreWaiting program heap f.method below

-- ---- threads

-- an object of a type stands at an address
pub record StandsAt (program : Program) (heap : List HeapObject) (a : ℕ) (type : TypeRef) : Type 0 where
  pub found : HeapObject
  pub is_there : slice_get heap a ≡ Some found
  pub fits : type_fits program (type_of found.info) type ≡ true

-- an object of java/lang/Thread that was started
pub record IsStartedAt (program : Program) (heap : List HeapObject) (a : ℕ) : Type 0 where
  pub found : HeapObject
  pub is_there : slice_get heap a ≡ Some found
  pub is_thread : type_fits program (type_of found.info) (OfClass thread_number) ≡ true
  pub marked : found.started ≡ true

pub record IsTypedThread (program : Program) (heap : List HeapObject) (thread : Thread) : Type 0 where
  pub frames : AreFrames program heap thread.pending thread.frames
  pub thrown : (a : ℕ) → thread.pending ≡ Some a → StandsAt program heap a throwable
  pub started : (a : ℕ) → thread.object ≡ Some a → IsStartedAt program heap a

-- ---- cells

abbrev pub kind_of_desc : Program → Option FieldDesc → Kind
kind_of_desc program None = Unset
kind_of_desc program (Some type) = kind_of_type program type

-- a field of the program with what stands in its cell
pub record IsFieldContent (program : Program) (heap : List HeapObject) (content : ℕ × Value ℕ) : Type 0 where
  pub field : Field
  pub is_field : slice_get program.fields content.0 ≡ Some field
  pub fits : IsOnStack program heap (kind_of_desc program (field_desc_in field.desc)) content.1

-- a class that may have objects: neither abstract nor an interface (4.1)
abbrev pub has_objects : Class → Bool
has_objects class = not (has_flag abstract_flag class.flags || has_flag interface_flag class.flags)

-- An object of a class of the program that may have objects, with its fields and those of the classes above, or an array with as many
-- elements as it is long; that is an int.
pub data IsTypedObject (program : Program) (heap : List HeapObject) : HeapObject → Type 0 where
  of_class : (o : HeapObject) (c : ℕ) (class : Class) → o.info ≡ object c → class_at program c ≡ Some class → has_objects class ≡ true
      → map (λ content. content.0) o.fields ≡ map (λ content. content.0) (first_contents program c)
      → ((k : ℕ) (content : ℕ × Value ℕ) → slice_get o.fields k ≡ Some content → IsFieldContent program heap content)
      → IsTypedObject program heap o
  of_array : (o : HeapObject) (type : FieldDesc) (count : ℕ) → o.info ≡ array type count → length o.elements ≡ count → FitsSigned w32 (pos count)
      → ((k : ℕ) (v : Value ℕ) → slice_get o.elements k ≡ Some v → IsOnStack program heap (kind_of_type program type) v)
      → IsTypedObject program heap o

-- ---- states

-- Every frame's height and kinds are those of typing at its pc, cells hold what their descriptors allow, frames below stand at calls
-- whose result fits, pending exceptions are Throwables, and threads have a started Thread each but the first.
pub record IsTypedState (program : Program) (s : State) : Type 0 where
  pub objects : (a : ℕ) (o : HeapObject) → slice_get s.heap a ≡ Some o → IsTypedObject program s.heap o
  pub texts : (text : List ℕ) (a : ℕ) → string_address program text ≡ Some a → StandsAt program s.heap a (OfClass string_class)
  pub count : length s.statics ≡ length program.fields
  pub statics : (f : ℕ) (field : Field) (v : Value ℕ) → slice_get program.fields f ≡ Some field → has_flag static_flag field.flags ≡ true
      → slice_get s.statics f ≡ Some v → IsFieldContent program s.heap (f, v)
  pub cursors : length s.cursors ≡ length program.methods
  pub threads : (t : ℕ) (thread : Thread) → slice_get s.threads t ≡ Some thread → IsTypedThread program s.heap thread
  pub first_alone : (t : ℕ) (thread : Thread) → slice_get s.threads t ≡ Some thread → thread.object ≡ None → t ≡ 0
  pub one_each : (t u : ℕ) (one other : Thread) (a : ℕ) → slice_get s.threads t ≡ Some one → slice_get s.threads u ≡ Some other
      → one.object ≡ Some a → other.object ≡ Some a → t ≡ u

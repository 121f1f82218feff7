-- What typing says of an instruction whose names were looked up, and what comes of it where the values are of the kinds that typing asks
-- (JVM Specification SE 8, 6.5; the form is this project's own).
use Rattle.std.specs.Prelude.{◌≡◌, ◌⊎◌, ℕ, true, false, ◌==◌, ℤ, pos, List, [], ◌∷◌, map, Contains, Option, Some, None, slice_get, slice_index_or, FitsSigned}
use Rattle.std.specs.Int.{w32}
use Rattle.std.specs.List.{list_any}
use Rattle.jo_text.specs.declared.descriptors.FieldDesc.{FieldDesc}
use Rattle.jo_insn.specs.AccessFlags.{has_flag, static_flag}
use Rattle.jo_prog.specs.declared.program.Program.{Program}
use Rattle.jo_prog.specs.declared.program.Class.{Class}
use Rattle.jo_prog.specs.declared.program.Field.{Field}
use Rattle.jo_prog.specs.declared.program.TypeRef.{TypeRef}
use Rattle.jo_prog.specs.declared.program.TypeRef.TheVariants.{Class as OfClass, Array as OfArray}
use Rattle.jo_prog.specs.declared.sites.Cause.{Cause}
use Rattle.jo_prog.specs.Program.{class_at}
use Rattle.jo_prog.specs.PreludeClasses.{string_class}
use Rattle.jo_prog.specs.Constants.{string_address}
use Rattle.jo_prog.specs.MethodTypes.{field_desc_in}
use Rattle.jo_prog.specs.Typing.{Kind, Int, Null, Ref, Unset, Shape}
use Rattle.jo_prog.specs.Shapes.{Need, AnInt, AReference, OfEach, AnArray, ArrayOfReferences, ArrayOf, need_of, Origin, Always, OfStack, Element, Effect, kind_from, passes, kind_of_type, takes_type}
use Rattle.jo_prog.specs.InsnTyping.{stack_effect, pushes_int, loads_int, loads_reference, stores_int, stores_reference, steps_int, moves, makes, throwable}
use Rattle.jo_prog.specs.Values.{Value, Info, object, array, Cell, field, element, static}
use Rattle.jo_prog.specs.Machine.{HeapObject, State}
use Rattle.machine.specs.Instructions as code
use Rattle.machine.specs.Instructions.{Instruction}
use Rattle.machine.specs.Execution as does
use Rattle.machine.specs.Execution.{Outcome}
use Rattle.machine.specs.Invocation.{type_of}
use Rattle.machine.specs.Heaps.{first_contents}
use Rattle.step_laws.specs.TypedStates.{IsOnStack, Pairwise, StandsAt, IsFieldContent, has_dims, has_objects}
use Rattle.step_laws.specs.Needs.{has_letter}

-- ---- fields

-- the field has a type; it is static
pub record HasType (program : Program) (f : ℕ) (type : FieldDesc) : Type 0 where
  pub field : Field
  pub is_field : slice_get program.fields f ≡ Some field
  pub type_is : field_desc_in field.desc ≡ Some type

pub record IsStaticOf (program : Program) (f : ℕ) (type : FieldDesc) : Type 0 where
  pub field : Field
  pub is_field : slice_get program.fields f ≡ Some field
  pub is_static : has_flag static_flag field.flags ≡ true
  pub type_is : field_desc_in field.desc ≡ Some type

-- each object of the type has the field, and no array is of the type
pub record HasField (program : Program) (owner : TypeRef) (f : ℕ) : Type 0 where
  pub objects : (c : ℕ) (class : Class) → class_at program c ≡ Some class → takes_type program (OfClass c) owner ≡ true
      → Contains (map (λ content. content.0) (first_contents program c)) f
  pub no_array : (type : FieldDesc) → takes_type program (OfArray type) owner ≡ true → ⊥

-- ---- the effect of an instruction, by its groups

-- elements of a primitive type with one of these letters are ints, and none is the letter of classes (76)
pub record AreIntLetters (program : Program) (letters : List ℕ) : Type 0 where
  pub plain : list_any (λ letter. letter == 76) letters ≡ false
  pub ints : (type : FieldDesc) → has_letter letters type ≡ true → kind_of_type program type ≡ Int

pub data HasEffect (program : Program) : Instruction → Effect → Type 0 where
  nothing_done : HasEffect program code.passes (stack_effect [] [])
  null_pushed : HasEffect program code.pushes_null (stack_effect [] (Always Null ∷ []))
  int_pushed : (z : ℤ) → FitsSigned w32 z → HasEffect program (code.pushes_int z) (pushes_int [])
  text_pushed : (text : List ℕ) (a : ℕ) → string_address program text ≡ Some a → HasEffect program (code.pushes_text text) (makes [] (OfClass string_class))
  int_loaded : (k : ℕ) → HasEffect program (code.loads k) (loads_int k)
  reference_loaded : (k : ℕ) → HasEffect program (code.loads k) (loads_reference k)
  int_stored : (k : ℕ) → HasEffect program (code.stores k) (stores_int k)
  reference_stored : (k : ℕ) → HasEffect program (code.stores k) (stores_reference k)
  int_stepped : (k : ℕ) (by : ℤ) → HasEffect program (code.increments k by) (steps_int k)
  -- elements of primitive types, by their letters, which are those of ints, and of references
  element_loaded : (letters : List ℕ) → AreIntLetters program letters
      → HasEffect program code.loads_element (pushes_int (AnInt ∷ ArrayOf letters ∷ []))
  reference_taken : HasEffect program code.loads_element (stack_effect (AnInt ∷ ArrayOfReferences ∷ []) (OfStack 1 Element ∷ []))
  element_stored : (letters : List ℕ) → AreIntLetters program letters
      → HasEffect program code.stores_element (stack_effect (AnInt ∷ AnInt ∷ ArrayOf letters ∷ []) [])
  reference_put : HasEffect program code.stores_element (stack_effect (AReference ∷ AnInt ∷ ArrayOfReferences ∷ []) [])
  -- pop, pop2, dup, dup_x1, dup_x2, dup2, dup2_x1, dup2_x2, swap
  one_dropped : HasEffect program (code.shuffles 87) (moves 1 [])
  two_dropped : HasEffect program (code.shuffles 88) (moves 2 [])
  one_doubled : HasEffect program (code.shuffles 89) (moves 1 (0 ∷ 0 ∷ []))
  one_doubled_under_one : HasEffect program (code.shuffles 90) (moves 2 (0 ∷ 1 ∷ 0 ∷ []))
  one_doubled_under_two : HasEffect program (code.shuffles 91) (moves 3 (0 ∷ 1 ∷ 2 ∷ 0 ∷ []))
  two_doubled : HasEffect program (code.shuffles 92) (moves 2 (0 ∷ 1 ∷ 0 ∷ 1 ∷ []))
  two_doubled_under_one : HasEffect program (code.shuffles 93) (moves 3 (0 ∷ 1 ∷ 2 ∷ 0 ∷ 1 ∷ []))
  two_doubled_under_two : HasEffect program (code.shuffles 94) (moves 4 (0 ∷ 1 ∷ 2 ∷ 3 ∷ 0 ∷ 1 ∷ []))
  two_swapped : HasEffect program (code.shuffles 95) (moves 2 (1 ∷ 0 ∷ []))
  two_computed : (op : ℕ) → HasEffect program (code.computes op) (pushes_int (AnInt ∷ AnInt ∷ []))
  one_negated : HasEffect program code.negates (pushes_int (AnInt ∷ []))
  one_narrowed : (op : ℕ) → HasEffect program (code.narrows op) (pushes_int (AnInt ∷ []))
  one_tested : (op target : ℕ) → HasEffect program (code.tests op target) (stack_effect (AnInt ∷ []) [])
  two_compared : (op target : ℕ) → HasEffect program (code.compares op target) (stack_effect (AnInt ∷ AnInt ∷ []) [])
  references_compared : (op target : ℕ) → HasEffect program (code.compares_references op target) (stack_effect (AReference ∷ AReference ∷ []) [])
  null_tested : (op target : ℕ) → HasEffect program (code.tests_null op target) (stack_effect (AReference ∷ []) [])
  jumped : (target : ℕ) → HasEffect program (code.jumps_to target) (stack_effect [] [])
  switched : (cases : List (ℤ × ℕ)) (other : ℕ) → HasEffect program (code.switches cases other) (stack_effect (AnInt ∷ []) [])
  -- the result is of the method's type
  value_returned : (type : FieldDesc) → HasEffect program (code.returns_value type) (stack_effect (need_of (kind_of_type program type) ∷ []) [])
  nothing_returned : HasEffect program code.returns_nothing (stack_effect [] [])
  -- fields, of a type that has a kind where they are written
  static_got : (f : ℕ) (type : FieldDesc) → IsStaticOf program f type → HasEffect program (code.gets_static f) (stack_effect [] (Always (kind_of_type program type) ∷ []))
  static_put : (f : ℕ) (type : FieldDesc) → IsStaticOf program f type
      → HasEffect program (code.puts_static f type) (stack_effect (need_of (kind_of_type program type) ∷ []) [])
  field_got : (f : ℕ) (type : FieldDesc) (owner : TypeRef) → HasType program f type → HasField program owner f
      → HasEffect program (code.gets_field f) (stack_effect (OfEach (owner ∷ []) ∷ []) (Always (kind_of_type program type) ∷ []))
  field_put : (f : ℕ) (type : FieldDesc) (owner : TypeRef) → HasType program f type → HasField program owner f
      → HasEffect program (code.puts_field f type) (stack_effect (need_of (kind_of_type program type) ∷ OfEach (owner ∷ []) ∷ []) [])
  created : (c : ℕ) (class : Class) → class_at program c ≡ Some class → has_objects class ≡ true → HasEffect program (code.creates c) (makes [] (OfClass c))
  array_created : (type : FieldDesc) → takes_type program (type_of (array type 0)) (type_of (array type 0)) ≡ true
      → HasEffect program (code.creates_array type) (makes (AnInt ∷ []) (type_of (array type 0)))
  array_measured : HasEffect program code.measures (pushes_int (AnArray ∷ []))
  thrown : HasEffect program code.throws (stack_effect (OfEach (throwable ∷ []) ∷ []) [])
  cast : (type : TypeRef) → has_dims type ≡ true → HasEffect program (code.casts type) (makes (AReference ∷ []) type)
  checked : (type : TypeRef) → HasEffect program (code.checks type) (pushes_int (AReference ∷ []))

-- ---- the values that it pops, or the value of the local that it takes

-- the values are those on top of a stack of these kinds, each as is asked
abbrev pub ArePopped : Program → List HeapObject → List Need → List Kind → List (Value ℕ) → Type 0
ArePopped program heap [] kinds [] = Unit {0}
ArePopped program heap (need ∷ needs) (kind ∷ kinds) (v ∷ vs) =
    (passes program need kind ≡ true) × IsOnStack program heap kind v × ArePopped program heap needs kinds vs
ArePopped program heap needs kinds vs = ⊥

-- its one value is that of a local of the kind
abbrev pub IsTaken : Program → List HeapObject → Need → Kind → List (Value ℕ) → Type 0
IsTaken program heap need kind (v ∷ []) = (passes program need kind ≡ true) × IsOnStack program heap kind v
IsTaken program heap need kind vs = ⊥

-- the values that an instruction with an effect is given at a shape
abbrev pub AreGiven : Program → List HeapObject → Option (ℕ × Need) → List Need → Shape → List (Value ℕ) → Type 0
AreGiven program heap None needs shape vs = ArePopped program heap needs shape.stack vs
AreGiven program heap (Some taken) needs shape vs = IsTaken program heap taken.1 (slice_index_or shape.locals taken.0 Unset) vs

-- ---- what comes of it

-- a cell takes a value: it is there, and holds values of this kind
pub data TakesValue (program : Program) (s : State) : Cell ℕ → Value ℕ → Type 0 where
  in_field : (a f : ℕ) (o : HeapObject) (c : ℕ) (v : Value ℕ) → slice_get s.heap a ≡ Some o → o.info ≡ object c
      → IsFieldContent program s.heap (f, v) → TakesValue program s (field a f) v
  in_element : (a i : ℕ) (o : HeapObject) (type : FieldDesc) (count : ℕ) (v : Value ℕ) → slice_get s.heap a ≡ Some o → o.info ≡ array type count
      → IsOnStack program s.heap (kind_of_type program type) v → TakesValue program s (element a i) v
  in_static : (f : ℕ) (v : Value ℕ) → IsFieldContent program s.heap (f, v) → TakesValue program s (static f) v

-- an object of a class of the program that may have objects, or an array whose length is an int, that is of a type
abbrev pub IsMade : Program → TypeRef → Info → Type 0
IsMade program type (object c) = ((class : Class) × (class_at program c ≡ Some class) × (has_objects class ≡ true)) × (takes_type program (OfClass c) type ≡ true)
IsMade program type (array elements count) = (takes_type program (type_of (array elements count)) type ≡ true) × FitsSigned w32 (pos count)

-- where an instruction may jump
abbrev pub JumpsTo : Instruction → ℕ → Type 0
JumpsTo (code.tests op target) at = at ≡ target
JumpsTo (code.compares op target) at = at ≡ target
JumpsTo (code.compares_references op target) at = at ≡ target
JumpsTo (code.tests_null op target) at = at ≡ target
JumpsTo (code.jumps_to target) at = at ≡ target
JumpsTo (code.switches cases other) at = Contains (map (λ row. row.1) cases) at ⊎ (at ≡ other)
JumpsTo instruction at = ⊥

-- the result of a method that a return gives
abbrev pub IsResult : Program → List HeapObject → Instruction → Option (Value ℕ) → Type 0
IsResult program heap (code.returns_value type) (Some v) = IsOnStack program heap (kind_of_type program type) v
IsResult program heap code.returns_nothing None = Unit {0}
IsResult program heap instruction result = ⊥

-- What comes of an instruction at a shape is what its effect says: what it pushes or puts has the kind that typing gives, what it writes
-- its cell takes, what it throws is a Throwable, what it makes is of the type; an exception of the machine may always be raised.
pub data Follows (program : Program) (s : State) (instruction : Instruction) (effect : Effect) (shape : Shape) : Outcome ℕ → Type 0 where
  by_push : (vs : List (Value ℕ)) → effect.writes ≡ None → Pairwise (IsOnStack program s.heap) (map (kind_from program shape) effect.pushes) vs
      → Follows program s instruction effect shape (record { effect = does.pushes vs; written = None })
  by_write : (cell : Cell ℕ) (v : Value ℕ) → effect.writes ≡ None → effect.pushes ≡ [] → TakesValue program s cell v
      → Follows program s instruction effect shape (record { effect = does.pushes []; written = Some (cell, v) })
  by_put : (k : ℕ) (origin : Origin) (v : Value ℕ) → effect.writes ≡ Some (k, origin) → effect.pushes ≡ [] → IsOnStack program s.heap (kind_from program shape origin) v
      → Follows program s instruction effect shape (record { effect = does.puts k v; written = None })
  by_jump : (target : ℕ) → effect.writes ≡ None → effect.pushes ≡ [] → JumpsTo instruction target
      → Follows program s instruction effect shape (record { effect = does.jumps target; written = None })
  by_raise : (cause : Cause) → Follows program s instruction effect shape (record { effect = does.raises cause; written = None })
  by_throw : (a : ℕ) → StandsAt program s.heap a throwable → Follows program s instruction effect shape (record { effect = does.throws_at a; written = None })
  by_new : (info : Info) (type : TypeRef) → effect.writes ≡ None → effect.pushes ≡ Always (Ref type) ∷ [] → has_dims type ≡ true → IsMade program type info
      → Follows program s instruction effect shape (record { effect = does.allocates info; written = None })
  by_return : (result : Option (Value ℕ)) → effect.pushes ≡ [] → IsResult program s.heap instruction result
      → Follows program s instruction effect shape (record { effect = does.returns result; written = None })

-- it goes on, and what comes of it follows
pub record GoesOnWith (program : Program) (s : State) (instruction : Instruction) (effect : Effect) (shape : Shape) (outcome : Option (Outcome ℕ)) : Type 0 where
  pub gives : Outcome ℕ
  pub is_given : outcome ≡ Some gives
  pub follows : Follows program s instruction effect shape gives

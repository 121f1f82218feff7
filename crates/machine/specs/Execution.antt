-- What an instruction that is no call does with its values, as one pure function over any type of addresses (JVM Specification SE 8,
-- 2.11 and 6.5). It looks at a reference through what stands there, equality and null alone.
use Rattle.std.specs.Prelude.{ℕ, ◌^◌, Bool, true, false, ◌==◌, ◌&&◌, ◌||◌, not, nat_lt, if◌then◌else◌, ℤ, pos, int_lt, unsigned_abs, List, [], ◌∷◌, Option, Some, None}
use Rattle.std.specs.Int.{w32, int_wrapping_add}
use Rattle.std.specs.Ordering.{int_eq}
use Rattle.jo_text.specs.declared.descriptors.FieldDesc.{FieldDesc}
use Rattle.jo_prog.specs.declared.program.TypeRef.{TypeRef}
use Rattle.jo_prog.specs.declared.sites.Cause.{Cause}
use Rattle.jo_prog.specs.declared.sites.Cause.TheVariants.{ZeroDivisor, NullBase, FailingCast, WrongElement, NegativeLength, BadIndex}
use Rattle.jo_prog.specs.Values.{Value, int, null, ref, Info, object, array, Cell, field, element, static}
use Rattle.machine.specs.Arithmetic.{int_op, int_test, kept_int, narrow, negated}
use Rattle.machine.specs.Instructions.{Instruction, passes, pushes_null, pushes_int, pushes_text, loads, stores, increments, loads_element, stores_element, shuffles, computes, negates, narrows, tests, compares, compares_references, tests_null, jumps_to, switches, returns_value, returns_nothing, gets_static, puts_static, gets_field, puts_field, creates, creates_array, measures, throws, casts, checks, calls}

-- what may be asked of addresses: whether two are the same, what stands at one, and the address of a string constant
pub record Ways (A : Type 0) : Type 0 where
  pub same : A → A → Bool
  pub info : A → Info
  pub text : List ℕ → Option A

-- what may be asked of what stands at an address: whether it is of a type, and whether an array takes it as an element
pub record Fits : Type 0 where
  pub of_type : Info → TypeRef → Bool
  pub as_element : FieldDesc → Info → Bool

-- What comes of an instruction that is no call: values on the stack, the top first; a value for a local; another pc; an exception that
-- the machine makes; one that is thrown; an object or array; the end of the frame.
pub data Effect (A : Type 0) : Type 0 where
  pushes : List (Value A) → Effect A
  puts : ℕ → Value A → Effect A
  jumps : ℕ → Effect A
  raises : Cause → Effect A
  throws_at : A → Effect A
  allocates : Info → Effect A
  returns : Option (Value A) → Effect A

-- the effect, and the one cell that is written with its new value, if one is
pub record Outcome (A : Type 0) : Type 0 where
  pub effect : Effect A
  pub written : Option (Cell A × Value A)

abbrev pub only : {A : Type 0} → Effect A → Option (Outcome A)
only effect = Some (record { effect = effect; written = None })

abbrev pub pushes_one : {A : Type 0} → Value A → Option (Outcome A)
pushes_one v = only (pushes (v ∷ []))

abbrev pub writes : {A : Type 0} → Cell A → Value A → Option (Outcome A)
writes cell v = Some (record { effect = pushes []; written = Some (cell, v) })

-- what was read from a cell
abbrev pub content_pushed : {A : Type 0} → Option (Value A) → Option (Outcome A)
content_pushed None = None
content_pushed (Some v) = pushes_one v

-- ---- values

-- what a field, an element or a result of a type keeps of a value
abbrev pub kept : {A : Type 0} → FieldDesc → Value A → Value A
kept type (int z) = int (kept_int type z)
kept type null = null
kept type (ref a) = ref a

abbrev pub same_reference : {A : Type 0} → (A → A → Bool) → Value A → Value A → Option Bool
same_reference same null null = Some true
same_reference same null (ref b) = Some false
same_reference same (ref a) null = Some false
same_reference same (ref a) (ref b) = Some (same a b)
same_reference same _ _ = None

abbrev pub bool_int : Bool → ℤ
bool_int false = pos 0
bool_int true = pos 1

-- ---- arrays

abbrev pub is_inside : ℤ → ℕ → Bool
is_inside i length = not (int_lt i (pos 0)) && nat_lt (unsigned_abs i) length

abbrev pub element_at : {A : Type 0} → A → ℤ → Info → Option (Cell A)
element_at a i (object c) = None
element_at a i (array type length) = if is_inside i length then Some (element a (unsigned_abs i)) else None

abbrev pub takes_value : {A : Type 0} → Fits → (A → Info) → FieldDesc → Value A → Bool
takes_value fits info type (int z) = true
takes_value fits info type null = true
takes_value fits info type (ref b) = fits.as_element type (info b)

-- a null array first, then a bad index, then a wrong element
abbrev pub stored_element : {A : Type 0} → Fits → (A → Info) → Value A → ℤ → A → Info → Option (Outcome A)
stored_element fits info v i a (object c) = None
stored_element fits info v i a (array type length) =
    if not (is_inside i length) then only (raises BadIndex)
    else if not (takes_value fits info type v) then only (raises WrongElement)
    else writes (element a (unsigned_abs i)) (kept type v)

abbrev pub loaded_element : {A : Type 0} → Option (Value A) → ℤ → Info → Option (Outcome A)
loaded_element content i (object c) = None
loaded_element content i (array type length) = if is_inside i length then content_pushed content else only (raises BadIndex)

abbrev pub measured : {A : Type 0} → Info → Option (Outcome A)
measured (object c) = None
measured (array type length) = pushes_one (int (pos length))

-- ---- cells

-- the one cell that an instruction reads, by the values that it pops
abbrev pub cell_read : {A : Type 0} → (A → Info) → Instruction → List (Value A) → Option (Cell A)
cell_read info (gets_static f) [] = Some (static f)
cell_read info (gets_field f) (ref a ∷ []) = Some (field a f)
cell_read info loads_element (int i ∷ ref a ∷ []) = element_at a i (info a)
cell_read info instruction values = None

-- ---- groups of opcodes

-- 87 pop, 88 pop2, 89 dup, 90 dup_x1, 91 dup_x2, 92 dup2, 93 dup2_x1, 94 dup2_x2, 95 swap, from the top of the stack on
abbrev pub shuffled : {A : Type 0} → ℕ → List (Value A) → Option (List (Value A))
shuffled op (a ∷ []) = if op == 87 then Some [] else if op == 89 then Some (a ∷ a ∷ []) else None
shuffled op (a ∷ b ∷ []) =
    if op == 88 then Some []
    else if op == 90 then Some (a ∷ b ∷ a ∷ [])
    else if op == 92 then Some (a ∷ b ∷ a ∷ b ∷ [])
    else if op == 95 then Some (b ∷ a ∷ [])
    else None
shuffled op (a ∷ b ∷ c ∷ []) =
    if op == 91 then Some (a ∷ b ∷ c ∷ a ∷ [])
    else if op == 93 then Some (a ∷ b ∷ c ∷ a ∷ b ∷ [])
    else None
shuffled op (a ∷ b ∷ c ∷ d ∷ []) = if op == 94 then Some (a ∷ b ∷ c ∷ d ∷ a ∷ b ∷ []) else None
shuffled op values = None

abbrev pub pushes_all : {A : Type 0} → Option (List (Value A)) → Option (Outcome A)
pushes_all None = None
pushes_all (Some values) = only (pushes values)

abbrev pub computed : {A : Type 0} → Option ℤ → Option (Outcome A)
computed None = only (raises ZeroDivisor)
computed (Some z) = pushes_one (int z)

abbrev pub jumps_if : {A : Type 0} → ℕ → Bool → Option (Outcome A)
jumps_if target false = only (pushes [])
jumps_if target true = only (jumps target)

-- 165 if_acmpeq, 166 if_acmpne
abbrev pub reference_test : ℕ → Bool → Bool
reference_test op same = if op == 165 then same else not same

abbrev pub compared : {A : Type 0} → ℕ → ℕ → Option Bool → Option (Outcome A)
compared op target None = None
compared op target (Some same) = jumps_if target (reference_test op same)

-- 198 ifnull, 199 ifnonnull
abbrev pub null_test : ℕ → Bool → Bool
null_test op is_null = if op == 198 then is_null else not is_null

-- the target of the first of these keys that the int is
abbrev pub switched : ℤ → List (ℤ × ℕ) → ℕ → ℕ
switched z [] other = other
switched z (first ∷ cases) other = if int_eq z first.0 then first.1 else switched z cases other

abbrev pub created_array : {A : Type 0} → FieldDesc → ℤ → Option (Outcome A)
created_array type n = if int_lt n (pos 0) then only (raises NegativeLength) else only (allocates (array type (unsigned_abs n)))

abbrev pub cast_to : {A : Type 0} → A → Bool → Option (Outcome A)
cast_to a true = pushes_one (ref a)
cast_to a false = only (raises FailingCast)

abbrev pub text_pushed : {A : Type 0} → Option A → Option (Outcome A)
text_pushed None = None
text_pushed (Some a) = pushes_one (ref a)

-- ---- one instruction

-- What an instruction that is no call does with the values that it pops or loads, the top of the stack first, and with the content of
-- the cell that it reads. None where the values aren't those that it needs, which typed code never comes to.
abbrev pub exec : {A : Type 0} → Ways A → Fits → Instruction → Option (Value A) → List (Value A) → Option (Outcome A)
exec ways fits passes content [] = only (pushes [])
exec ways fits pushes_null content [] = pushes_one null
exec ways fits (pushes_int z) content [] = pushes_one (int z)
exec ways fits (pushes_text text) content [] = text_pushed (ways.text text)
exec ways fits (loads k) content (v ∷ []) = pushes_one v
exec ways fits (stores k) content (v ∷ []) = only (puts k v)
exec ways fits (increments k by) content (int x ∷ []) = only (puts k (int (int_wrapping_add w32 x by)))
exec ways fits loads_element content (int i ∷ null ∷ []) = only (raises NullBase)
exec ways fits loads_element content (int i ∷ ref a ∷ []) = loaded_element content i (ways.info a)
exec ways fits stores_element content (v ∷ int i ∷ null ∷ []) = only (raises NullBase)
exec ways fits stores_element content (v ∷ int i ∷ ref a ∷ []) = stored_element fits ways.info v i a (ways.info a)
exec ways fits (shuffles op) content values = pushes_all (shuffled op values)
exec ways fits (computes op) content (int y ∷ int x ∷ []) = computed (int_op op x y)
exec ways fits negates content (int x ∷ []) = pushes_one (int (negated x))
exec ways fits (narrows op) content (int x ∷ []) = pushes_one (int (narrow op x))
exec ways fits (tests op target) content (int x ∷ []) = jumps_if target (int_test op x (pos 0))
exec ways fits (compares op target) content (int y ∷ int x ∷ []) = jumps_if target (int_test op x y)
exec ways fits (compares_references op target) content (b ∷ a ∷ []) = compared op target (same_reference ways.same a b)
exec ways fits (tests_null op target) content (null ∷ []) = jumps_if target (null_test op true)
exec ways fits (tests_null op target) content (ref a ∷ []) = jumps_if target (null_test op false)
exec ways fits (jumps_to target) content [] = only (jumps target)
exec ways fits (switches cases other) content (int z ∷ []) = only (jumps (switched z cases other))
exec ways fits (returns_value type) content (v ∷ []) = only (returns (Some (kept type v)))
exec ways fits returns_nothing content [] = only (returns None)
exec ways fits (gets_static f) content [] = content_pushed content
exec ways fits (puts_static f type) content (v ∷ []) = writes (static f) (kept type v)
exec ways fits (gets_field f) content (null ∷ []) = only (raises NullBase)
exec ways fits (gets_field f) content (ref a ∷ []) = content_pushed content
exec ways fits (puts_field f type) content (v ∷ null ∷ []) = only (raises NullBase)
exec ways fits (puts_field f type) content (v ∷ ref a ∷ []) = writes (field a f) (kept type v)
exec ways fits (creates c) content [] = only (allocates (object c))
exec ways fits (creates_array type) content (int n ∷ []) = created_array type n
exec ways fits measures content (null ∷ []) = only (raises NullBase)
exec ways fits measures content (ref a ∷ []) = measured (ways.info a)
exec ways fits throws content (null ∷ []) = only (raises NullBase)
exec ways fits throws content (ref a ∷ []) = only (throws_at a)
exec ways fits (casts type) content (null ∷ []) = pushes_one null
exec ways fits (casts type) content (ref a ∷ []) = cast_to a (fits.of_type (ways.info a) type)
exec ways fits (checks type) content (null ∷ []) = pushes_one (int (pos 0))
exec ways fits (checks type) content (ref a ∷ []) = pushes_one (int (bool_int (fits.of_type (ways.info a) type)))
exec ways fits instruction content values = None

-- how many values it pops; a load and iinc take the value of a local in their place
abbrev pub pops : Instruction → ℕ
pops passes = 0
pops pushes_null = 0
pops (pushes_int z) = 0
pops (pushes_text text) = 0
pops (loads k) = 0
pops (stores k) = 1
pops (increments k by) = 0
pops loads_element = 2
pops stores_element = 3
pops (shuffles op) = if op == 87 || op == 89 then 1 else if op == 91 || op == 93 then 3 else if op == 94 then 4 else 2
pops (computes op) = 2
pops negates = 1
pops (narrows op) = 1
pops (tests op target) = 1
pops (compares op target) = 2
pops (compares_references op target) = 2
pops (tests_null op target) = 1
pops (jumps_to target) = 0
pops (switches cases other) = 1
pops (returns_value type) = 1
pops returns_nothing = 0
pops (gets_static f) = 0
pops (puts_static f type) = 1
pops (gets_field f) = 1
pops (puts_field f type) = 2
pops (creates c) = 0
pops (creates_array type) = 1
pops measures = 1
pops throws = 1
pops (casts type) = 1
pops (checks type) = 1
pops (calls op type method count) = count

-- the local that it takes a value from
abbrev pub local_taken : Instruction → Option ℕ
local_taken (loads k) = Some k
local_taken (increments k by) = Some k
local_taken instruction = None

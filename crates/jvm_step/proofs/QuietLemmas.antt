-- An instruction that writes a cell pushes nothing.
use Rattle.std.proofs.Common.{refl, ℕ, Bool, true, false, not, List, [], ◌∷◌, Option, Some, None}
use Rattle.std.specs.Prelude.{ℤ, pos, int_lt, unsigned_abs, if◌then◌else◌, IfSome}
use Rattle.jo_text.specs.declared.descriptors.FieldDesc.{FieldDesc}
use Rattle.jo_prog.specs.Values.{Value, int, null, ref, Info, object, array, element}
use Rattle.jo_prog.specs.declared.sites.Cause.TheVariants.{WrongElement, NegativeLength, BadIndex}
use Rattle.machine.specs.Arithmetic.{int_op, int_test}
use Rattle.machine.specs.Instructions.{Instruction, passes, pushes_null, pushes_int, pushes_text, loads, stores, increments, loads_element, stores_element, shuffles, computes, negates, narrows, tests, compares, compares_references, tests_null, jumps_to, switches, returns_value, returns_nothing, gets_static, puts_static, gets_field, puts_field, creates, creates_array, measures, throws, casts, checks}
use Rattle.machine.specs.Execution.{Ways, Fits, Outcome, only, raises, allocates, writes, kept, reference_test, null_test, is_inside, takes_value, stored_element, loaded_element, measured, shuffled, pushes_all, computed, jumps_if, compared, same_reference, created_array, cast_to, text_pushed, content_pushed, exec}
use Rattle.jvm_step.specs.Fetches.{IsQuiet}

abbrev AreQuiet : Option (Outcome ℕ) → Type 0
AreQuiet outcome = IfSome outcome IsQuiet

either : (b : Bool) (x y : Option (Outcome ℕ)) → AreQuiet x → AreQuiet y → AreQuiet (if b then x else y)
either true x y first second = first
either false x y first second = second

text_quiet : (found : Option ℕ) → AreQuiet (text_pushed found)
text_quiet None = tt
text_quiet (Some a) = tt

content_quiet : (content : Option (Value ℕ)) → AreQuiet (content_pushed content)
content_quiet None = tt
content_quiet (Some v) = tt

loaded_quiet : (content : Option (Value ℕ)) (i : ℤ) (info : Info) → AreQuiet (loaded_element content i info)
loaded_quiet content i (object c) = tt
loaded_quiet content i (array type length) = either (is_inside i length) (content_pushed content) (only (raises BadIndex)) (content_quiet content) tt

stored_quiet : (fits : Fits) (info : ℕ → Info) (v : Value ℕ) (i : ℤ) (a : ℕ) (at : Info) → AreQuiet (stored_element fits info v i a at)
stored_quiet fits info v i a (object c) = tt
stored_quiet fits info v i a (array type length) = either (not (is_inside i length)) (only (raises BadIndex)) (if not (takes_value fits info type v) then only (raises WrongElement) else writes (element a (unsigned_abs i)) (kept type v)) tt
    (either (not (takes_value fits info type v)) (only (raises WrongElement)) (writes (element a (unsigned_abs i)) (kept type v)) tt refl)

all_quiet : (values : Option (List (Value ℕ))) → AreQuiet (pushes_all values)
all_quiet None = tt
all_quiet (Some values) = tt

computed_quiet : (found : Option ℤ) → AreQuiet (computed found)
computed_quiet None = tt
computed_quiet (Some z) = tt

jumps_quiet : (target : ℕ) (b : Bool) → AreQuiet (jumps_if target b)
jumps_quiet target false = tt
jumps_quiet target true = tt

compared_quiet : (op target : ℕ) (same : Option Bool) → AreQuiet (compared op target same)
compared_quiet op target None = tt
compared_quiet op target (Some same) = jumps_quiet target (reference_test op same)

created_quiet : (type : FieldDesc) (n : ℤ) → AreQuiet (created_array type n)
created_quiet type n = either (int_lt n (pos 0)) (only (raises NegativeLength)) (only (allocates (array type (unsigned_abs n)))) tt tt

measured_quiet : (info : Info) → AreQuiet (measured info)
measured_quiet (object c) = tt
measured_quiet (array type length) = tt

cast_quiet : (a : ℕ) (b : Bool) → AreQuiet (cast_to a b)
cast_quiet a true = tt
cast_quiet a false = tt

pub quiet : (ways : Ways ℕ) (fits : Fits) (instruction : Instruction) (content : Option (Value ℕ)) (values : List (Value ℕ)) → AreQuiet (exec ways fits instruction content values)
quiet ways fits passes content [] = tt
quiet ways fits pushes_null content [] = tt
quiet ways fits (pushes_int z) content [] = tt
quiet ways fits (pushes_text text) content [] = text_quiet (ways.text text)
quiet ways fits (loads k) content (v ∷ []) = tt
quiet ways fits (stores k) content (v ∷ []) = tt
quiet ways fits (increments k by) content (int x ∷ []) = tt
quiet ways fits loads_element content (int i ∷ null ∷ []) = tt
quiet ways fits loads_element content (int i ∷ ref a ∷ []) = loaded_quiet content i (ways.info a)
quiet ways fits stores_element content (v ∷ int i ∷ null ∷ []) = tt
quiet ways fits stores_element content (v ∷ int i ∷ ref a ∷ []) = stored_quiet fits ways.info v i a (ways.info a)
quiet ways fits (shuffles op) content values = all_quiet (shuffled op values)
quiet ways fits (computes op) content (int y ∷ int x ∷ []) = computed_quiet (int_op op x y)
quiet ways fits negates content (int x ∷ []) = tt
quiet ways fits (narrows op) content (int x ∷ []) = tt
quiet ways fits (tests op target) content (int x ∷ []) = jumps_quiet target (int_test op x (pos 0))
quiet ways fits (compares op target) content (int y ∷ int x ∷ []) = jumps_quiet target (int_test op x y)
quiet ways fits (compares_references op target) content (b ∷ a ∷ []) = compared_quiet op target (same_reference ways.same a b)
quiet ways fits (tests_null op target) content (null ∷ []) = jumps_quiet target (null_test op true)
quiet ways fits (tests_null op target) content (ref a ∷ []) = jumps_quiet target (null_test op false)
quiet ways fits (jumps_to target) content [] = tt
quiet ways fits (switches cases other) content (int z ∷ []) = tt
quiet ways fits (returns_value type) content (v ∷ []) = tt
quiet ways fits returns_nothing content [] = tt
quiet ways fits (gets_static f) content [] = content_quiet content
quiet ways fits (puts_static f type) content (v ∷ []) = refl
quiet ways fits (gets_field f) content (null ∷ []) = tt
quiet ways fits (gets_field f) content (ref a ∷ []) = content_quiet content
quiet ways fits (puts_field f type) content (v ∷ null ∷ []) = tt
quiet ways fits (puts_field f type) content (v ∷ ref a ∷ []) = refl
quiet ways fits (creates c) content [] = tt
quiet ways fits (creates_array type) content (int n ∷ []) = created_quiet type n
quiet ways fits measures content (null ∷ []) = tt
quiet ways fits measures content (ref a ∷ []) = measured_quiet (ways.info a)
quiet ways fits throws content (null ∷ []) = tt
quiet ways fits throws content (ref a ∷ []) = tt
quiet ways fits (casts type) content (null ∷ []) = tt
quiet ways fits (casts type) content (ref a ∷ []) = cast_quiet a (fits.of_type (ways.info a) type)
quiet ways fits (checks type) content (null ∷ []) = tt
quiet ways fits (checks type) content (ref a ∷ []) = tt
quiet ways fits instruction content values = tt

-- An instruction does the same with addresses renamed.
use Rattle.std.specs.Prelude.{◌≡◌, refl, ℕ, ℤ, pos, Bool, true, false, not, ◌&&◌, int_lt, unsigned_abs, List, [], ◌∷◌, Option, Some, None, nat_lt, ◌==◌, ◌||◌, if◌then◌else◌}
use Rattle.std.proofs.Common.{ap}
use Rattle.std.specs.Int.{w32, int_wrapping_add}
use Rattle.jo_text.specs.declared.descriptors.FieldDesc.{FieldDesc}
use Rattle.jo_prog.specs.declared.program.TypeRef.{TypeRef}
use Rattle.jo_prog.specs.declared.sites.Cause.{Cause}
use Rattle.jo_prog.specs.declared.sites.Cause.TheVariants.{ZeroDivisor, NullBase, FailingCast, WrongElement, NegativeLength, BadIndex}
use Rattle.jo_prog.specs.Values.{Value, int, null, ref, Info, object, array, Cell, field, element, static, cursor, started}
use Rattle.machine.specs.Arithmetic.{int_op, int_test, kept_int, narrow, negated}
use Rattle.machine.specs.Instructions.{Instruction, passes, pushes_null, pushes_int, pushes_text, loads, stores, increments, loads_element, stores_element, shuffles, computes, negates, narrows, tests, compares, compares_references, tests_null, jumps_to, switches, returns_value, returns_nothing, gets_static, puts_static, gets_field, puts_field, creates, creates_array, measures, throws, casts, checks, calls}
use Rattle.machine.specs.Execution.{Ways, Fits, Effect, pushes, puts, jumps, raises, throws_at, allocates, returns, Outcome, only, pushes_one, writes, kept, same_reference, bool_int, is_inside, element_at, takes_value, stored_element, loaded_element, measured, cell_read, content_pushed, shuffled, pushes_all, computed, jumps_if, reference_test, compared, null_test, switched, created_array, cast_to, text_pushed, exec}
use Rattle.machine.specs.Renamings.{Both, neither, each, RenamedValue, same_int, both_null, renamed, RenamedValues, no_values, one_more, RenamedCell, same_field, same_element, same_static, RenamedEffect, both_push, both_put, both_jump, both_raise, both_throw, both_allocate, both_return, RenamedChange, RenamedOutcome, IsRenaming}

-- ---- outcomes

only_same : {A B : Type 0} (R : A → B → Type 0) (x : Effect A) (y : Effect B) → RenamedEffect R x y → Both (RenamedOutcome R) (only x) (only y)
only_same R x y same = each _ _ (record { effect = same; written = neither })

one_value : {A B : Type 0} (R : A → B → Type 0) (v : Value A) (w : Value B) → RenamedValue R v w → RenamedValues R (v ∷ []) (w ∷ [])
one_value R v w same = one_more v w [] [] same no_values

pushed : {A B : Type 0} (R : A → B → Type 0) (v : Value A) (w : Value B) → RenamedValue R v w → Both (RenamedOutcome R) (pushes_one v) (pushes_one w)
pushed R v w same = only_same R _ _ (both_push _ _ (one_value R v w same))

nothing_pushed : {A B : Type 0} (R : A → B → Type 0) → Both (RenamedOutcome R) (only (pushes [])) (only (pushes []))
nothing_pushed R = only_same R _ _ (both_push _ _ no_values)

written_same : {A B : Type 0} (R : A → B → Type 0) (x : Cell A) (y : Cell B) (v : Value A) (w : Value B) → RenamedCell R x y → RenamedValue R v w
    → Both (RenamedOutcome R) (writes x v) (writes y w)
written_same R x y v w cell same =
    each _ _ (record { effect = both_push _ _ no_values; written = each _ _ (record { cell = cell; value = same }) })

raised_same : {A B : Type 0} (R : A → B → Type 0) (cause : Cause) → Both (RenamedOutcome R) (only (raises cause)) (only (raises cause))
raised_same R cause = only_same R _ _ (both_raise cause)

int_pushed : {A B : Type 0} (R : A → B → Type 0) (z : ℤ) → Both (RenamedOutcome R) (pushes_one (int z)) (pushes_one (int z))
int_pushed R z = pushed R _ _ (same_int z)

-- ---- values

kept_same : {A B : Type 0} (R : A → B → Type 0) (type : FieldDesc) (v : Value A) (w : Value B) → RenamedValue R v w → RenamedValue R (kept type v) (kept type w)
kept_same R type v w (same_int z) = same_int (kept_int type z)
kept_same R type v w both_null = both_null
kept_same R type v w (renamed a b r) = renamed a b r

content_same : {A B : Type 0} (R : A → B → Type 0) (c : Option (Value A)) (d : Option (Value B)) → Both (RenamedValue R) c d
    → Both (RenamedOutcome R) (content_pushed c) (content_pushed d)
content_same R c d neither = neither
content_same R c d (each v w same) = pushed R v w same

text_same : {A B : Type 0} (R : A → B → Type 0) (a : Option A) (b : Option B) → Both R a b → Both (RenamedOutcome R) (text_pushed a) (text_pushed b)
text_same R a b neither = neither
text_same R a b (each x y r) = pushed R _ _ (renamed x y r)

-- ---- arithmetic and jumps

computed_same : {A B : Type 0} (R : A → B → Type 0) (result : Option ℤ) → Both (RenamedOutcome R) (computed result) (computed result)
computed_same R None = raised_same R ZeroDivisor
computed_same R (Some z) = int_pushed R z

jumps_same : {A B : Type 0} (R : A → B → Type 0) (target : ℕ) (test : Bool) → Both (RenamedOutcome R) (jumps_if target test) (jumps_if target test)
jumps_same R target false = nothing_pushed R
jumps_same R target true = only_same R _ _ (both_jump target)

compared_same : {A B : Type 0} (R : A → B → Type 0) (op target : ℕ) (test : Option Bool) → Both (RenamedOutcome R) (compared op target test) (compared op target test)
compared_same R op target None = neither
compared_same R op target (Some same) = jumps_same R target (reference_test op same)

made_same : {A B : Type 0} (R : A → B → Type 0) (type : FieldDesc) (n : ℤ) → Both (RenamedOutcome R) (created_array type n) (created_array type n)
made_same R type n = by_test (int_lt n (pos 0))
  where
    by_test : (negative : Bool) → Both (RenamedOutcome R) (if negative then only (raises NegativeLength) else only (allocates (array type (unsigned_abs n)))) (if negative then only (raises NegativeLength) else only (allocates (array type (unsigned_abs n))))
    by_test true = raised_same R NegativeLength
    by_test false = only_same R _ _ (both_allocate _)

cast_same : {A B : Type 0} (R : A → B → Type 0) (a : A) (b : B) → R a b → (test : Bool) → Both (RenamedOutcome R) (cast_to a test) (cast_to b test)
cast_same R a b r true = pushed R _ _ (renamed a b r)
cast_same R a b r false = raised_same R FailingCast

-- ---- arrays

element_same : {A B : Type 0} (R : A → B → Type 0) (a : A) (b : B) → R a b → (i : ℤ) (info : Info) → Both (RenamedCell R) (element_at a i info) (element_at b i info)
element_same R a b r i (object c) = neither
element_same R a b r i (array type length) = by_test (is_inside i length)
  where
    by_test : (inside : Bool) → Both (RenamedCell R) (if inside then Some (element a (unsigned_abs i)) else None) (if inside then Some (element b (unsigned_abs i)) else None)
    by_test true = each _ _ (same_element a b _ r)
    by_test false = neither

loaded_same : {A B : Type 0} (R : A → B → Type 0) (c : Option (Value A)) (d : Option (Value B)) → Both (RenamedValue R) c d → (i : ℤ) (info : Info)
    → Both (RenamedOutcome R) (loaded_element c i info) (loaded_element d i info)
loaded_same R c d same i (object k) = neither
loaded_same R c d same i (array type length) = by_test (is_inside i length)
  where
    by_test : (inside : Bool) → Both (RenamedOutcome R) (if inside then content_pushed c else only (raises BadIndex)) (if inside then content_pushed d else only (raises BadIndex))
    by_test true = content_same R c d same
    by_test false = raised_same R BadIndex

takes_same : {A B : Type 0} (R : A → B → Type 0) (one : A → Info) (other : B → Info) → ((a : A) (b : B) → R a b → one a ≡ other b)
    → (fits : Fits) (type : FieldDesc) (v : Value A) (w : Value B) → RenamedValue R v w → takes_value fits one type v ≡ takes_value fits other type w
takes_same R one other info fits type v w (same_int z) = refl
takes_same R one other info fits type v w both_null = refl
takes_same R one other info fits type v w (renamed a b r) = ap (fits.as_element type) (info a b r)

stored_same : {A B : Type 0} (R : A → B → Type 0) (one : A → Info) (other : B → Info) → ((a : A) (b : B) → R a b → one a ≡ other b)
    → (fits : Fits) (v : Value A) (w : Value B) → RenamedValue R v w → (i : ℤ) (a : A) (b : B) → R a b → (info : Info)
    → Both (RenamedOutcome R) (stored_element fits one v i a info) (stored_element fits other w i b info)
stored_same R one other info fits v w same i a b r (object c) = neither
stored_same R one other info fits v w same i a b r (array type length) =
    rw (takes_same R one other info fits type v w same) (by_tests (is_inside i length) (takes_value fits other type w))
  where
    by_tests : (inside fitting : Bool) → Both (RenamedOutcome R)
        (if not inside then only (raises BadIndex) else if not fitting then only (raises WrongElement) else writes (element a (unsigned_abs i)) (kept type v))
        (if not inside then only (raises BadIndex) else if not fitting then only (raises WrongElement) else writes (element b (unsigned_abs i)) (kept type w))
    by_tests false fitting = raised_same R BadIndex
    by_tests true false = raised_same R WrongElement
    by_tests true true = written_same R _ _ _ _ (same_element a b _ r) (kept_same R type v w same)

measured_same : {A B : Type 0} (R : A → B → Type 0) (info : Info) → Both (RenamedOutcome R) (measured info) (measured info)
measured_same R (object c) = neither
measured_same R (array type length) = int_pushed R (pos length)

-- ---- the stack

abbrev pub AllSame : {A B : Type 0} (R : A → B → Type 0) → Option (List (Value A)) → Option (List (Value B)) → Type 0
AllSame R = Both (RenamedValues R)

all_pushed : {A B : Type 0} (R : A → B → Type 0) (vs : Option (List (Value A))) (ws : Option (List (Value B))) → AllSame R vs ws
    → Both (RenamedOutcome R) (pushes_all vs) (pushes_all ws)
all_pushed R vs ws neither = neither
all_pushed R vs ws (each xs ys same) = only_same R _ _ (both_push xs ys same)

by_if : {A B : Type 0} (R : A → B → Type 0) (test : Bool) (vs : List (Value A)) (ws : List (Value B)) → RenamedValues R vs ws
    → (x : Option (List (Value A))) (y : Option (List (Value B))) → AllSame R x y → AllSame R (if test then Some vs else x) (if test then Some ws else y)
by_if R true vs ws same x y rest = each _ _ same
by_if R false vs ws same x y rest = rest

shuffled_same : {A B : Type 0} (R : A → B → Type 0) (op : ℕ) (vs : List (Value A)) (ws : List (Value B)) → RenamedValues R vs ws
    → AllSame R (shuffled op vs) (shuffled op ws)
shuffled_same R op vs ws no_values = neither
shuffled_same R op vs ws (one_more a b xs ys p no_values) =
    by_if R (op == 87) _ _ no_values _ _ (by_if R (op == 89) _ _ (one_more _ _ _ _ p (one_value R _ _ p)) _ _ neither)
shuffled_same R op vs ws (one_more a b xs ys p (one_more c d cs ds q no_values)) =
    by_if R (op == 88) _ _ no_values _ _
    (by_if R (op == 90) _ _ (one_more _ _ _ _ p (one_more _ _ _ _ q (one_value R _ _ p))) _ _
    (by_if R (op == 92) _ _ (one_more _ _ _ _ p (one_more _ _ _ _ q (one_more _ _ _ _ p (one_value R _ _ q)))) _ _
    (by_if R (op == 95) _ _ (one_more _ _ _ _ q (one_value R _ _ p)) _ _ neither)))
shuffled_same R op vs ws (one_more a b xs ys p (one_more c d cs ds q (one_more e f es fs r no_values))) =
    by_if R (op == 91) _ _ (one_more _ _ _ _ p (one_more _ _ _ _ q (one_more _ _ _ _ r (one_value R _ _ p)))) _ _
    (by_if R (op == 93) _ _ (one_more _ _ _ _ p (one_more _ _ _ _ q (one_more _ _ _ _ r (one_more _ _ _ _ p (one_value R _ _ q))))) _ _ neither)
shuffled_same R op vs ws (one_more a b xs ys p (one_more c d cs ds q (one_more e f es fs r (one_more g h gs hs s no_values)))) =
    by_if R (op == 94) _ _ (one_more _ _ _ _ p (one_more _ _ _ _ q (one_more _ _ _ _ r (one_more _ _ _ _ s (one_more _ _ _ _ p (one_value R _ _ q)))))) _ _ neither
shuffled_same R op vs ws (one_more a b xs ys p (one_more c d cs ds q (one_more e f es fs r (one_more g h gs hs s (one_more i j hs2 js2 t more))))) = neither

-- two references, or a reference and null; two ints are none
references_same : {A B : Type 0} (R : A → B → Type 0) (one : Ways A) (other : Ways B) → IsRenaming R one other
    → (u v : Value A) (x y : Value B) → RenamedValue R u x → RenamedValue R v y → same_reference one.same u v ≡ same_reference other.same x y
references_same R one other is u v x y (same_int z) (same_int n) = refl
references_same R one other is u v x y (same_int z) both_null = refl
references_same R one other is u v x y (same_int z) (renamed a b r) = refl
references_same R one other is u v x y both_null (same_int n) = refl
references_same R one other is u v x y both_null both_null = refl
references_same R one other is u v x y both_null (renamed a b r) = refl
references_same R one other is u v x y (renamed a b r) (same_int n) = refl
references_same R one other is u v x y (renamed a b r) both_null = refl
references_same R one other is u v x y (renamed a b r) (renamed c d q) = rw (is.same a c b d r q) refl

-- ---- one instruction

abbrev pub Same : {A B : Type 0} (R : A → B → Type 0) → Option (Outcome A) → Option (Outcome B) → Type 0
Same R = Both (RenamedOutcome R)

pub exec_same : {A B : Type 0} (R : A → B → Type 0) (one : Ways A) (other : Ways B) → IsRenaming R one other → (fits : Fits) (instruction : Instruction)
    (c : Option (Value A)) (d : Option (Value B)) → Both (RenamedValue R) c d → (vs : List (Value A)) (ws : List (Value B)) → RenamedValues R vs ws
    → Same R (exec one fits instruction c vs) (exec other fits instruction d ws)
exec_same R one other is fits passes c d k vs ws no_values = nothing_pushed R
exec_same R one other is fits passes c d k vs ws (one_more v0 w0 vs0 ws0 p0 more) = neither
exec_same R one other is fits pushes_null c d k vs ws no_values = pushed R null null both_null
exec_same R one other is fits pushes_null c d k vs ws (one_more v0 w0 vs0 ws0 p0 more) = neither
exec_same R one other is fits (pushes_int z) c d k vs ws no_values = int_pushed R z
exec_same R one other is fits (pushes_int z) c d k vs ws (one_more v0 w0 vs0 ws0 p0 more) = neither
exec_same R one other is fits (pushes_text text) c d k vs ws no_values = text_same R _ _ (is.text text)
exec_same R one other is fits (pushes_text text) c d k vs ws (one_more v0 w0 vs0 ws0 p0 more) = neither
exec_same R one other is fits (loads i) c d k vs ws no_values = neither
exec_same R one other is fits (loads i) c d k vs ws (one_more v0 w0 vs0 ws0 p0 no_values) = pushed R _ _ p0
exec_same R one other is fits (loads i) c d k vs ws (one_more v0 w0 vs0 ws0 p0 (one_more v1 w1 vs1 ws1 p1 more)) = neither
exec_same R one other is fits (stores i) c d k vs ws no_values = neither
exec_same R one other is fits (stores i) c d k vs ws (one_more v0 w0 vs0 ws0 p0 no_values) = only_same R _ _ (both_put i _ _ p0)
exec_same R one other is fits (stores i) c d k vs ws (one_more v0 w0 vs0 ws0 p0 (one_more v1 w1 vs1 ws1 p1 more)) = neither
exec_same R one other is fits (increments i by) c d k vs ws no_values = neither
exec_same R one other is fits (increments i by) c d k vs ws (one_more v0 w0 vs0 ws0 (same_int z0) no_values) = only_same R _ _ (both_put i _ _ (same_int _))
exec_same R one other is fits (increments i by) c d k vs ws (one_more v0 w0 vs0 ws0 both_null no_values) = neither
exec_same R one other is fits (increments i by) c d k vs ws (one_more v0 w0 vs0 ws0 (renamed a0 b0 r0) no_values) = neither
exec_same R one other is fits (increments i by) c d k vs ws (one_more v0 w0 vs0 ws0 (same_int z0) (one_more v1 w1 vs1 ws1 p1 more)) = neither
exec_same R one other is fits (increments i by) c d k vs ws (one_more v0 w0 vs0 ws0 both_null (one_more v1 w1 vs1 ws1 p1 more)) = neither
exec_same R one other is fits (increments i by) c d k vs ws (one_more v0 w0 vs0 ws0 (renamed a0 b0 r0) (one_more v1 w1 vs1 ws1 p1 more)) = neither
exec_same R one other is fits loads_element c d k vs ws no_values = neither
exec_same R one other is fits loads_element c d k vs ws (one_more v0 w0 vs0 ws0 (same_int z0) no_values) = neither
exec_same R one other is fits loads_element c d k vs ws (one_more v0 w0 vs0 ws0 both_null no_values) = neither
exec_same R one other is fits loads_element c d k vs ws (one_more v0 w0 vs0 ws0 (renamed a0 b0 r0) no_values) = neither
exec_same R one other is fits loads_element c d k vs ws (one_more v0 w0 vs0 ws0 (same_int z0) (one_more v1 w1 vs1 ws1 (same_int z1) no_values)) = neither
exec_same R one other is fits loads_element c d k vs ws (one_more v0 w0 vs0 ws0 (same_int z0) (one_more v1 w1 vs1 ws1 both_null no_values)) = raised_same R NullBase
exec_same R one other is fits loads_element c d k vs ws (one_more v0 w0 vs0 ws0 (same_int z0) (one_more v1 w1 vs1 ws1 (renamed a1 b1 r1) no_values)) = rw (is.info a1 b1 r1) (loaded_same R c d k z0 (other.info b1))
exec_same R one other is fits loads_element c d k vs ws (one_more v0 w0 vs0 ws0 both_null (one_more v1 w1 vs1 ws1 (same_int z1) no_values)) = neither
exec_same R one other is fits loads_element c d k vs ws (one_more v0 w0 vs0 ws0 both_null (one_more v1 w1 vs1 ws1 both_null no_values)) = neither
exec_same R one other is fits loads_element c d k vs ws (one_more v0 w0 vs0 ws0 both_null (one_more v1 w1 vs1 ws1 (renamed a1 b1 r1) no_values)) = neither
exec_same R one other is fits loads_element c d k vs ws (one_more v0 w0 vs0 ws0 (renamed a0 b0 r0) (one_more v1 w1 vs1 ws1 (same_int z1) no_values)) = neither
exec_same R one other is fits loads_element c d k vs ws (one_more v0 w0 vs0 ws0 (renamed a0 b0 r0) (one_more v1 w1 vs1 ws1 both_null no_values)) = neither
exec_same R one other is fits loads_element c d k vs ws (one_more v0 w0 vs0 ws0 (renamed a0 b0 r0) (one_more v1 w1 vs1 ws1 (renamed a1 b1 r1) no_values)) = neither
exec_same R one other is fits loads_element c d k vs ws (one_more v0 w0 vs0 ws0 (same_int z0) (one_more v1 w1 vs1 ws1 (same_int z1) (one_more v2 w2 vs2 ws2 p2 more))) = neither
exec_same R one other is fits loads_element c d k vs ws (one_more v0 w0 vs0 ws0 (same_int z0) (one_more v1 w1 vs1 ws1 both_null (one_more v2 w2 vs2 ws2 p2 more))) = neither
exec_same R one other is fits loads_element c d k vs ws (one_more v0 w0 vs0 ws0 (same_int z0) (one_more v1 w1 vs1 ws1 (renamed a1 b1 r1) (one_more v2 w2 vs2 ws2 p2 more))) = neither
exec_same R one other is fits loads_element c d k vs ws (one_more v0 w0 vs0 ws0 both_null (one_more v1 w1 vs1 ws1 (same_int z1) (one_more v2 w2 vs2 ws2 p2 more))) = neither
exec_same R one other is fits loads_element c d k vs ws (one_more v0 w0 vs0 ws0 both_null (one_more v1 w1 vs1 ws1 both_null (one_more v2 w2 vs2 ws2 p2 more))) = neither
exec_same R one other is fits loads_element c d k vs ws (one_more v0 w0 vs0 ws0 both_null (one_more v1 w1 vs1 ws1 (renamed a1 b1 r1) (one_more v2 w2 vs2 ws2 p2 more))) = neither
exec_same R one other is fits loads_element c d k vs ws (one_more v0 w0 vs0 ws0 (renamed a0 b0 r0) (one_more v1 w1 vs1 ws1 (same_int z1) (one_more v2 w2 vs2 ws2 p2 more))) = neither
exec_same R one other is fits loads_element c d k vs ws (one_more v0 w0 vs0 ws0 (renamed a0 b0 r0) (one_more v1 w1 vs1 ws1 both_null (one_more v2 w2 vs2 ws2 p2 more))) = neither
exec_same R one other is fits loads_element c d k vs ws (one_more v0 w0 vs0 ws0 (renamed a0 b0 r0) (one_more v1 w1 vs1 ws1 (renamed a1 b1 r1) (one_more v2 w2 vs2 ws2 p2 more))) = neither
exec_same R one other is fits stores_element c d k vs ws no_values = neither
exec_same R one other is fits stores_element c d k vs ws (one_more v0 w0 vs0 ws0 p0 no_values) = neither
exec_same R one other is fits stores_element c d k vs ws (one_more v0 w0 vs0 ws0 p0 (one_more v1 w1 vs1 ws1 (same_int z1) no_values)) = neither
exec_same R one other is fits stores_element c d k vs ws (one_more v0 w0 vs0 ws0 p0 (one_more v1 w1 vs1 ws1 both_null no_values)) = neither
exec_same R one other is fits stores_element c d k vs ws (one_more v0 w0 vs0 ws0 p0 (one_more v1 w1 vs1 ws1 (renamed a1 b1 r1) no_values)) = neither
exec_same R one other is fits stores_element c d k vs ws (one_more v0 w0 vs0 ws0 p0 (one_more v1 w1 vs1 ws1 (same_int z1) (one_more v2 w2 vs2 ws2 (same_int z2) no_values))) = neither
exec_same R one other is fits stores_element c d k vs ws (one_more v0 w0 vs0 ws0 p0 (one_more v1 w1 vs1 ws1 (same_int z1) (one_more v2 w2 vs2 ws2 both_null no_values))) = raised_same R NullBase
exec_same R one other is fits stores_element c d k vs ws (one_more v0 w0 vs0 ws0 p0 (one_more v1 w1 vs1 ws1 (same_int z1) (one_more v2 w2 vs2 ws2 (renamed a2 b2 r2) no_values))) = rw (is.info a2 b2 r2) (stored_same R one.info other.info is.info fits v0 w0 p0 z1 a2 b2 r2 (other.info b2))
exec_same R one other is fits stores_element c d k vs ws (one_more v0 w0 vs0 ws0 p0 (one_more v1 w1 vs1 ws1 both_null (one_more v2 w2 vs2 ws2 (same_int z2) no_values))) = neither
exec_same R one other is fits stores_element c d k vs ws (one_more v0 w0 vs0 ws0 p0 (one_more v1 w1 vs1 ws1 both_null (one_more v2 w2 vs2 ws2 both_null no_values))) = neither
exec_same R one other is fits stores_element c d k vs ws (one_more v0 w0 vs0 ws0 p0 (one_more v1 w1 vs1 ws1 both_null (one_more v2 w2 vs2 ws2 (renamed a2 b2 r2) no_values))) = neither
exec_same R one other is fits stores_element c d k vs ws (one_more v0 w0 vs0 ws0 p0 (one_more v1 w1 vs1 ws1 (renamed a1 b1 r1) (one_more v2 w2 vs2 ws2 (same_int z2) no_values))) = neither
exec_same R one other is fits stores_element c d k vs ws (one_more v0 w0 vs0 ws0 p0 (one_more v1 w1 vs1 ws1 (renamed a1 b1 r1) (one_more v2 w2 vs2 ws2 both_null no_values))) = neither
exec_same R one other is fits stores_element c d k vs ws (one_more v0 w0 vs0 ws0 p0 (one_more v1 w1 vs1 ws1 (renamed a1 b1 r1) (one_more v2 w2 vs2 ws2 (renamed a2 b2 r2) no_values))) = neither
exec_same R one other is fits stores_element c d k vs ws (one_more v0 w0 vs0 ws0 p0 (one_more v1 w1 vs1 ws1 (same_int z1) (one_more v2 w2 vs2 ws2 (same_int z2) (one_more v3 w3 vs3 ws3 p3 more)))) = neither
exec_same R one other is fits stores_element c d k vs ws (one_more v0 w0 vs0 ws0 p0 (one_more v1 w1 vs1 ws1 (same_int z1) (one_more v2 w2 vs2 ws2 both_null (one_more v3 w3 vs3 ws3 p3 more)))) = neither
exec_same R one other is fits stores_element c d k vs ws (one_more v0 w0 vs0 ws0 p0 (one_more v1 w1 vs1 ws1 (same_int z1) (one_more v2 w2 vs2 ws2 (renamed a2 b2 r2) (one_more v3 w3 vs3 ws3 p3 more)))) = neither
exec_same R one other is fits stores_element c d k vs ws (one_more v0 w0 vs0 ws0 p0 (one_more v1 w1 vs1 ws1 both_null (one_more v2 w2 vs2 ws2 (same_int z2) (one_more v3 w3 vs3 ws3 p3 more)))) = neither
exec_same R one other is fits stores_element c d k vs ws (one_more v0 w0 vs0 ws0 p0 (one_more v1 w1 vs1 ws1 both_null (one_more v2 w2 vs2 ws2 both_null (one_more v3 w3 vs3 ws3 p3 more)))) = neither
exec_same R one other is fits stores_element c d k vs ws (one_more v0 w0 vs0 ws0 p0 (one_more v1 w1 vs1 ws1 both_null (one_more v2 w2 vs2 ws2 (renamed a2 b2 r2) (one_more v3 w3 vs3 ws3 p3 more)))) = neither
exec_same R one other is fits stores_element c d k vs ws (one_more v0 w0 vs0 ws0 p0 (one_more v1 w1 vs1 ws1 (renamed a1 b1 r1) (one_more v2 w2 vs2 ws2 (same_int z2) (one_more v3 w3 vs3 ws3 p3 more)))) = neither
exec_same R one other is fits stores_element c d k vs ws (one_more v0 w0 vs0 ws0 p0 (one_more v1 w1 vs1 ws1 (renamed a1 b1 r1) (one_more v2 w2 vs2 ws2 both_null (one_more v3 w3 vs3 ws3 p3 more)))) = neither
exec_same R one other is fits stores_element c d k vs ws (one_more v0 w0 vs0 ws0 p0 (one_more v1 w1 vs1 ws1 (renamed a1 b1 r1) (one_more v2 w2 vs2 ws2 (renamed a2 b2 r2) (one_more v3 w3 vs3 ws3 p3 more)))) = neither
exec_same R one other is fits (shuffles op) c d k vs ws same = all_pushed R _ _ (shuffled_same R op vs ws same)
exec_same R one other is fits (computes op) c d k vs ws no_values = neither
exec_same R one other is fits (computes op) c d k vs ws (one_more v0 w0 vs0 ws0 (same_int z0) no_values) = neither
exec_same R one other is fits (computes op) c d k vs ws (one_more v0 w0 vs0 ws0 both_null no_values) = neither
exec_same R one other is fits (computes op) c d k vs ws (one_more v0 w0 vs0 ws0 (renamed a0 b0 r0) no_values) = neither
exec_same R one other is fits (computes op) c d k vs ws (one_more v0 w0 vs0 ws0 (same_int z0) (one_more v1 w1 vs1 ws1 (same_int z1) no_values)) = computed_same R (int_op op z1 z0)
exec_same R one other is fits (computes op) c d k vs ws (one_more v0 w0 vs0 ws0 (same_int z0) (one_more v1 w1 vs1 ws1 both_null no_values)) = neither
exec_same R one other is fits (computes op) c d k vs ws (one_more v0 w0 vs0 ws0 (same_int z0) (one_more v1 w1 vs1 ws1 (renamed a1 b1 r1) no_values)) = neither
exec_same R one other is fits (computes op) c d k vs ws (one_more v0 w0 vs0 ws0 both_null (one_more v1 w1 vs1 ws1 (same_int z1) no_values)) = neither
exec_same R one other is fits (computes op) c d k vs ws (one_more v0 w0 vs0 ws0 both_null (one_more v1 w1 vs1 ws1 both_null no_values)) = neither
exec_same R one other is fits (computes op) c d k vs ws (one_more v0 w0 vs0 ws0 both_null (one_more v1 w1 vs1 ws1 (renamed a1 b1 r1) no_values)) = neither
exec_same R one other is fits (computes op) c d k vs ws (one_more v0 w0 vs0 ws0 (renamed a0 b0 r0) (one_more v1 w1 vs1 ws1 (same_int z1) no_values)) = neither
exec_same R one other is fits (computes op) c d k vs ws (one_more v0 w0 vs0 ws0 (renamed a0 b0 r0) (one_more v1 w1 vs1 ws1 both_null no_values)) = neither
exec_same R one other is fits (computes op) c d k vs ws (one_more v0 w0 vs0 ws0 (renamed a0 b0 r0) (one_more v1 w1 vs1 ws1 (renamed a1 b1 r1) no_values)) = neither
exec_same R one other is fits (computes op) c d k vs ws (one_more v0 w0 vs0 ws0 (same_int z0) (one_more v1 w1 vs1 ws1 (same_int z1) (one_more v2 w2 vs2 ws2 p2 more))) = neither
exec_same R one other is fits (computes op) c d k vs ws (one_more v0 w0 vs0 ws0 (same_int z0) (one_more v1 w1 vs1 ws1 both_null (one_more v2 w2 vs2 ws2 p2 more))) = neither
exec_same R one other is fits (computes op) c d k vs ws (one_more v0 w0 vs0 ws0 (same_int z0) (one_more v1 w1 vs1 ws1 (renamed a1 b1 r1) (one_more v2 w2 vs2 ws2 p2 more))) = neither
exec_same R one other is fits (computes op) c d k vs ws (one_more v0 w0 vs0 ws0 both_null (one_more v1 w1 vs1 ws1 (same_int z1) (one_more v2 w2 vs2 ws2 p2 more))) = neither
exec_same R one other is fits (computes op) c d k vs ws (one_more v0 w0 vs0 ws0 both_null (one_more v1 w1 vs1 ws1 both_null (one_more v2 w2 vs2 ws2 p2 more))) = neither
exec_same R one other is fits (computes op) c d k vs ws (one_more v0 w0 vs0 ws0 both_null (one_more v1 w1 vs1 ws1 (renamed a1 b1 r1) (one_more v2 w2 vs2 ws2 p2 more))) = neither
exec_same R one other is fits (computes op) c d k vs ws (one_more v0 w0 vs0 ws0 (renamed a0 b0 r0) (one_more v1 w1 vs1 ws1 (same_int z1) (one_more v2 w2 vs2 ws2 p2 more))) = neither
exec_same R one other is fits (computes op) c d k vs ws (one_more v0 w0 vs0 ws0 (renamed a0 b0 r0) (one_more v1 w1 vs1 ws1 both_null (one_more v2 w2 vs2 ws2 p2 more))) = neither
exec_same R one other is fits (computes op) c d k vs ws (one_more v0 w0 vs0 ws0 (renamed a0 b0 r0) (one_more v1 w1 vs1 ws1 (renamed a1 b1 r1) (one_more v2 w2 vs2 ws2 p2 more))) = neither
exec_same R one other is fits negates c d k vs ws no_values = neither
exec_same R one other is fits negates c d k vs ws (one_more v0 w0 vs0 ws0 (same_int z0) no_values) = int_pushed R _
exec_same R one other is fits negates c d k vs ws (one_more v0 w0 vs0 ws0 both_null no_values) = neither
exec_same R one other is fits negates c d k vs ws (one_more v0 w0 vs0 ws0 (renamed a0 b0 r0) no_values) = neither
exec_same R one other is fits negates c d k vs ws (one_more v0 w0 vs0 ws0 (same_int z0) (one_more v1 w1 vs1 ws1 p1 more)) = neither
exec_same R one other is fits negates c d k vs ws (one_more v0 w0 vs0 ws0 both_null (one_more v1 w1 vs1 ws1 p1 more)) = neither
exec_same R one other is fits negates c d k vs ws (one_more v0 w0 vs0 ws0 (renamed a0 b0 r0) (one_more v1 w1 vs1 ws1 p1 more)) = neither
exec_same R one other is fits (narrows op) c d k vs ws no_values = neither
exec_same R one other is fits (narrows op) c d k vs ws (one_more v0 w0 vs0 ws0 (same_int z0) no_values) = int_pushed R _
exec_same R one other is fits (narrows op) c d k vs ws (one_more v0 w0 vs0 ws0 both_null no_values) = neither
exec_same R one other is fits (narrows op) c d k vs ws (one_more v0 w0 vs0 ws0 (renamed a0 b0 r0) no_values) = neither
exec_same R one other is fits (narrows op) c d k vs ws (one_more v0 w0 vs0 ws0 (same_int z0) (one_more v1 w1 vs1 ws1 p1 more)) = neither
exec_same R one other is fits (narrows op) c d k vs ws (one_more v0 w0 vs0 ws0 both_null (one_more v1 w1 vs1 ws1 p1 more)) = neither
exec_same R one other is fits (narrows op) c d k vs ws (one_more v0 w0 vs0 ws0 (renamed a0 b0 r0) (one_more v1 w1 vs1 ws1 p1 more)) = neither
exec_same R one other is fits (tests op target) c d k vs ws no_values = neither
exec_same R one other is fits (tests op target) c d k vs ws (one_more v0 w0 vs0 ws0 (same_int z0) no_values) = jumps_same R target (int_test op z0 (pos 0))
exec_same R one other is fits (tests op target) c d k vs ws (one_more v0 w0 vs0 ws0 both_null no_values) = neither
exec_same R one other is fits (tests op target) c d k vs ws (one_more v0 w0 vs0 ws0 (renamed a0 b0 r0) no_values) = neither
exec_same R one other is fits (tests op target) c d k vs ws (one_more v0 w0 vs0 ws0 (same_int z0) (one_more v1 w1 vs1 ws1 p1 more)) = neither
exec_same R one other is fits (tests op target) c d k vs ws (one_more v0 w0 vs0 ws0 both_null (one_more v1 w1 vs1 ws1 p1 more)) = neither
exec_same R one other is fits (tests op target) c d k vs ws (one_more v0 w0 vs0 ws0 (renamed a0 b0 r0) (one_more v1 w1 vs1 ws1 p1 more)) = neither
exec_same R one other is fits (compares op target) c d k vs ws no_values = neither
exec_same R one other is fits (compares op target) c d k vs ws (one_more v0 w0 vs0 ws0 (same_int z0) no_values) = neither
exec_same R one other is fits (compares op target) c d k vs ws (one_more v0 w0 vs0 ws0 both_null no_values) = neither
exec_same R one other is fits (compares op target) c d k vs ws (one_more v0 w0 vs0 ws0 (renamed a0 b0 r0) no_values) = neither
exec_same R one other is fits (compares op target) c d k vs ws (one_more v0 w0 vs0 ws0 (same_int z0) (one_more v1 w1 vs1 ws1 (same_int z1) no_values)) = jumps_same R target (int_test op z1 z0)
exec_same R one other is fits (compares op target) c d k vs ws (one_more v0 w0 vs0 ws0 (same_int z0) (one_more v1 w1 vs1 ws1 both_null no_values)) = neither
exec_same R one other is fits (compares op target) c d k vs ws (one_more v0 w0 vs0 ws0 (same_int z0) (one_more v1 w1 vs1 ws1 (renamed a1 b1 r1) no_values)) = neither
exec_same R one other is fits (compares op target) c d k vs ws (one_more v0 w0 vs0 ws0 both_null (one_more v1 w1 vs1 ws1 (same_int z1) no_values)) = neither
exec_same R one other is fits (compares op target) c d k vs ws (one_more v0 w0 vs0 ws0 both_null (one_more v1 w1 vs1 ws1 both_null no_values)) = neither
exec_same R one other is fits (compares op target) c d k vs ws (one_more v0 w0 vs0 ws0 both_null (one_more v1 w1 vs1 ws1 (renamed a1 b1 r1) no_values)) = neither
exec_same R one other is fits (compares op target) c d k vs ws (one_more v0 w0 vs0 ws0 (renamed a0 b0 r0) (one_more v1 w1 vs1 ws1 (same_int z1) no_values)) = neither
exec_same R one other is fits (compares op target) c d k vs ws (one_more v0 w0 vs0 ws0 (renamed a0 b0 r0) (one_more v1 w1 vs1 ws1 both_null no_values)) = neither
exec_same R one other is fits (compares op target) c d k vs ws (one_more v0 w0 vs0 ws0 (renamed a0 b0 r0) (one_more v1 w1 vs1 ws1 (renamed a1 b1 r1) no_values)) = neither
exec_same R one other is fits (compares op target) c d k vs ws (one_more v0 w0 vs0 ws0 (same_int z0) (one_more v1 w1 vs1 ws1 (same_int z1) (one_more v2 w2 vs2 ws2 p2 more))) = neither
exec_same R one other is fits (compares op target) c d k vs ws (one_more v0 w0 vs0 ws0 (same_int z0) (one_more v1 w1 vs1 ws1 both_null (one_more v2 w2 vs2 ws2 p2 more))) = neither
exec_same R one other is fits (compares op target) c d k vs ws (one_more v0 w0 vs0 ws0 (same_int z0) (one_more v1 w1 vs1 ws1 (renamed a1 b1 r1) (one_more v2 w2 vs2 ws2 p2 more))) = neither
exec_same R one other is fits (compares op target) c d k vs ws (one_more v0 w0 vs0 ws0 both_null (one_more v1 w1 vs1 ws1 (same_int z1) (one_more v2 w2 vs2 ws2 p2 more))) = neither
exec_same R one other is fits (compares op target) c d k vs ws (one_more v0 w0 vs0 ws0 both_null (one_more v1 w1 vs1 ws1 both_null (one_more v2 w2 vs2 ws2 p2 more))) = neither
exec_same R one other is fits (compares op target) c d k vs ws (one_more v0 w0 vs0 ws0 both_null (one_more v1 w1 vs1 ws1 (renamed a1 b1 r1) (one_more v2 w2 vs2 ws2 p2 more))) = neither
exec_same R one other is fits (compares op target) c d k vs ws (one_more v0 w0 vs0 ws0 (renamed a0 b0 r0) (one_more v1 w1 vs1 ws1 (same_int z1) (one_more v2 w2 vs2 ws2 p2 more))) = neither
exec_same R one other is fits (compares op target) c d k vs ws (one_more v0 w0 vs0 ws0 (renamed a0 b0 r0) (one_more v1 w1 vs1 ws1 both_null (one_more v2 w2 vs2 ws2 p2 more))) = neither
exec_same R one other is fits (compares op target) c d k vs ws (one_more v0 w0 vs0 ws0 (renamed a0 b0 r0) (one_more v1 w1 vs1 ws1 (renamed a1 b1 r1) (one_more v2 w2 vs2 ws2 p2 more))) = neither
exec_same R one other is fits (compares_references op target) c d k vs ws no_values = neither
exec_same R one other is fits (compares_references op target) c d k vs ws (one_more v0 w0 vs0 ws0 p0 no_values) = neither
exec_same R one other is fits (compares_references op target) c d k vs ws (one_more v0 w0 vs0 ws0 p0 (one_more v1 w1 vs1 ws1 p1 no_values)) = rw (references_same R one other is v1 v0 w1 w0 p1 p0) (compared_same R op target (same_reference other.same w1 w0))
exec_same R one other is fits (compares_references op target) c d k vs ws (one_more v0 w0 vs0 ws0 p0 (one_more v1 w1 vs1 ws1 p1 (one_more v2 w2 vs2 ws2 p2 more))) = neither
exec_same R one other is fits (tests_null op target) c d k vs ws no_values = neither
exec_same R one other is fits (tests_null op target) c d k vs ws (one_more v0 w0 vs0 ws0 (same_int z0) no_values) = neither
exec_same R one other is fits (tests_null op target) c d k vs ws (one_more v0 w0 vs0 ws0 both_null no_values) = jumps_same R target (null_test op true)
exec_same R one other is fits (tests_null op target) c d k vs ws (one_more v0 w0 vs0 ws0 (renamed a0 b0 r0) no_values) = jumps_same R target (null_test op false)
exec_same R one other is fits (tests_null op target) c d k vs ws (one_more v0 w0 vs0 ws0 (same_int z0) (one_more v1 w1 vs1 ws1 p1 more)) = neither
exec_same R one other is fits (tests_null op target) c d k vs ws (one_more v0 w0 vs0 ws0 both_null (one_more v1 w1 vs1 ws1 p1 more)) = neither
exec_same R one other is fits (tests_null op target) c d k vs ws (one_more v0 w0 vs0 ws0 (renamed a0 b0 r0) (one_more v1 w1 vs1 ws1 p1 more)) = neither
exec_same R one other is fits (jumps_to target) c d k vs ws no_values = only_same R _ _ (both_jump target)
exec_same R one other is fits (jumps_to target) c d k vs ws (one_more v0 w0 vs0 ws0 p0 more) = neither
exec_same R one other is fits (switches cases default) c d k vs ws no_values = neither
exec_same R one other is fits (switches cases default) c d k vs ws (one_more v0 w0 vs0 ws0 (same_int z0) no_values) = only_same R _ _ (both_jump _)
exec_same R one other is fits (switches cases default) c d k vs ws (one_more v0 w0 vs0 ws0 both_null no_values) = neither
exec_same R one other is fits (switches cases default) c d k vs ws (one_more v0 w0 vs0 ws0 (renamed a0 b0 r0) no_values) = neither
exec_same R one other is fits (switches cases default) c d k vs ws (one_more v0 w0 vs0 ws0 (same_int z0) (one_more v1 w1 vs1 ws1 p1 more)) = neither
exec_same R one other is fits (switches cases default) c d k vs ws (one_more v0 w0 vs0 ws0 both_null (one_more v1 w1 vs1 ws1 p1 more)) = neither
exec_same R one other is fits (switches cases default) c d k vs ws (one_more v0 w0 vs0 ws0 (renamed a0 b0 r0) (one_more v1 w1 vs1 ws1 p1 more)) = neither
exec_same R one other is fits (returns_value type) c d k vs ws no_values = neither
exec_same R one other is fits (returns_value type) c d k vs ws (one_more v0 w0 vs0 ws0 p0 no_values) = only_same R _ _ (both_return _ _ (each _ _ (kept_same R type _ _ p0)))
exec_same R one other is fits (returns_value type) c d k vs ws (one_more v0 w0 vs0 ws0 p0 (one_more v1 w1 vs1 ws1 p1 more)) = neither
exec_same R one other is fits returns_nothing c d k vs ws no_values = only_same R _ _ (both_return _ _ neither)
exec_same R one other is fits returns_nothing c d k vs ws (one_more v0 w0 vs0 ws0 p0 more) = neither
exec_same R one other is fits (gets_static f) c d k vs ws no_values = content_same R c d k
exec_same R one other is fits (gets_static f) c d k vs ws (one_more v0 w0 vs0 ws0 p0 more) = neither
exec_same R one other is fits (puts_static f type) c d k vs ws no_values = neither
exec_same R one other is fits (puts_static f type) c d k vs ws (one_more v0 w0 vs0 ws0 p0 no_values) = written_same R _ _ _ _ (same_static f) (kept_same R type _ _ p0)
exec_same R one other is fits (puts_static f type) c d k vs ws (one_more v0 w0 vs0 ws0 p0 (one_more v1 w1 vs1 ws1 p1 more)) = neither
exec_same R one other is fits (gets_field f) c d k vs ws no_values = neither
exec_same R one other is fits (gets_field f) c d k vs ws (one_more v0 w0 vs0 ws0 (same_int z0) no_values) = neither
exec_same R one other is fits (gets_field f) c d k vs ws (one_more v0 w0 vs0 ws0 both_null no_values) = raised_same R NullBase
exec_same R one other is fits (gets_field f) c d k vs ws (one_more v0 w0 vs0 ws0 (renamed a0 b0 r0) no_values) = content_same R c d k
exec_same R one other is fits (gets_field f) c d k vs ws (one_more v0 w0 vs0 ws0 (same_int z0) (one_more v1 w1 vs1 ws1 p1 more)) = neither
exec_same R one other is fits (gets_field f) c d k vs ws (one_more v0 w0 vs0 ws0 both_null (one_more v1 w1 vs1 ws1 p1 more)) = neither
exec_same R one other is fits (gets_field f) c d k vs ws (one_more v0 w0 vs0 ws0 (renamed a0 b0 r0) (one_more v1 w1 vs1 ws1 p1 more)) = neither
exec_same R one other is fits (puts_field f type) c d k vs ws no_values = neither
exec_same R one other is fits (puts_field f type) c d k vs ws (one_more v0 w0 vs0 ws0 p0 no_values) = neither
exec_same R one other is fits (puts_field f type) c d k vs ws (one_more v0 w0 vs0 ws0 p0 (one_more v1 w1 vs1 ws1 (same_int z1) no_values)) = neither
exec_same R one other is fits (puts_field f type) c d k vs ws (one_more v0 w0 vs0 ws0 p0 (one_more v1 w1 vs1 ws1 both_null no_values)) = raised_same R NullBase
exec_same R one other is fits (puts_field f type) c d k vs ws (one_more v0 w0 vs0 ws0 p0 (one_more v1 w1 vs1 ws1 (renamed a1 b1 r1) no_values)) = written_same R _ _ _ _ (same_field a1 b1 f r1) (kept_same R type _ _ p0)
exec_same R one other is fits (puts_field f type) c d k vs ws (one_more v0 w0 vs0 ws0 p0 (one_more v1 w1 vs1 ws1 (same_int z1) (one_more v2 w2 vs2 ws2 p2 more))) = neither
exec_same R one other is fits (puts_field f type) c d k vs ws (one_more v0 w0 vs0 ws0 p0 (one_more v1 w1 vs1 ws1 both_null (one_more v2 w2 vs2 ws2 p2 more))) = neither
exec_same R one other is fits (puts_field f type) c d k vs ws (one_more v0 w0 vs0 ws0 p0 (one_more v1 w1 vs1 ws1 (renamed a1 b1 r1) (one_more v2 w2 vs2 ws2 p2 more))) = neither
exec_same R one other is fits (creates class) c d k vs ws no_values = only_same R _ _ (both_allocate _)
exec_same R one other is fits (creates class) c d k vs ws (one_more v0 w0 vs0 ws0 p0 more) = neither
exec_same R one other is fits (creates_array type) c d k vs ws no_values = neither
exec_same R one other is fits (creates_array type) c d k vs ws (one_more v0 w0 vs0 ws0 (same_int z0) no_values) = made_same R type z0
exec_same R one other is fits (creates_array type) c d k vs ws (one_more v0 w0 vs0 ws0 both_null no_values) = neither
exec_same R one other is fits (creates_array type) c d k vs ws (one_more v0 w0 vs0 ws0 (renamed a0 b0 r0) no_values) = neither
exec_same R one other is fits (creates_array type) c d k vs ws (one_more v0 w0 vs0 ws0 (same_int z0) (one_more v1 w1 vs1 ws1 p1 more)) = neither
exec_same R one other is fits (creates_array type) c d k vs ws (one_more v0 w0 vs0 ws0 both_null (one_more v1 w1 vs1 ws1 p1 more)) = neither
exec_same R one other is fits (creates_array type) c d k vs ws (one_more v0 w0 vs0 ws0 (renamed a0 b0 r0) (one_more v1 w1 vs1 ws1 p1 more)) = neither
exec_same R one other is fits measures c d k vs ws no_values = neither
exec_same R one other is fits measures c d k vs ws (one_more v0 w0 vs0 ws0 (same_int z0) no_values) = neither
exec_same R one other is fits measures c d k vs ws (one_more v0 w0 vs0 ws0 both_null no_values) = raised_same R NullBase
exec_same R one other is fits measures c d k vs ws (one_more v0 w0 vs0 ws0 (renamed a0 b0 r0) no_values) = rw (is.info a0 b0 r0) (measured_same R (other.info b0))
exec_same R one other is fits measures c d k vs ws (one_more v0 w0 vs0 ws0 (same_int z0) (one_more v1 w1 vs1 ws1 p1 more)) = neither
exec_same R one other is fits measures c d k vs ws (one_more v0 w0 vs0 ws0 both_null (one_more v1 w1 vs1 ws1 p1 more)) = neither
exec_same R one other is fits measures c d k vs ws (one_more v0 w0 vs0 ws0 (renamed a0 b0 r0) (one_more v1 w1 vs1 ws1 p1 more)) = neither
exec_same R one other is fits throws c d k vs ws no_values = neither
exec_same R one other is fits throws c d k vs ws (one_more v0 w0 vs0 ws0 (same_int z0) no_values) = neither
exec_same R one other is fits throws c d k vs ws (one_more v0 w0 vs0 ws0 both_null no_values) = raised_same R NullBase
exec_same R one other is fits throws c d k vs ws (one_more v0 w0 vs0 ws0 (renamed a0 b0 r0) no_values) = only_same R _ _ (both_throw a0 b0 r0)
exec_same R one other is fits throws c d k vs ws (one_more v0 w0 vs0 ws0 (same_int z0) (one_more v1 w1 vs1 ws1 p1 more)) = neither
exec_same R one other is fits throws c d k vs ws (one_more v0 w0 vs0 ws0 both_null (one_more v1 w1 vs1 ws1 p1 more)) = neither
exec_same R one other is fits throws c d k vs ws (one_more v0 w0 vs0 ws0 (renamed a0 b0 r0) (one_more v1 w1 vs1 ws1 p1 more)) = neither
exec_same R one other is fits (casts type) c d k vs ws no_values = neither
exec_same R one other is fits (casts type) c d k vs ws (one_more v0 w0 vs0 ws0 (same_int z0) no_values) = neither
exec_same R one other is fits (casts type) c d k vs ws (one_more v0 w0 vs0 ws0 both_null no_values) = pushed R _ _ both_null
exec_same R one other is fits (casts type) c d k vs ws (one_more v0 w0 vs0 ws0 (renamed a0 b0 r0) no_values) = rw (is.info a0 b0 r0) (cast_same R a0 b0 r0 (fits.of_type (other.info b0) type))
exec_same R one other is fits (casts type) c d k vs ws (one_more v0 w0 vs0 ws0 (same_int z0) (one_more v1 w1 vs1 ws1 p1 more)) = neither
exec_same R one other is fits (casts type) c d k vs ws (one_more v0 w0 vs0 ws0 both_null (one_more v1 w1 vs1 ws1 p1 more)) = neither
exec_same R one other is fits (casts type) c d k vs ws (one_more v0 w0 vs0 ws0 (renamed a0 b0 r0) (one_more v1 w1 vs1 ws1 p1 more)) = neither
exec_same R one other is fits (checks type) c d k vs ws no_values = neither
exec_same R one other is fits (checks type) c d k vs ws (one_more v0 w0 vs0 ws0 (same_int z0) no_values) = neither
exec_same R one other is fits (checks type) c d k vs ws (one_more v0 w0 vs0 ws0 both_null no_values) = int_pushed R (pos 0)
exec_same R one other is fits (checks type) c d k vs ws (one_more v0 w0 vs0 ws0 (renamed a0 b0 r0) no_values) = rw (is.info a0 b0 r0) (int_pushed R (bool_int (fits.of_type (other.info b0) type)))
exec_same R one other is fits (checks type) c d k vs ws (one_more v0 w0 vs0 ws0 (same_int z0) (one_more v1 w1 vs1 ws1 p1 more)) = neither
exec_same R one other is fits (checks type) c d k vs ws (one_more v0 w0 vs0 ws0 both_null (one_more v1 w1 vs1 ws1 p1 more)) = neither
exec_same R one other is fits (checks type) c d k vs ws (one_more v0 w0 vs0 ws0 (renamed a0 b0 r0) (one_more v1 w1 vs1 ws1 p1 more)) = neither
exec_same R one other is fits (calls op type m count) c d k vs ws same = neither

-- ---- the cell that is read

abbrev pub CellSame : {A B : Type 0} (R : A → B → Type 0) → Option (Cell A) → Option (Cell B) → Type 0
CellSame R = Both (RenamedCell R)

pub cell_same : {A B : Type 0} (R : A → B → Type 0) (one : Ways A) (other : Ways B) → IsRenaming R one other → (instruction : Instruction)
    (vs : List (Value A)) (ws : List (Value B)) → RenamedValues R vs ws → CellSame R (cell_read one.info instruction vs) (cell_read other.info instruction ws)
cell_same R one other is (gets_static f) vs ws no_values = each _ _ (same_static f)
cell_same R one other is (gets_static f) vs ws (one_more v0 w0 vs0 ws0 p0 more) = neither
cell_same R one other is (gets_field f) vs ws no_values = neither
cell_same R one other is (gets_field f) vs ws (one_more v0 w0 vs0 ws0 (same_int z0) no_values) = neither
cell_same R one other is (gets_field f) vs ws (one_more v0 w0 vs0 ws0 both_null no_values) = neither
cell_same R one other is (gets_field f) vs ws (one_more v0 w0 vs0 ws0 (renamed a0 b0 r0) no_values) = each _ _ (same_field a0 b0 f r0)
cell_same R one other is (gets_field f) vs ws (one_more v0 w0 vs0 ws0 (same_int z0) (one_more v1 w1 vs1 ws1 p1 more)) = neither
cell_same R one other is (gets_field f) vs ws (one_more v0 w0 vs0 ws0 both_null (one_more v1 w1 vs1 ws1 p1 more)) = neither
cell_same R one other is (gets_field f) vs ws (one_more v0 w0 vs0 ws0 (renamed a0 b0 r0) (one_more v1 w1 vs1 ws1 p1 more)) = neither
cell_same R one other is loads_element vs ws no_values = neither
cell_same R one other is loads_element vs ws (one_more v0 w0 vs0 ws0 (same_int z0) no_values) = neither
cell_same R one other is loads_element vs ws (one_more v0 w0 vs0 ws0 both_null no_values) = neither
cell_same R one other is loads_element vs ws (one_more v0 w0 vs0 ws0 (renamed a0 b0 r0) no_values) = neither
cell_same R one other is loads_element vs ws (one_more v0 w0 vs0 ws0 (same_int z0) (one_more v1 w1 vs1 ws1 (same_int z1) no_values)) = neither
cell_same R one other is loads_element vs ws (one_more v0 w0 vs0 ws0 (same_int z0) (one_more v1 w1 vs1 ws1 both_null no_values)) = neither
cell_same R one other is loads_element vs ws (one_more v0 w0 vs0 ws0 (same_int z0) (one_more v1 w1 vs1 ws1 (renamed a1 b1 r1) no_values)) = rw (is.info a1 b1 r1) (element_same R a1 b1 r1 z0 (other.info b1))
cell_same R one other is loads_element vs ws (one_more v0 w0 vs0 ws0 both_null (one_more v1 w1 vs1 ws1 (same_int z1) no_values)) = neither
cell_same R one other is loads_element vs ws (one_more v0 w0 vs0 ws0 both_null (one_more v1 w1 vs1 ws1 both_null no_values)) = neither
cell_same R one other is loads_element vs ws (one_more v0 w0 vs0 ws0 both_null (one_more v1 w1 vs1 ws1 (renamed a1 b1 r1) no_values)) = neither
cell_same R one other is loads_element vs ws (one_more v0 w0 vs0 ws0 (renamed a0 b0 r0) (one_more v1 w1 vs1 ws1 (same_int z1) no_values)) = neither
cell_same R one other is loads_element vs ws (one_more v0 w0 vs0 ws0 (renamed a0 b0 r0) (one_more v1 w1 vs1 ws1 both_null no_values)) = neither
cell_same R one other is loads_element vs ws (one_more v0 w0 vs0 ws0 (renamed a0 b0 r0) (one_more v1 w1 vs1 ws1 (renamed a1 b1 r1) no_values)) = neither
cell_same R one other is loads_element vs ws (one_more v0 w0 vs0 ws0 (same_int z0) (one_more v1 w1 vs1 ws1 (same_int z1) (one_more v2 w2 vs2 ws2 p2 more))) = neither
cell_same R one other is loads_element vs ws (one_more v0 w0 vs0 ws0 (same_int z0) (one_more v1 w1 vs1 ws1 both_null (one_more v2 w2 vs2 ws2 p2 more))) = neither
cell_same R one other is loads_element vs ws (one_more v0 w0 vs0 ws0 (same_int z0) (one_more v1 w1 vs1 ws1 (renamed a1 b1 r1) (one_more v2 w2 vs2 ws2 p2 more))) = neither
cell_same R one other is loads_element vs ws (one_more v0 w0 vs0 ws0 both_null (one_more v1 w1 vs1 ws1 (same_int z1) (one_more v2 w2 vs2 ws2 p2 more))) = neither
cell_same R one other is loads_element vs ws (one_more v0 w0 vs0 ws0 both_null (one_more v1 w1 vs1 ws1 both_null (one_more v2 w2 vs2 ws2 p2 more))) = neither
cell_same R one other is loads_element vs ws (one_more v0 w0 vs0 ws0 both_null (one_more v1 w1 vs1 ws1 (renamed a1 b1 r1) (one_more v2 w2 vs2 ws2 p2 more))) = neither
cell_same R one other is loads_element vs ws (one_more v0 w0 vs0 ws0 (renamed a0 b0 r0) (one_more v1 w1 vs1 ws1 (same_int z1) (one_more v2 w2 vs2 ws2 p2 more))) = neither
cell_same R one other is loads_element vs ws (one_more v0 w0 vs0 ws0 (renamed a0 b0 r0) (one_more v1 w1 vs1 ws1 both_null (one_more v2 w2 vs2 ws2 p2 more))) = neither
cell_same R one other is loads_element vs ws (one_more v0 w0 vs0 ws0 (renamed a0 b0 r0) (one_more v1 w1 vs1 ws1 (renamed a1 b1 r1) (one_more v2 w2 vs2 ws2 p2 more))) = neither
cell_same R one other is passes vs ws same = neither
cell_same R one other is pushes_null vs ws same = neither
cell_same R one other is (pushes_int z) vs ws same = neither
cell_same R one other is (pushes_text t) vs ws same = neither
cell_same R one other is (loads i) vs ws same = neither
cell_same R one other is (stores i) vs ws same = neither
cell_same R one other is (increments i by) vs ws same = neither
cell_same R one other is stores_element vs ws same = neither
cell_same R one other is (shuffles op) vs ws same = neither
cell_same R one other is (computes op) vs ws same = neither
cell_same R one other is negates vs ws same = neither
cell_same R one other is (narrows op) vs ws same = neither
cell_same R one other is (tests op t) vs ws same = neither
cell_same R one other is (compares op t) vs ws same = neither
cell_same R one other is (compares_references op t) vs ws same = neither
cell_same R one other is (tests_null op t) vs ws same = neither
cell_same R one other is (jumps_to t) vs ws same = neither
cell_same R one other is (switches cases default) vs ws same = neither
cell_same R one other is (returns_value type) vs ws same = neither
cell_same R one other is returns_nothing vs ws same = neither
cell_same R one other is (puts_static f type) vs ws same = neither
cell_same R one other is (puts_field f type) vs ws same = neither
cell_same R one other is (creates class) vs ws same = neither
cell_same R one other is (creates_array type) vs ws same = neither
cell_same R one other is measures vs ws same = neither
cell_same R one other is throws vs ws same = neither
cell_same R one other is (casts type) vs ws same = neither
cell_same R one other is (checks type) vs ws same = neither
cell_same R one other is (calls op type m count) vs ws same = neither

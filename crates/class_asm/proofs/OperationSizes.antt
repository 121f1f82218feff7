-- The bytes of an operation are as many as its size says.
use Rattle.std.proofs.Common.{◌≡◌, ℕ, ◌+◌, ◌-◌, ◌*◌, ◌^◌, Bool, true, false, ◌&&◌, List, [], ◌∷◌, ◌++◌, length, replicate, Option, Some, Result, Ok, Err, refl, ap, subst, arith, length-append}
use Rattle.std.specs.Prelude.{ℤ, pos, nat_lt, ◌+ℤ◌, if◌then◌else◌}
use Rattle.std.specs.Result.{IfOk}
use Rattle.std.proofs.lemmas.List.{length-replicate}
use Rattle.byteorder.specs.Endian.{big_bytes}
use Rattle.jo_insn.specs.declared.opcodes.Operands.{Operands}
use Rattle.jo_insn.specs.declared.opcodes.Operands.TheVariants.{SignedByte, PoolByte, OffsetInt}
use Rattle.jo_insn.specs.Opcodes.{operands_of}
use Rattle.jo_insn.specs.Instructions.{s4, padding_at}
use Rattle.asm_text.specs.declared.statements.Number.{Number}
use Rattle.asm_text.specs.declared.statements.Case.{Case}
use Rattle.asm_text.specs.declared.statements.Operation.{Operation}
use Rattle.asm_text.specs.declared.statements.Operation.TheVariants.{Plain, Local, Iinc, Push, Load, OfClass, OfMember, NewArray, Jump, TableSwitch, LookupSwitch}
use Rattle.class_asm.specs.declared.causes.Cause.{Cause}
use Rattle.class_asm.specs.Layout.{Setting, size_by, is_byte_push, is_byte_index, is_interface_call, is_long_jump, pc_behind}
use Rattle.class_asm.specs.Encoding.{◌>>=◌, behind, in_range, unsigned_in, signed_in, whole, whole_in, pc_of, is_set, are_set, are_cases_set, offset_in, long_offset, long_offsets, local_bytes, iinc_bytes, push_bytes, load_bytes, jump_to, switch_head, table_front, table_set, case_bytes, lookup_set, operation_bytes}

-- what follows from what was read before
pub and_then : {A B E : Type 0} (P : A → Type 0) (Q : B → Type 0) (read : Result A E) (more : A → Result B E) → IfOk read P → ((x : A) → P x → IfOk (more x) Q) → IfOk (read >>= more) Q
and_then P Q (Err cause) more p goes = tt
and_then P Q (Ok x) more p goes = goes x p

-- whatever was read before
after : {A B : Type 0} (Q : B → Type 0) (read : Result A Cause) (more : A → Result B Cause) → ((x : A) → IfOk (more x) Q) → IfOk (read >>= more) Q
after Q (Err cause) more goes = tt
after Q (Ok x) more goes = goes x

pub ranged : {A : Type 0} (P : A → Type 0) (test : Bool) (x : A) → (test ≡ true → P x) → IfOk (in_range test x) P
ranged P true x p = p refl
ranged P false x p = tt

-- where there is no fault, there are so many bytes
abbrev Long : ℕ → Result (List ℕ) Cause → Type 0
Long count read = IfOk read (λ bytes. length bytes ≡ count)

local_long : (op : ℕ) (index : Number) (wide : Bool) → Long (size_by wide 4 2) (local_bytes op index wide)
local_long op index false = after _ (unsigned_in 256 index) _ (λ n. refl)
local_long op index true = after _ (unsigned_in 65536 index) _ (λ n. refl)

iinc_long : (index by : Number) (wide : Bool) → Long (size_by wide 6 3) (iinc_bytes index by wide)
iinc_long index by false = after _ (unsigned_in 256 index) _ (λ n. after _ (signed_in 128 by) _ (λ z. refl))
iinc_long index by true = after _ (unsigned_in 65536 index) _ (λ n. after _ (signed_in 32768 by) _ (λ z. refl))

push_long : (op : ℕ) (value : Number) (operands : Option Operands) → Long (size_by (is_byte_push operands) 2 3) (push_bytes op value operands)
push_long op value (Some SignedByte) = after _ (signed_in 128 value) _ (λ z. refl)
push_long op value _ = after _ (signed_in 32768 value) _ (λ z. refl)

load_long : (op entry : ℕ) (operands : Option Operands) → Long (size_by (is_byte_index operands) 2 3) (load_bytes op entry operands)
load_long op entry (Some PoolByte) = ranged _ (nat_lt entry 256) _ (λ e. refl)
load_long op entry _ = refl

call_long : (test : Bool) (op entry words : ℕ) → length (op ∷ big_bytes 2 entry ++ (if test then words ∷ 0 ∷ [] else [])) ≡ size_by test 5 3
call_long true op entry words = refl
call_long false op entry words = refl

jump_long : (pc op at : ℕ) (operands : Option Operands) → Long (size_by (is_long_jump operands) 5 3) (jump_to pc op at operands)
jump_long pc op at (Some OffsetInt) = after _ (offset_in (2 ^ 31) pc at) _ (λ z. refl)
jump_long pc op at _ = after _ (offset_in (2 ^ 15) pc at) _ (λ z. refl)

-- ---- switches

offset_long : (settings : List Setting) (pc : ℕ) (name : List ℕ) → Long 4 (long_offset settings pc name)
offset_long settings pc name = after _ (pc_of settings name) _ (λ at. after _ (offset_in (2 ^ 31) pc at) _ (λ z. refl))

offsets_long : (settings : List Setting) (pc : ℕ) (names : List (List ℕ)) → Long (4 * length names) (long_offsets settings pc names)
offsets_long settings pc [] = refl
offsets_long settings pc (name ∷ more) =
    and_then _ _ (long_offset settings pc name) _ (offset_long settings pc name) (λ first p.
    and_then _ _ (long_offsets settings pc more) _ (offsets_long settings pc more) (λ others q.
    let both = length-append first others in
    omega (arith, p, q, both)))

cases_long : (settings : List Setting) (pc : ℕ) (cases : List Case) → Long (8 * length cases) (case_bytes settings pc cases)
cases_long settings pc [] = refl
cases_long settings pc (case ∷ more) =
    after _ (whole case.key) _ (λ key.
    and_then _ _ (long_offset settings pc case.label) _ (offset_long settings pc case.label) (λ first p.
    and_then _ _ (case_bytes settings pc more) _ (cases_long settings pc more) (λ others q.
    let four : length (s4 key) ≡ 4 = refl in
    let one = length-append (s4 key) first in
    let both = length-append (s4 key ++ first) others in
    omega (arith, p, q, one, both, four))))

behind_long : (front : List ℕ) (count more : ℕ) (read : Result (List ℕ) Cause) → length front ≡ count → Long more read → Long (count + more) (behind front read)
behind_long front count more (Err cause) is p = tt
behind_long front count more (Ok part) is p = let both = length-append front part in omega (arith, is, p, both)

head_long : (op pc : ℕ) (a : List ℕ) → length (switch_head op pc ++ a) ≡ 1 + padding_at pc + length a
head_long op pc a =
    let both = length-append (replicate (padding_at pc) 0) a in
    let zeros = length-replicate {A = ℕ} (padding_at pc) 0 in
    omega (arith, both, zeros)

table_front_long : (settings : List Setting) (pc : ℕ) (low : Number) (other : List ℕ) (count : ℕ) → Long (1 + padding_at pc + 12) (table_front settings pc low other count)
table_front_long settings pc low other count =
    let Q : List ℕ → Type 0 = λ front. length front ≡ 1 + padding_at pc + 12 in
    after Q (whole low) _ (λ least.
    after Q (whole_in (least +ℤ pos (count - 1))) (λ most. long_offset settings pc other >>= (λ default. Ok (switch_head 170 pc ++ default ++ s4 least ++ s4 most))) (λ most.
    and_then _ Q (long_offset settings pc other) (λ default. Ok (switch_head 170 pc ++ default ++ s4 least ++ s4 most)) (offset_long settings pc other) (λ default p. front_long least most default p)))
  where
    front_long : (least most : ℤ) (default : List ℕ) → length default ≡ 4 → length (switch_head 170 pc ++ default ++ s4 least ++ s4 most) ≡ 1 + padding_at pc + 12
    front_long least most default p =
        let first = head_long 170 pc default in
        let second = length-append (switch_head 170 pc ++ default) (s4 least) in
        let third = length-append (switch_head 170 pc ++ default ++ s4 least) (s4 most) in
        let four : length (s4 least) ≡ 4 = refl in
        let last : length (s4 most) ≡ 4 = refl in
        omega (arith, p, first, second, third, four, last)

table_long : (settings : List Setting) (pc : ℕ) (low : Number) (other : List ℕ) (labels : List (List ℕ)) → Long (1 + padding_at pc + 12 + 4 * length labels) (table_set settings pc low other labels)
table_long settings pc low other labels =
    after _ (in_range (nat_lt (length labels) (2 ^ 32)) (length labels)) _ (λ count.
    and_then _ _ (table_front settings pc low other count) _ (table_front_long settings pc low other count)
    (λ front is. behind_long front (1 + padding_at pc + 12) (4 * length labels) (long_offsets settings pc labels) is (offsets_long settings pc labels)))

lookup_long : (settings : List Setting) (pc : ℕ) (other : List ℕ) (cases : List Case) → Long (1 + padding_at pc + 8 + 8 * length cases) (lookup_set settings pc other cases)
lookup_long settings pc other cases =
    after _ (in_range (nat_lt (length cases) (2 ^ 31)) (length cases)) _ (λ count.
    and_then _ _ (long_offset settings pc other) _ (offset_long settings pc other) (λ default p.
    behind_long (switch_head 171 pc ++ default ++ big_bytes 4 count) (1 + padding_at pc + 8) (8 * length cases) (case_bytes settings pc cases) (front_long count default p) (cases_long settings pc cases)))
  where
    front_long : (count : ℕ) (default : List ℕ) → length default ≡ 4 → length (switch_head 171 pc ++ default ++ big_bytes 4 count) ≡ 1 + padding_at pc + 8
    front_long count default p =
        let first = head_long 171 pc default in
        let second = length-append (switch_head 171 pc ++ default) (big_bytes 4 count) in
        let four : length (big_bytes 4 count) ≡ 4 = refl in
        omega (arith, p, first, second, four)

either : {A : Type 0} (P : A → Type 0) (test : Bool) (read : Result A Cause) (cause : Cause) → IfOk read P → IfOk (if test then read else Err cause) P
either P true read cause p = p
either P false read cause p = tt

-- ---- any operation

at_pc : (pc count : ℕ) (read : Result (List ℕ) Cause) → Long count read → IfOk read (λ bytes. pc + length bytes ≡ pc + count)
at_pc pc count (Err cause) p = tt
at_pc pc count (Ok bytes) p = ap (λ n. pc + n) p

sized_to : (pc count end : ℕ) (read : Result (List ℕ) Cause) → pc + count ≡ end → Long count read → IfOk read (λ bytes. pc + length bytes ≡ end)
sized_to pc count end (Err cause) is p = tt
sized_to pc count end (Ok bytes) is p = omega (arith, is, p)

pub has_its_size : (settings : List Setting) (pc entry : ℕ) (operation : Operation) → IfOk (operation_bytes settings pc entry operation) (λ bytes. pc + length bytes ≡ pc_behind pc operation)
unfolding operation_bytes
has_its_size settings pc entry (Plain op) = refl
has_its_size settings pc entry (Local op index wide) = at_pc pc _ _ (local_long op index wide)
has_its_size settings pc entry (Iinc index by wide) = at_pc pc _ _ (iinc_long index by wide)
has_its_size settings pc entry (Push op value) = at_pc pc _ _ (push_long op value (operands_of op))
has_its_size settings pc entry (Load op constant) = at_pc pc _ _ (load_long op entry (operands_of op))
has_its_size settings pc entry (OfClass op class) = refl
has_its_size settings pc entry (OfMember op member) = ap (λ n. pc + n) (call_long (is_interface_call (operands_of op)) op entry _)
has_its_size settings pc entry (NewArray kind) = refl
has_its_size settings pc entry (Jump op label) = after _ (pc_of settings label) _ (λ at. at_pc pc _ _ (jump_long pc op at (operands_of op)))
has_its_size settings pc entry (TableSwitch low other labels) =
    sized_to pc (1 + padding_at pc + 12 + 4 * length labels) _ _ (omega arith) (either _ (is_set settings other && are_set settings labels) _ _ (table_long settings pc low other labels))
has_its_size settings pc entry (LookupSwitch other cases) =
    sized_to pc (1 + padding_at pc + 8 + 8 * length cases) _ _ (omega arith) (either _ (is_set settings other && are_cases_set settings cases) _ _ (lookup_long settings pc other cases))

pub at_ok : {A E : Type 0} (P : A → Type 0) (read : Result A E) (x : A) → IfOk read P → read ≡ Ok x → P x
at_ok P read x p is = subst (λ r. IfOk r P) is p

pub operations_have_their_sizes : (settings : List Setting) (pc entry : ℕ) (operation : Operation) (bytes : List ℕ) → operation_bytes settings pc entry operation ≡ Ok bytes → pc + length bytes ≡ pc_behind pc operation
operations_have_their_sizes settings pc entry operation bytes is = at_ok (λ (bytes : List ℕ). pc + length bytes ≡ pc_behind pc operation) _ bytes (has_its_size settings pc entry operation) is

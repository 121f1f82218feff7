-- Where its labels are set, an operation is at fault by a range alone; where one isn't, by a label.
use Rattle.std.proofs.Common.{◌≡◌, ℕ, Bool, true, false, ◌&&◌, nat_lt, List, [], ◌∷◌, ◌++◌, length, Option, Some, None, Result, Ok, Err, refl}
use Rattle.std.specs.Prelude.{pos, ◌+ℤ◌, ◌-◌, ◌^◌, if◌then◌else◌}
use Rattle.std.specs.Option.{is_some}
use Rattle.byteorder.specs.Endian.{big_bytes}
use Rattle.jo_insn.specs.declared.opcodes.Operands.{Operands}
use Rattle.jo_insn.specs.declared.opcodes.Operands.TheVariants.{SignedByte, PoolByte, OffsetInt}
use Rattle.jo_insn.specs.Opcodes.{operands_of}
use Rattle.class_pool.specs.declared.entries.PoolEntry.{PoolEntry}
use Rattle.asm_text.specs.declared.statements.Number.{Number}
use Rattle.asm_text.specs.declared.statements.Number.TheVariants.{Of, TooLarge}
use Rattle.asm_text.specs.declared.statements.Case.{Case}
use Rattle.asm_text.specs.declared.statements.Operation.{Operation}
use Rattle.asm_text.specs.declared.statements.Operation.TheVariants.{Plain, Local, Iinc, Push, Load, OfClass, OfMember, NewArray, Jump, TableSwitch, LookupSwitch}
use Rattle.class_asm.specs.declared.causes.Cause.{Cause}
use Rattle.class_asm.specs.declared.causes.Cause.TheVariants.{Label, Range}
use Rattle.class_asm.specs.Layout.{Setting, setting_of}
use Rattle.class_asm.specs.Encoding.{◌>>=◌, behind, in_range, unsigned_in, signed_in, whole, whole_in, pc_in, pc_of, is_set, are_set, are_cases_set, offset_in, long_offset, long_offsets, or_range, need_operand, local_bytes, iinc_bytes, push_bytes, load_bytes, jump_to, switch_head, table_front, table_set, case_bytes, lookup_set, operation_bytes}
use Rattle.class_asm.specs.Texts.{has_labels}

abbrev pub OnlyRange : {X : Type 0} → Result X Cause → Type 0
OnlyRange (Ok x) = Unit {0}
OnlyRange (Err cause) = cause ≡ Range

pub and_then : {A B : Type 0} (read : Result A Cause) (more : A → Result B Cause) → OnlyRange read → ((x : A) → OnlyRange (more x)) → OnlyRange (read >>= more)
and_then (Err cause) more p goes = p
and_then (Ok x) more p goes = goes x

pub ranged : {A : Type 0} (test : Bool) (x : A) → OnlyRange (in_range test x)
ranged true x = tt
ranged false x = refl

pub or_ranged : {A : Type 0} (needed : Option A) → OnlyRange (or_range needed)
or_ranged None = refl
or_ranged (Some x) = tt

pub unsigned : (limit : ℕ) (number : Number) → OnlyRange (unsigned_in limit number)
unsigned limit (Of z) = ranged _ _
unsigned limit TooLarge = refl

signed : (half : ℕ) (number : Number) → OnlyRange (signed_in half number)
signed half (Of z) = ranged _ _
signed half TooLarge = refl

any_whole : (number : Number) → OnlyRange (whole number)
any_whole (Of z) = tt
any_whole TooLarge = refl

pub both : (a b : Bool) → (a && b) ≡ true → (a ≡ true) × (b ≡ true)
both true b e = (refl, e)
both false b e = absurd (cc)

-- ---- labels

pub found : (settings : List Setting) (name : List ℕ) → is_set settings name ≡ true → OnlyRange (pc_of settings name)
found settings name is = by_setting (setting_of settings name) is
  where
    by_setting : (setting : Option Setting) → is_some setting ≡ true → OnlyRange (pc_in setting)
    by_setting None e = absurd (cc)
    by_setting (Some setting) e = tt

offset : (settings : List Setting) (pc : ℕ) (name : List ℕ) → is_set settings name ≡ true → OnlyRange (long_offset settings pc name)
offset settings pc name is = and_then (pc_of settings name) _ (found settings name is) (λ at. and_then (offset_in (2 ^ 31) pc at) _ (ranged _ _) (λ z. tt))

offsets : (settings : List Setting) (pc : ℕ) (names : List (List ℕ)) → are_set settings names ≡ true → OnlyRange (long_offsets settings pc names)
offsets settings pc [] is = tt
offsets settings pc (name ∷ more) is =
    let each = both (is_set settings name) (are_set settings more) is in
    and_then (long_offset settings pc name) _ (offset settings pc name each.0) (λ first. and_then (long_offsets settings pc more) _ (offsets settings pc more each.1) (λ others. tt))

cases_range : (settings : List Setting) (pc : ℕ) (cases : List Case) → are_cases_set settings cases ≡ true → OnlyRange (case_bytes settings pc cases)
cases_range settings pc [] is = tt
cases_range settings pc (case ∷ more) is =
    let each = both (is_set settings case.label) (are_cases_set settings more) is in
    and_then (whole case.key) _ (any_whole case.key) (λ key.
    and_then (long_offset settings pc case.label) _ (offset settings pc case.label each.0) (λ first.
    and_then (case_bytes settings pc more) _ (cases_range settings pc more each.1) (λ others. tt)))

behind_range : (front : List ℕ) (read : Result (List ℕ) Cause) → OnlyRange read → OnlyRange (behind front read)
behind_range front (Err cause) p = p
behind_range front (Ok part) p = tt

-- ---- operations

local_range : (op : ℕ) (index : Number) (wide : Bool) → OnlyRange (local_bytes op index wide)
local_range op index false = and_then (unsigned_in 256 index) _ (unsigned 256 index) (λ n. tt)
local_range op index true = and_then (unsigned_in 65536 index) _ (unsigned 65536 index) (λ n. tt)

iinc_range : (index by : Number) (wide : Bool) → OnlyRange (iinc_bytes index by wide)
iinc_range index by false = and_then (unsigned_in 256 index) _ (unsigned 256 index) (λ n. and_then (signed_in 128 by) _ (signed 128 by) (λ z. tt))
iinc_range index by true = and_then (unsigned_in 65536 index) _ (unsigned 65536 index) (λ n. and_then (signed_in 32768 by) _ (signed 32768 by) (λ z. tt))

push_range : (op : ℕ) (value : Number) (operands : Option Operands) → OnlyRange (push_bytes op value operands)
push_range op value (Some SignedByte) = and_then (signed_in 128 value) _ (signed 128 value) (λ z. tt)
push_range op value _ = and_then (signed_in 32768 value) _ (signed 32768 value) (λ z. tt)

load_range : (op entry : ℕ) (operands : Option Operands) → OnlyRange (load_bytes op entry operands)
load_range op entry (Some PoolByte) = ranged (nat_lt entry 256) _
load_range op entry _ = tt

jump_range : (pc op at : ℕ) (operands : Option Operands) → OnlyRange (jump_to pc op at operands)
jump_range pc op at (Some OffsetInt) = and_then (offset_in (2 ^ 31) pc at) _ (ranged _ _) (λ z. tt)
jump_range pc op at _ = and_then (offset_in (2 ^ 15) pc at) _ (ranged _ _) (λ z. tt)

front_range : (settings : List Setting) (pc : ℕ) (low : Number) (other : List ℕ) (count : ℕ) → is_set settings other ≡ true → OnlyRange (table_front settings pc low other count)
front_range settings pc low other count is =
    and_then (whole low) _ (any_whole low) (λ least.
    and_then (whole_in (least +ℤ pos (count - 1))) _ (ranged _ _) (λ most.
    and_then (long_offset settings pc other) _ (offset settings pc other is) (λ default. tt)))

table_range : (settings : List Setting) (pc : ℕ) (low : Number) (other : List ℕ) (labels : List (List ℕ)) → is_set settings other ≡ true → are_set settings labels ≡ true → OnlyRange (table_set settings pc low other labels)
table_range settings pc low other labels is all =
    and_then (in_range (nat_lt (length labels) (2 ^ 32)) (length labels)) _ (ranged _ _) (λ count.
    and_then (table_front settings pc low other count) _ (front_range settings pc low other count is) (λ front.
    behind_range front (long_offsets settings pc labels) (offsets settings pc labels all)))

lookup_range : (settings : List Setting) (pc : ℕ) (other : List ℕ) (cases : List Case) → is_set settings other ≡ true → are_cases_set settings cases ≡ true → OnlyRange (lookup_set settings pc other cases)
lookup_range settings pc other cases is all =
    and_then (in_range (nat_lt (length cases) (2 ^ 31)) (length cases)) _ (ranged _ _) (λ count.
    and_then (long_offset settings pc other) _ (offset settings pc other is) (λ default. behind_range (switch_head 171 pc ++ default ++ big_bytes 4 count) (case_bytes settings pc cases) (cases_range settings pc cases all)))

taken : (test : Bool) (read : Result (List ℕ) Cause) → test ≡ true → OnlyRange read → OnlyRange (if test then read else Err Label)
taken true read is p = p
taken false read is p = absurd (cc)

not_taken : (test : Bool) (read : Result (List ℕ) Cause) → test ≡ false → (if test then read else Err Label) ≡ Err Label
not_taken true read is = absurd (cc)
not_taken false read is = refl

pub only_ranges : (settings : List Setting) (pc entry : ℕ) (operation : Operation) → has_labels settings operation ≡ true → OnlyRange (operation_bytes settings pc entry operation)
unfolding operation_bytes
only_ranges settings pc entry (Plain op) is = tt
only_ranges settings pc entry (Local op index wide) is = local_range op index wide
only_ranges settings pc entry (Iinc index by wide) is = iinc_range index by wide
only_ranges settings pc entry (Push op value) is = push_range op value (operands_of op)
only_ranges settings pc entry (Load op constant) is = load_range op entry (operands_of op)
only_ranges settings pc entry (OfClass op class) is = tt
only_ranges settings pc entry (OfMember op member) is = tt
only_ranges settings pc entry (NewArray kind) is = tt
only_ranges settings pc entry (Jump op label) is = and_then (pc_of settings label) _ (found settings label is) (λ at. jump_range pc op at (operands_of op))
only_ranges settings pc entry (TableSwitch low other labels) is =
    let each = both (is_set settings other) (are_set settings labels) is in
    taken (is_set settings other && are_set settings labels) _ is (table_range settings pc low other labels each.0 each.1)
only_ranges settings pc entry (LookupSwitch other cases) is =
    let each = both (is_set settings other) (are_cases_set settings cases) is in
    taken (is_set settings other && are_cases_set settings cases) _ is (lookup_range settings pc other cases each.0 each.1)

pub operand_ranges : (operation : Operation) (pool : List PoolEntry) → OnlyRange (need_operand operation pool)
unfolding need_operand
operand_ranges (Load op constant) pool = or_ranged _
operand_ranges (OfClass op class) pool = or_ranged _
operand_ranges (OfMember op member) pool = or_ranged _
operand_ranges _ pool = tt

-- ---- a label that isn't set

unset_first : {B : Type 0} (setting : Option Setting) (more : ℕ → Result B Cause) → is_some setting ≡ false → (pc_in setting >>= more) ≡ Err Label
unset_first None more is = refl
unset_first (Some setting) more is = absurd (cc)

-- what uses labels needs no entry
pub unset : {B : Type 0} (settings : List Setting) (pc : ℕ) (operation : Operation) (pool : List PoolEntry) (more : List PoolEntry × ℕ → List ℕ → Result B Cause) → has_labels settings operation ≡ false
    → (need_operand operation pool >>= (λ needed. operation_bytes settings pc needed.1 operation >>= more needed)) ≡ Err Label
unfolding need_operand operation_bytes
unset settings pc (Plain op) pool more is = absurd (cc)
unset settings pc (Local op index wide) pool more is = absurd (cc)
unset settings pc (Iinc index by wide) pool more is = absurd (cc)
unset settings pc (Push op value) pool more is = absurd (cc)
unset settings pc (Load op constant) pool more is = absurd (cc)
unset settings pc (OfClass op class) pool more is = absurd (cc)
unset settings pc (OfMember op member) pool more is = absurd (cc)
unset settings pc (NewArray kind) pool more is = absurd (cc)
unset settings pc (Jump op label) pool more is = rw (unset_first (setting_of settings label) (λ at. jump_to pc op at (operands_of op)) is) refl
unset settings pc (TableSwitch low other labels) pool more is = rw (not_taken (is_set settings other && are_set settings labels) (table_set settings pc low other labels) is) refl
unset settings pc (LookupSwitch other cases) pool more is = rw (not_taken (is_set settings other && are_cases_set settings cases) (lookup_set settings pc other cases) is) refl

pub unset_row : {B : Type 0} (settings : List Setting) (start end handler : List ℕ) (more : ℕ → ℕ → ℕ → Result B Cause) → (is_set settings start && (is_set settings end && is_set settings handler)) ≡ false
    → (pc_of settings start >>= (λ a. pc_of settings end >>= (λ b. pc_of settings handler >>= more a b))) ≡ Err Label
unset_row {B} settings start end handler more is = by (setting_of settings start) (setting_of settings end) (setting_of settings handler) is
  where
    by : (a b c : Option Setting) → (is_some a && (is_some b && is_some c)) ≡ false → (pc_in a >>= (λ x. pc_in b >>= (λ y. pc_in c >>= more x y))) ≡ Err Label
    by None b c e = refl
    by (Some a) None c e = refl
    by (Some a) (Some b) None e = refl
    by (Some a) (Some b) (Some c) e = absurd (cc)

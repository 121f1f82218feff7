-- Code (JVM Specification SE 8, 4.7.3, 4.9.1): first its instructions one after another, then their jumps, then the rows of
-- its exception table. A fault here is a code and a pc, or a code and a row.
use Rattle.std.specs.Prelude.{ℕ, zero, suc, ◌+◌, ◌-◌, Bool, true, false, ◌&&◌, ◌||◌, not, nat_lt, nat_le, ◌==◌, if◌then◌else◌, pos, ◌+ℤ◌, ◌%◌, List, [], ◌∷◌, length, take, drop, Option, Some, None, Result, Ok, Err}
use Rattle.std.specs.List.{list_all, flat_map}
use Rattle.jo_insn.specs.declared.instructions.Insn.{Insn}
use Rattle.jo_insn.specs.declared.instructions.Insn.TheVariants.{Pooled, TableSwitch, LookupSwitch}
use Rattle.jo_insn.specs.declared.instructions.InsnFault.{InsnFault}
use Rattle.jo_insn.specs.declared.instructions.InsnFault.TheVariants as insn_faults
use Rattle.jo_insn.specs.declared.jumps.Placed.{Placed}
use Rattle.jo_insn.specs.Instructions.{decoded, spelled}
use Rattle.jo_insn.specs.Jumps.{jumps_of, is_start}
use Rattle.class_pool.specs.declared.entries.PoolEntry.{PoolEntry}
use Rattle.class_pool.specs.declared.entries.PoolEntry.TheVariants.{Integer, Float, Class, Text, FieldRef, MethodRef, InterfaceMethodRef, MethodHandle, MethodType}
use Rattle.class_pool.specs.declared.classes.RowInfo.{RowInfo}
use Rattle.class_pool.specs.declared.faults.Cut.TheVariants.{Opcode, Constant, WideType}
use Rattle.class_pool.specs.declared.faults.ClassCode.{ClassCode}
use Rattle.class_pool.specs.declared.faults.ClassCode.TheVariants.{PoolIndex, CodeBounds, BadOpcode, Unsupported}
use Rattle.class_pool.specs.Pool.{entry_at, class_name_at, desc_at, first_failing}

-- ---- descriptors with a long, a float or a double

-- some base type of the descriptor is D, F or J; letters of a class's name count for nothing
abbrev pub names_wide : Bool → List ℕ → Bool
names_wide in_name [] = false
names_wide true (b ∷ bs) = names_wide (not (b == 59)) bs
names_wide false (b ∷ bs) = (b == 68 || (b == 70 || b == 74)) || names_wide (b == 76) bs

abbrev pub is_wide_desc : Option (List ℕ) → Bool
is_wide_desc None = false
is_wide_desc (Some desc) = names_wide false desc

-- ---- the pool entry that an instruction names

-- how many array dimensions the name of a Class entry has, 0 for a class
abbrev pub dims_of : List ℕ → ℕ
dims_of [] = 0
dims_of (b ∷ bs) = if b == 91 then 1 + dims_of bs else 0

-- the dimensions of what the Class entry with that index names, where there is one
abbrev pub dims_at : List PoolEntry → ℕ → Option ℕ
dims_at pool index = dims_in (class_name_at pool index)
  where
    dims_in : Option (List ℕ) → Option ℕ
    dims_in None = None
    dims_in (Some name) = Some (dims_of name)

abbrev pub has_dims_that : (ℕ → Bool) → Option ℕ → Bool
has_dims_that test None = false
has_dims_that test (Some dims) = test dims

-- ldc loads an int or a text; another loadable constant is outside the profile, and a Long or Double can't be loaded so
abbrev pub constant_fault : ℕ → Option PoolEntry → Option ClassCode
constant_fault index (Some (Integer n)) = None
constant_fault index (Some (Text text)) = None
constant_fault index (Some (Float bits)) = Some (Unsupported (Constant index))
constant_fault index (Some (Class name)) = Some (Unsupported (Constant index))
constant_fault index (Some (MethodHandle kind target)) = Some (Unsupported (Constant index))
constant_fault index (Some (MethodType desc)) = Some (Unsupported (Constant index))
constant_fault index _ = Some PoolIndex

abbrev pub wide_member : List PoolEntry → ℕ → Option ClassCode
wide_member pool type = if is_wide_desc (desc_at pool type) then Some (Unsupported WideType) else None

abbrev pub field_fault : List PoolEntry → Option PoolEntry → Option ClassCode
field_fault pool (Some (FieldRef class type)) = wide_member pool type
field_fault pool _ = Some PoolIndex

abbrev pub method_fault : List PoolEntry → Option PoolEntry → Option ClassCode
method_fault pool (Some (MethodRef class type)) = wide_member pool type
method_fault pool _ = Some PoolIndex

abbrev pub interface_fault : List PoolEntry → Option PoolEntry → Option ClassCode
interface_fault pool (Some (InterfaceMethodRef class type)) = wide_member pool type
interface_fault pool _ = Some PoolIndex

abbrev pub or_else : Option ClassCode → Option ClassCode → Option ClassCode
or_else None other = other
or_else (Some code) other = Some code

-- invokespecial and invokestatic of an interface's method are outside the profile
abbrev pub class_method_fault : ℕ → List PoolEntry → Option PoolEntry → Option ClassCode
class_method_fault op pool (Some (MethodRef class type)) = wide_member pool type
class_method_fault op pool (Some (InterfaceMethodRef class type)) = or_else (wide_member pool type) (Some (Unsupported (Opcode op)))
class_method_fault op pool _ = Some PoolIndex

abbrev pub index_unless : Bool → Option ClassCode
index_unless test = if test then None else Some PoolIndex

-- Opcodes: 18 ldc, 19 ldc_w, 178 to 181 getstatic to putfield, 182 invokevirtual, 183 invokespecial, 184 invokestatic,
-- 185 invokeinterface, 187 new, 189 anewarray, 192 checkcast, 193 instanceof.
abbrev pub pooled_fault : List PoolEntry → ℕ → ℕ → Option ClassCode
pooled_fault pool op index =
    if nat_lt op 20 then constant_fault index (entry_at pool index)
    else if nat_lt op 182 then field_fault pool (entry_at pool index)
    else if op == 182 then method_fault pool (entry_at pool index)
    else if nat_lt op 185 then class_method_fault op pool (entry_at pool index)
    else if op == 185 then interface_fault pool (entry_at pool index)
    else if op == 187 then index_unless (has_dims_that (λ dims. dims == 0) (dims_at pool index))
    else if op == 189 then index_unless (has_dims_that (λ dims. nat_lt dims 255) (dims_at pool index))
    else index_unless (has_dims_that (λ _. true) (dims_at pool index))

abbrev pub insn_fault : List PoolEntry → Insn → Option ClassCode
insn_fault pool (Pooled op index) = pooled_fault pool op index
insn_fault pool _ = None

-- ---- instructions

abbrev pub code_for : InsnFault → ClassCode
code_for insn_faults.Cut = CodeBounds
code_for (insn_faults.Unknown op) = BadOpcode
code_for (insn_faults.Outside op) = Unsupported (Opcode op)
code_for insn_faults.Malformed = CodeBounds

abbrev pub placed_at : List PoolEntry → ℕ → Result (Insn × ℕ) InsnFault → Result Placed (ClassCode × ℕ)
placed_at pool pc (Err e) = Err (code_for e, pc)
placed_at pool pc (Ok found) = unless_code (insn_fault pool found.0) pc (record { pc = pc; insn = found.0; next = found.1 })
  where
    unless_code : Option ClassCode → ℕ → Placed → Result Placed (ClassCode × ℕ)
    unless_code None pc placed = Ok placed
    unless_code (Some code) pc placed = Err (code, pc)

-- The instructions from a pc on up to the code's end, or the first fault. The first number bounds how many there are.
unfoldable pub insns_from : ℕ → List PoolEntry → List ℕ → ℕ → Result (List Placed) (ClassCode × ℕ)
insns_from zero pool code pc = Ok []
insns_from (suc k) pool code pc = if nat_le (length code) pc then Ok [] else followed (placed_at pool pc (decoded code pc)) (λ next. insns_from k pool code next)
  where
    followed : Result Placed (ClassCode × ℕ) → (ℕ → Result (List Placed) (ClassCode × ℕ)) → Result (List Placed) (ClassCode × ℕ)
    followed (Err e) more = Err e
    followed (Ok placed) more = behind placed (more placed.next)
      where
        behind : Placed → Result (List Placed) (ClassCode × ℕ) → Result (List Placed) (ClassCode × ℕ)
        behind placed (Err e) = Err e
        behind placed (Ok others) = Ok (placed ∷ others)

abbrev pub insns_of : List PoolEntry → List ℕ → Result (List Placed) (ClassCode × ℕ)
insns_of pool code = insns_from (length code) pool code 0

-- ---- jumps

abbrev pub jumps_well : List ℕ → List Placed → Placed → Bool
jumps_well code insns placed = list_all (λ by. is_start insns (pos placed.pc +ℤ by)) (jumps_of code placed.insn)

-- the first instruction that jumps elsewhere than to a start
abbrev pub first_bad_jump : List ℕ → List Placed → List Placed → Option ℕ
first_bad_jump code insns [] = None
first_bad_jump code insns (placed ∷ more) = if jumps_well code insns placed then first_bad_jump code insns more else Some placed.pc

-- ---- rows

abbrev pub row_questions : List PoolEntry → ℕ → List Placed → RowInfo → List (Bool × ClassCode)
row_questions pool size insns row =
    (nat_lt row.start row.end && (is_start insns (pos row.start) && (is_start insns (pos row.handler) && (row.end == size || is_start insns (pos row.end)))), CodeBounds)
    ∷ (row.catch_type == 0 || has_dims_that (λ _. true) (dims_at pool row.catch_type), PoolIndex) ∷ []

-- the first row with a fault, counted from 0
abbrev pub row_fault : List PoolEntry → ℕ → List Placed → ℕ → List RowInfo → Option (ClassCode × ℕ)
row_fault pool size insns k [] = None
row_fault pool size insns k (row ∷ more) = at_row (first_failing (row_questions pool size insns row)) k (row_fault pool size insns (suc k) more)
  where
    at_row : Option ClassCode → ℕ → Option (ClassCode × ℕ) → Option (ClassCode × ℕ)
    at_row None k later = later
    at_row (Some code) k later = Some (code, k)

-- ---- the code that is kept

-- how many words a parameter takes whose base type has this letter, by JVMS 6.5.invokeinterface: a long or a double two, all
-- else one, arrays too
abbrev pub words_of : Bool → ℕ → ℕ
words_of in_array letter = if not in_array && (letter == 74 || letter == 68) then 2 else 1

-- The words of the parameters from here on, and so many before. A parameter is counted at its base type, which is the
-- letter that ends it or the `L` of a class's name.
abbrev pub words_from : ℕ → Bool → Bool → List ℕ → ℕ
words_from count in_array in_name [] = count
words_from count in_array true (b ∷ bs) = words_from count false (not (b == 59)) bs
words_from count in_array false (b ∷ bs) =
    if b == 41 then count
    else if b == 40 || b == 91 then words_from count (b == 91) false bs
    else words_from (count + words_of in_array b) false (b == 76) bs

-- how many words the arguments of a call with this descriptor take, its receiver included
abbrev pub argument_words : List ℕ → ℕ
argument_words desc = 1 + words_from 0 false false desc

-- what stands behind the operands of an instruction: the offsets or pairs of a switch as they are, and behind the index of
-- an invokeinterface the count of its argument words and a zero
abbrev pub canonical_table : List PoolEntry → List ℕ → Placed → List ℕ
canonical_table pool code placed = table_for placed.insn
  where
    words_at : Option (List ℕ) → ℕ
    words_at None = 0
    words_at (Some desc) = argument_words desc % 256

    desc_named : Option PoolEntry → Option (List ℕ)
    desc_named (Some (InterfaceMethodRef class type)) = desc_at pool type
    desc_named _ = None

    table_for : Insn → List ℕ
    table_for (Pooled op index) = if op == 185 then words_at (desc_named (entry_at pool index)) ∷ 0 ∷ [] else []
    table_for (TableSwitch other low high at) = take (placed.next - at) (drop at code)
    table_for (LookupSwitch other pairs at) = take (placed.next - at) (drop at code)
    table_for _ = []

-- the code with zero padding and canonical counts
abbrev pub canonical_code : List PoolEntry → List ℕ → List Placed → List ℕ
canonical_code pool code insns = flat_map (λ (placed : Placed). spelled placed.pc placed.insn (canonical_table pool code placed)) insns

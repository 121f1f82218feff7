-- Instructions with what they name looked up in the program (JVM Specification SE 8, 4.9.1, 5.1, 5.4.3 and 6.5): what a thread does
-- at a pc, apart from its values.
use Rattle.std.specs.Prelude.{ℕ, zero, suc, ◌+◌, ◌-◌, ◌^◌, Bool, false, ◌==◌, ◌||◌, nat_lt, if◌then◌else◌, ℤ, pos, ◌+ℤ◌, ◌-ℤ◌, unsigned_abs, List, [], ◌∷◌, drop, length, map, zip, Option, Some, None, Result, Ok, Err, option_map, option_and_then, slice_get}
use Rattle.jo_text.specs.declared.descriptors.Base.{Base}
use Rattle.jo_text.specs.declared.descriptors.Base.TheVariants.{Byte, Char, Int as OfInt, Short, Boolean, Class as OfName}
use Rattle.jo_text.specs.declared.descriptors.FieldDesc.{FieldDesc}
use Rattle.jo_text.specs.declared.descriptors.MethodDesc.{MethodDesc}
use Rattle.jo_insn.specs.Instructions.{decoded, offsets_between, keys_of}
use Rattle.jo_insn.specs.Jumps.{offsets_of}
use Rattle.jo_insn.specs.declared.instructions.Insn.{Insn}
use Rattle.jo_insn.specs.declared.instructions.Insn.TheVariants.{Plain, Local, Iinc, Push, Pooled, Array, Jump, TableSwitch, LookupSwitch}
use Rattle.jo_insn.specs.declared.instructions.InsnFault.{InsnFault}
use Rattle.jo_prog.specs.declared.program.Program.{Program}
use Rattle.jo_prog.specs.declared.program.Class.{Class}
use Rattle.jo_prog.specs.declared.program.Field.{Field}
use Rattle.jo_prog.specs.declared.program.Method.{Method}
use Rattle.jo_prog.specs.declared.program.Code.{Code}
use Rattle.jo_prog.specs.declared.program.TypeRef.{TypeRef}
use Rattle.jo_prog.specs.declared.program.TypeRef.TheVariants.{Class as OfClass, Array as OfArray}
use Rattle.jo_prog.specs.declared.program.MemberRef.{MemberRef}
use Rattle.jo_prog.specs.declared.program.Operand.{Operand}
use Rattle.jo_prog.specs.declared.program.Operand.TheVariants.{Int, Text, OfType, Member}
use Rattle.jo_prog.specs.Program.{method_at, class_at, code_at, operand_at}
use Rattle.jo_prog.specs.Operations.{within}
use Rattle.jo_prog.specs.Calls.{receiver_class}
use Rattle.jo_prog.specs.Hierarchy.{resolve_method, resolve_field}
use Rattle.jo_prog.specs.MethodTypes.{field_desc_in, method_desc_in}

-- A number that stands first is an opcode where the name speaks of several instructions. Field, method and class numbers are the
-- program's; targets are pcs.
pub data Instruction : Type 0 where
  -- nop
  passes : Instruction
  -- aconst_null; iconst, bipush, sipush and ldc of an int; ldc of a text
  pushes_null : Instruction
  pushes_int : ℤ → Instruction
  pushes_text : List ℕ → Instruction
  -- a local to the stack, from the stack to a local, and iinc
  loads : ℕ → Instruction
  stores : ℕ → Instruction
  increments : ℕ → ℤ → Instruction
  -- an element of an array; the second are the stores
  loads_element : Instruction
  stores_element : Instruction
  -- pop, pop2, the dup family and swap
  shuffles : ℕ → Instruction
  -- ints: two operands, ineg, and i2b, i2c, i2s
  computes : ℕ → Instruction
  negates : Instruction
  narrows : ℕ → Instruction
  -- jumps where one int, two ints, two references or one pass a test; jumps; switches by keys, and else to the last
  tests : ℕ → ℕ → Instruction
  compares : ℕ → ℕ → Instruction
  compares_references : ℕ → ℕ → Instruction
  tests_null : ℕ → ℕ → Instruction
  jumps_to : ℕ → Instruction
  switches : List (ℤ × ℕ) → ℕ → Instruction
  -- ireturn and areturn, with the result's type; return
  returns_value : FieldDesc → Instruction
  returns_nothing : Instruction
  -- fields, the stores with the field's type
  gets_static : ℕ → Instruction
  puts_static : ℕ → FieldDesc → Instruction
  gets_field : ℕ → Instruction
  puts_field : ℕ → FieldDesc → Instruction
  -- new of a class; newarray and anewarray of an element type; arraylength
  creates : ℕ → Instruction
  creates_array : FieldDesc → Instruction
  measures : Instruction
  -- athrow, checkcast, instanceof
  throws : Instruction
  casts : TypeRef → Instruction
  checks : TypeRef → Instruction
  -- the four calls: the opcode, the type that is named, the method that it resolves to, and how many values are its parameters
  calls : ℕ → TypeRef → ℕ → ℕ → Instruction

-- ---- one byte: opcodes 0 to 8, 26 to 45, 46 to 53, 59 to 78, 79 to 86, 87 to 95, 96 to 130, 145 to 147, 172 to 177, 190 and 191

abbrev pub is_element_load : ℕ → Bool
is_element_load op = op == 46 || within 50 53 op

abbrev pub is_element_store : ℕ → Bool
is_element_store op = op == 79 || within 83 86 op

-- the type of a method's result (6.5, ireturn and areturn)
abbrev pub result_of : Option MethodDesc → Option FieldDesc
result_of None = None
result_of (Some type) = type.result

abbrev pub returned : Option FieldDesc → Option Instruction
returned None = None
returned (Some type) = Some (returns_value type)

abbrev pub plain_instruction : Option MethodDesc → ℕ → Option Instruction
plain_instruction type op =
    if op == 0 then Some passes
    else if op == 1 then Some pushes_null
    else if within 2 8 op then Some (pushes_int (pos op -ℤ pos 3))
    else if within 26 29 op then Some (loads (op - 26))
    else if within 42 45 op then Some (loads (op - 42))
    else if is_element_load op then Some loads_element
    else if within 59 62 op then Some (stores (op - 59))
    else if within 75 78 op then Some (stores (op - 75))
    else if is_element_store op then Some stores_element
    else if within 87 95 op then Some (shuffles op)
    else if op == 116 then Some negates
    else if within 96 130 op then Some (computes op)
    else if within 145 147 op then Some (narrows op)
    else if op == 172 || op == 176 then returned (result_of type)
    else if op == 177 then Some returns_nothing
    else if op == 190 then Some measures
    else if op == 191 then Some throws
    else None

-- 21 iload, 25 aload, 54 istore, 58 astore
abbrev pub local_instruction : ℕ → ℕ → Option Instruction
local_instruction op index = if op == 21 || op == 25 then Some (loads index) else Some (stores index)

-- ---- jumps

-- the pc so far from a pc; no instruction of a class file leads before the first
abbrev pub pc_behind : ℕ → ℤ → ℕ
pc_behind pc by = unsigned_abs (pos pc +ℤ by)

-- 153 to 158 of an int, 159 to 164 of two, 165 and 166 of two references, 198 and 199 of one, 167 and 200 always
abbrev pub jump_instruction : ℕ → ℕ → Option Instruction
jump_instruction op target =
    if within 153 158 op then Some (tests op target)
    else if within 159 164 op then Some (compares op target)
    else if within 165 166 op then Some (compares_references op target)
    else if within 198 199 op then Some (tests_null op target)
    else Some (jumps_to target)

-- so many numbers in a row
abbrev pub keys_from : ℤ → ℕ → List ℤ
keys_from low zero = []
keys_from low (suc n) = low ∷ keys_from (low +ℤ pos 1) n

abbrev pub cases_of : ℕ → List ℤ → List ℤ → List (ℤ × ℕ)
cases_of pc keys offsets = zip keys (map (pc_behind pc) offsets)

-- ---- what the pool names (5.1)

-- the element type of an array whose elements have a type
abbrev pub class_name : Option Class → List ℕ
class_name None = []
class_name (Some class) = class.name

abbrev pub element_type : Program → TypeRef → FieldDesc
element_type program (OfClass c) = record { dims = 0; base = OfName (class_name (class_at program c)) }
element_type program (OfArray type) = type

-- newarray: 4 boolean, 5 char, 8 byte, 9 short, 10 int
abbrev pub kind_type : ℕ → FieldDesc
kind_type kind = record { dims = 0; base = base_of }
  where
    base_of : Base
    base_of = if kind == 4 then Boolean else if kind == 5 then Char else if kind == 8 then Byte else if kind == 9 then Short else OfInt

-- the field that a reference resolves to (5.4.3.2), and its type; an array has no field
abbrev pub field_named : Program → MemberRef → Option ℕ
field_named program ref = of_owner ref.owner
  where
    of_owner : TypeRef → Option ℕ
    of_owner (OfClass c) = resolve_field program c ref.name ref.desc
    of_owner (OfArray type) = None

-- the method that it resolves to (5.4.3.3, 5.4.3.4); an array has those of java/lang/Object
abbrev pub method_named : Program → MemberRef → Option ℕ
method_named program ref = resolve_method program (receiver_class ref.owner) ref.name ref.desc

abbrev pub field_instruction : ℕ → ℕ → FieldDesc → Instruction
field_instruction op field type =
    if op == 178 then gets_static field
    else if op == 179 then puts_static field type
    else if op == 180 then gets_field field
    else puts_field field type

abbrev pub names_field : Program → ℕ → MemberRef → Option Instruction
names_field program op ref =
    option_and_then (λ field. option_map (λ type. field_instruction op field type) (field_desc_in ref.desc)) (field_named program ref)

-- its parameters, and the receiver but for invokestatic (184)
abbrev pub values_taken : ℕ → MethodDesc → ℕ
values_taken op type = if op == 184 then length type.params else suc (length type.params)

abbrev pub names_method : Program → ℕ → MemberRef → Option Instruction
names_method program op ref =
    option_and_then (λ method. option_map (λ (type : MethodDesc). calls op ref.owner method (values_taken op type)) (method_desc_in ref.desc)) (method_named program ref)

-- 178 to 181 name fields, the rest methods
abbrev pub names_member : Program → ℕ → MemberRef → Option Instruction
names_member program op ref = if within 178 181 op then names_field program op ref else names_method program op ref

-- 187 new, 189 anewarray, 192 checkcast, 193 instanceof; no array type is made by new
abbrev pub names_type : Program → ℕ → TypeRef → Option Instruction
names_type program op type =
    if op == 187 then created type
    else if op == 189 then Some (creates_array (element_type program type))
    else if op == 192 then Some (casts type)
    else if op == 193 then Some (checks type)
    else None
  where
    created : TypeRef → Option Instruction
    created (OfClass c) = Some (creates c)
    created (OfArray desc) = None

-- 18 ldc and 19 ldc_w name an int or a text
abbrev pub pooled_instruction : Program → ℕ → Option Operand → Option Instruction
pooled_instruction program op (Some (Int z)) = Some (pushes_int z)
pooled_instruction program op (Some (Text text)) = Some (pushes_text text)
pooled_instruction program op (Some (OfType type)) = names_type program op type
pooled_instruction program op (Some (Member ref)) = names_member program op ref
pooled_instruction program op _ = None

-- ---- the instruction at a pc

abbrev pub method_desc : Option Method → Option MethodDesc
method_desc None = None
method_desc (Some method) = method_desc_in method.desc

abbrev pub instruction_of : Program → ℕ → List ℕ → ℕ → Insn → Option Instruction
instruction_of program m code pc (Plain op) = plain_instruction (method_desc (method_at program m)) op
instruction_of program m code pc (Local op index wide) = local_instruction op index
instruction_of program m code pc (Iinc index by wide) = Some (increments index by)
instruction_of program m code pc (Push op value) = Some (pushes_int value)
instruction_of program m code pc (Pooled op index) = pooled_instruction program op (operand_at program m index)
instruction_of program m code pc (Array kind) = Some (creates_array (kind_type kind))
instruction_of program m code pc (Jump op by) = jump_instruction op (pc_behind pc by)
instruction_of program m code pc (TableSwitch other low high at) =
    Some (switches (cases_of pc (keys_from low (offsets_between low high)) (offsets_of (offsets_between low high) 4 (drop at code))) (pc_behind pc other))
instruction_of program m code pc (LookupSwitch other pairs at) =
    Some (switches (cases_of pc (keys_of pairs (drop at code)) (offsets_of pairs 8 (drop (at + 4) code))) (pc_behind pc other))

abbrev pub with_next : Program → ℕ → List ℕ → ℕ → Result (Insn × ℕ) InsnFault → Option (Instruction × ℕ)
with_next program m code pc (Err fault) = None
with_next program m code pc (Ok found) = option_map (λ instruction. (instruction, found.1)) (instruction_of program m code pc found.0)

-- code has fewer than 65,536 bytes (4.7.3), so longer code has no instructions
abbrev pub instruction_in : Program → ℕ → Option Code → ℕ → Option (Instruction × ℕ)
instruction_in program m None pc = None
instruction_in program m (Some code) pc =
    if nat_lt (length code.bytes) (2 ^ 16) then with_next program m code.bytes pc (decoded code.bytes pc) else None

-- the instruction at a pc of a method, and the pc behind it
abbrev pub instruction_at : Program → ℕ → ℕ → Option (Instruction × ℕ)
instruction_at program m pc = instruction_in program m (code_at program m) pc

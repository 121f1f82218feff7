-- What each instruction of the profile asks of the stack and of locals, and what it makes of them: one table by groups of opcodes (JVM
-- Specification SE 8, 6.5); and where the code goes on behind it, handlers included (2.10 and 4.7.3).
use Rattle.std.specs.Prelude.{ℕ, suc, ◌+◌, ◌-◌, ◌^◌, Bool, true, false, not, ◌&&◌, ◌||◌, ◌==◌, nat_lt, nat_le, int_le, if◌then◌else◌, ℤ, pos, ◌+ℤ◌, List, [], ◌∷◌, ◌++◌, map, reverse, length, take, replicate, Option, Some, None, is_some, Result, Ok, Err, option_map, option_and_then, slice_get, codes}
use Rattle.std.specs.List.{list_any}
use Rattle.std.specs.Str.{bytes_eq}
use Rattle.jo_insn.specs.AccessFlags.{has_flag, static_flag}
use Rattle.jo_insn.specs.Instructions.{decoded}
use Rattle.jo_insn.specs.Jumps.{targets_of}
use Rattle.jo_insn.specs.declared.instructions.Insn.{Insn}
use Rattle.jo_insn.specs.declared.instructions.Insn.TheVariants.{Plain, Local, Iinc, Push, Pooled, Array, Jump, TableSwitch, LookupSwitch}
use Rattle.jo_insn.specs.declared.instructions.InsnFault.{InsnFault}
use Rattle.jo_insn.specs.declared.jumps.Placed.{Placed}
use Rattle.jo_text.specs.declared.descriptors.FieldDesc.{FieldDesc}
use Rattle.jo_text.specs.declared.descriptors.MethodDesc.{MethodDesc}
use Rattle.jo_text.specs.declared.descriptors.Base.{Base}
use Rattle.jo_text.specs.declared.descriptors.Base.TheVariants.{Byte, Char, Int as IntBase, Short, Boolean, Class as OfName}
use Rattle.jo_prog.specs.declared.program.Program.{Program}
use Rattle.jo_prog.specs.declared.program.Class.{Class}
use Rattle.jo_prog.specs.declared.program.Method.{Method}
use Rattle.jo_prog.specs.declared.program.Code.{Code}
use Rattle.jo_prog.specs.declared.program.Row.{Row}
use Rattle.jo_prog.specs.declared.program.TypeRef.{TypeRef}
use Rattle.jo_prog.specs.declared.program.TypeRef.TheVariants.{Class as OfClass, Array as OfArray}
use Rattle.jo_prog.specs.declared.program.Operand.{Operand}
use Rattle.jo_prog.specs.declared.program.Operand.TheVariants.{Int as IntOperand, Text, OfType, Member}
use Rattle.jo_prog.specs.declared.program.MemberRef.{MemberRef}
use Rattle.jo_prog.specs.Program.{method_at, class_at, operand_at}
use Rattle.jo_prog.specs.Operations.{within}
use Rattle.jo_prog.specs.PreludeClasses.{string_class}
use Rattle.jo_prog.specs.Hierarchy.{resolve_method}
use Rattle.jo_prog.specs.Calls.{receiver_class, is_taken_as_resolved}
use Rattle.jo_prog.specs.Types.{array_of, type_fits}
use Rattle.jo_prog.specs.MethodTypes.{field_desc_in, method_desc_in}
use Rattle.jo_prog.specs.Typing.{Kind, Int, Null, Ref, Unset, Shape}
use Rattle.jo_prog.specs.Shapes.{kind_of_type, Need, Anything, AnInt, AReference, OfEach, AnArray, ArrayOfReferences, ArrayOf, Nothing, need_of, passes, Change, Same, Reference, Element, Origin, Always, OfStack, OfLocal, Effect, after, all_pass}

-- ---- forms of effects

abbrev pub stack_effect : List Need → List Origin → Effect
stack_effect pops pushes = record { pops = pops; pushes = pushes; reads = None; writes = None; wrong = false }

abbrev pub pushes_int : List Need → Effect
pushes_int pops = stack_effect pops (Always Int ∷ [])

-- of no kind that is needed, whatever the stack holds: an operand that names nothing of the sort, which no linked program has
abbrev pub wrong_effect : Effect
wrong_effect = record { pops = []; pushes = []; reads = None; writes = None; wrong = true }

-- the pushed places are copies of the popped ones with these numbers
abbrev pub moves : ℕ → List ℕ → Effect
moves count copies = stack_effect (replicate count Anything) (map (λ k. OfStack k Same) copies)

-- iload, aload, istore, astore and iinc of a local
abbrev pub loads_int : ℕ → Effect
loads_int k = record { pops = []; pushes = Always Int ∷ []; reads = Some (k, AnInt); writes = None; wrong = false }

abbrev pub loads_reference : ℕ → Effect
loads_reference k = record { pops = []; pushes = OfLocal k Reference ∷ []; reads = Some (k, AReference); writes = None; wrong = false }

abbrev pub stores_int : ℕ → Effect
stores_int k = record { pops = AnInt ∷ []; pushes = []; reads = None; writes = Some (k, Always Int); wrong = false }

abbrev pub stores_reference : ℕ → Effect
stores_reference k = record { pops = AReference ∷ []; pushes = []; reads = None; writes = Some (k, OfStack 0 Reference); wrong = false }

abbrev pub steps_int : ℕ → Effect
steps_int k = record { pops = []; pushes = []; reads = Some (k, AnInt); writes = Some (k, Always Int); wrong = false }

-- ---- returns: the method's descriptor says whether there is a result, and its kind

abbrev pub result_kind_of : Program → Option MethodDesc → Option Kind
result_kind_of program None = Some Unset
result_kind_of program (Some desc) = option_map (kind_of_type program) desc.result

abbrev pub result_kind : Program → Method → Option Kind
result_kind program method = result_kind_of program (method_desc_in method.desc)

abbrev pub int_result : Option Kind → Need
int_result (Some Int) = AnInt
int_result _ = Nothing

abbrev pub reference_result : Option Kind → Need
reference_result (Some (Ref type)) = OfEach (type ∷ [])
reference_result _ = Nothing

abbrev pub returns_nothing : Option Kind → Effect
returns_nothing result = record { pops = []; pushes = []; reads = None; writes = None; wrong = is_some result }

-- ---- instructions without operands, by opcode

-- nop (0), aconst_null (1), iconst_m1 to iconst_5 (2 to 8)
abbrev pub constant_effect : ℕ → Option Effect
constant_effect op =
    if op == 0 then Some (stack_effect [] [])
    else if op == 1 then Some (stack_effect [] (Always Null ∷ []))
    else if within 2 8 op then Some (pushes_int [])
    else None

-- iload_0 to iload_3, aload_0.., istore_0.., astore_0..
abbrev pub short_local_effect : ℕ → Option Effect
short_local_effect op =
    if within 26 29 op then Some (loads_int (op - 26))
    else if within 42 45 op then Some (loads_reference (op - 42))
    else if within 59 62 op then Some (stores_int (op - 59))
    else if within 75 78 op then Some (stores_reference (op - 75))
    else None

-- The letters of the elements: iaload and iastore I (73), baload and bastore B (66) or Z (90), caload and castore C (67), saload and
-- sastore S (83).
abbrev pub element_letters : ℕ → List ℕ
element_letters op =
    if op == 46 || op == 79 then 73 ∷ []
    else if op == 51 || op == 84 then 66 ∷ 90 ∷ []
    else if op == 52 || op == 85 then 67 ∷ []
    else 83 ∷ []

-- iaload, aaload to saload; iastore, aastore to sastore; arraylength
abbrev pub array_effect : ℕ → Option Effect
array_effect op =
    if op == 50 then Some (stack_effect (AnInt ∷ ArrayOfReferences ∷ []) (OfStack 1 Element ∷ []))
    else if op == 46 || within 51 53 op then Some (pushes_int (AnInt ∷ ArrayOf (element_letters op) ∷ []))
    else if op == 83 then Some (stack_effect (AReference ∷ AnInt ∷ ArrayOfReferences ∷ []) [])
    else if op == 79 || within 84 86 op then Some (stack_effect (AnInt ∷ AnInt ∷ ArrayOf (element_letters op) ∷ []) [])
    else if op == 190 then Some (pushes_int (AnArray ∷ []))
    else None

-- pop, pop2, dup, dup_x1, dup_x2, dup2, dup2_x1, dup2_x2, swap: each place has one word here
abbrev pub move_effect : ℕ → Option Effect
move_effect op =
    if op == 87 then Some (moves 1 [])
    else if op == 88 then Some (moves 2 [])
    else if op == 89 then Some (moves 1 (0 ∷ 0 ∷ []))
    else if op == 90 then Some (moves 2 (0 ∷ 1 ∷ 0 ∷ []))
    else if op == 91 then Some (moves 3 (0 ∷ 1 ∷ 2 ∷ 0 ∷ []))
    else if op == 92 then Some (moves 2 (0 ∷ 1 ∷ 0 ∷ 1 ∷ []))
    else if op == 93 then Some (moves 3 (0 ∷ 1 ∷ 2 ∷ 0 ∷ 1 ∷ []))
    else if op == 94 then Some (moves 4 (0 ∷ 1 ∷ 2 ∷ 3 ∷ 0 ∷ 1 ∷ []))
    else if op == 95 then Some (moves 2 (1 ∷ 0 ∷ []))
    else None

-- ineg, i2b, i2c, i2s; iadd, isub, imul, idiv, irem, ishl, ishr, iushr, iand, ior, ixor
abbrev pub arithmetic_effect : ℕ → Option Effect
arithmetic_effect op =
    if op == 116 || within 145 147 op then Some (pushes_int (AnInt ∷ []))
    else if within 96 130 op then Some (pushes_int (AnInt ∷ AnInt ∷ []))
    else None

-- the type java/lang/Throwable, by its place among the prelude's names
abbrev pub throwable : TypeRef
throwable = OfClass 4

-- ireturn, areturn, return, athrow. What is thrown is a Throwable.
abbrev pub leaving_effect : Option Kind → ℕ → Option Effect
leaving_effect result op =
    if op == 172 then Some (stack_effect (int_result result ∷ []) [])
    else if op == 176 then Some (stack_effect (reference_result result ∷ []) [])
    else if op == 177 then Some (returns_nothing result)
    else if op == 191 then Some (stack_effect (OfEach (throwable ∷ []) ∷ []) [])
    else None

abbrev pub first_of : Option Effect → Effect → Effect
first_of (Some effect) other = effect
first_of None other = other

abbrev pub plain_effect : Option Kind → ℕ → Effect
plain_effect result op =
    first_of (constant_effect op) (first_of (short_local_effect op) (first_of (array_effect op) (first_of (move_effect op)
    (first_of (arithmetic_effect op) (first_of (leaving_effect result op) wrong_effect)))))

-- ---- instructions with operands

-- iload (21), aload (25), istore (54), astore (58)
abbrev pub local_effect : ℕ → ℕ → Effect
local_effect op k =
    if op == 21 then loads_int k
    else if op == 25 then loads_reference k
    else if op == 54 then stores_int k
    else if op == 58 then stores_reference k
    else wrong_effect

-- ifeq to ifle (153 to 158), if_icmpeq to if_icmple (159 to 164), if_acmpeq, if_acmpne, ifnull, ifnonnull, goto (167) and goto_w (200)
abbrev pub jump_effect : ℕ → Effect
jump_effect op =
    if within 153 158 op then stack_effect (AnInt ∷ []) []
    else if within 159 164 op then stack_effect (AnInt ∷ AnInt ∷ []) []
    else if within 165 166 op then stack_effect (AReference ∷ AReference ∷ []) []
    else if within 198 199 op then stack_effect (AReference ∷ []) []
    else if op == 167 || op == 200 then stack_effect [] []
    else wrong_effect

-- newarray: 4 boolean, 5 char, 8 byte, 9 short, 10 int
abbrev pub base_of_kind : ℕ → Base
base_of_kind kind =
    if kind == 4 then Boolean
    else if kind == 5 then Char
    else if kind == 8 then Byte
    else if kind == 9 then Short
    else IntBase

abbrev pub makes : List Need → TypeRef → Effect
makes pops type = stack_effect pops (Always (Ref type) ∷ [])

-- ldc and ldc_w: an int or a String
abbrev pub constant_of : Option Operand → Effect
constant_of (Some (IntOperand value)) = pushes_int []
constant_of (Some (Text text)) = makes [] (OfClass string_class)
constant_of _ = wrong_effect

-- arrays of a type: its name is that of its class
abbrev pub array_over_class : Option Class → Effect
array_over_class None = wrong_effect
array_over_class (Some class) = makes (AnInt ∷ []) (OfArray (array_of 1 (OfName class.name)))

abbrev pub array_over : Program → TypeRef → Effect
array_over program (OfClass c) = array_over_class (class_at program c)
array_over program (OfArray desc) = makes (AnInt ∷ []) (OfArray (array_of (suc desc.dims) desc.base))

-- new (187), anewarray (189), checkcast (192), instanceof (193)
abbrev pub type_effect : Program → ℕ → TypeRef → Effect
type_effect program op type =
    if op == 187 then makes [] type
    else if op == 189 then array_over program type
    else if op == 192 then makes (AReference ∷ []) type
    else if op == 193 then pushes_int (AReference ∷ [])
    else wrong_effect

-- getstatic (178), putstatic (179), getfield (180), putfield (181); the base is of the class that the instruction names
abbrev pub field_effect : ℕ → TypeRef → Kind → Effect
field_effect op owner kind =
    if op == 178 then stack_effect [] (Always kind ∷ [])
    else if op == 179 then stack_effect (need_of kind ∷ []) []
    else if op == 180 then stack_effect (OfEach (owner ∷ []) ∷ []) (Always kind ∷ [])
    else stack_effect (need_of kind ∷ OfEach (owner ∷ []) ∷ []) []

abbrev pub searched_class : ℕ → Option Method → List TypeRef
searched_class current None = []
searched_class current (Some method) = if is_taken_as_resolved current method then [] else OfClass current ∷ []

-- an invokespecial that searches from the direct superclass needs a receiver of the current class too (4.10.1.9)
abbrev pub special_types : Program → ℕ → MemberRef → List TypeRef
special_types program current ref =
    searched_class current (option_and_then (λ m. method_at program m) (resolve_method program (receiver_class ref.owner) ref.name ref.desc))

-- the receiver below the arguments; invokestatic (184) has none, invokespecial is 183
abbrev pub receiver_needs : Program → ℕ → ℕ → MemberRef → List Need
receiver_needs program op current ref =
    if op == 184 then []
    else if op == 183 then OfEach (ref.owner ∷ special_types program current ref) ∷ []
    else OfEach (ref.owner ∷ []) ∷ []

-- the last argument is on the top
abbrev pub argument_needs : Program → List FieldDesc → List Need
argument_needs program params = reverse (map (λ desc. need_of (kind_of_type program desc)) params)

abbrev pub result_origins : Program → Option FieldDesc → List Origin
result_origins program None = []
result_origins program (Some desc) = Always (kind_of_type program desc) ∷ []

-- invokevirtual, invokespecial, invokestatic, invokeinterface (182 to 185), by the descriptor
abbrev pub call_effect : Program → ℕ → ℕ → MemberRef → Option MethodDesc → Effect
call_effect program op current ref None = wrong_effect
call_effect program op current ref (Some desc) =
    stack_effect (argument_needs program desc.params ++ receiver_needs program op current ref) (result_origins program desc.result)

abbrev pub field_by : Program → ℕ → TypeRef → Option FieldDesc → Effect
field_by program op owner None = wrong_effect
field_by program op owner (Some desc) = field_effect op owner (kind_of_type program desc)

abbrev pub member_effect : Program → ℕ → ℕ → MemberRef → Effect
member_effect program current op ref =
    if within 178 181 op then field_by program op ref.owner (field_desc_in ref.desc)
    else if within 182 185 op then call_effect program op current ref (method_desc_in ref.desc)
    else wrong_effect

abbrev pub named_effect : Program → ℕ → ℕ → Option Operand → Effect
named_effect program current op (Some (OfType type)) = type_effect program op type
named_effect program current op (Some (Member ref)) = member_effect program current op ref
named_effect program current op _ = wrong_effect

abbrev pub pooled_effect : Program → ℕ → ℕ → Option Operand → Effect
pooled_effect program current op operand =
    if within 18 19 op then constant_of operand else named_effect program current op operand

-- the effect of an instruction of a method
unfoldable pub effect_of : Program → ℕ → Method → Insn → Effect
effect_of program m method (Plain op) = plain_effect (result_kind program method) op
effect_of program m method (Local op k wide) = local_effect op k
effect_of program m method (Iinc k by wide) = steps_int k
effect_of program m method (Push op value) = pushes_int []
effect_of program m method (Pooled op index) = pooled_effect program method.class op (operand_at program m index)
effect_of program m method (Array kind) = makes (AnInt ∷ []) (OfArray (array_of 1 (base_of_kind kind)))
effect_of program m method (Jump op by) = jump_effect op
effect_of program m method (TableSwitch other low high at) = stack_effect (AnInt ∷ []) []
effect_of program m method (LookupSwitch other pairs at) = stack_effect (AnInt ∷ []) []

-- ---- where the code goes on

abbrev pub as_placed : ℕ → Result (Insn × ℕ) InsnFault → Option Placed
as_placed pc (Err fault) = None
as_placed pc (Ok found) = Some (record { pc = pc; insn = found.0; next = found.1 })

-- The instruction at a pc. Code has fewer than 65,536 bytes (4.7.3), so longer code has no instructions.
abbrev pub insn_at : Code → ℕ → Option Placed
insn_at code pc = if nat_lt (length code.bytes) (2 ^ 16) then as_placed pc (decoded code.bytes pc) else None

-- the instruction may go on behind itself: all but goto, goto_w, switches, returns and athrow
abbrev pub falls_through : Insn → Bool
falls_through (Plain op) = not (op == 172 || within 176 177 op || op == 191)
falls_through (Jump op by) = not (op == 167 || op == 200)
falls_through (TableSwitch other low high at) = false
falls_through (LookupSwitch other pairs at) = false
falls_through _ = true

-- the pcs at which the code may go on without an exception, maybe past either end of the code
abbrev pub successors : Code → Placed → List ℤ
successors code placed =
    targets_of code.bytes placed.pc placed.insn ++ (if falls_through placed.insn then pos placed.next ∷ [] else [])

abbrev pub is_inside : Code → ℤ → Bool
is_inside code pc = int_le (pos 0) pc && int_le (pc +ℤ pos 1) (pos (length code.bytes))

-- ---- handlers

-- the row covers the pc
abbrev pub covers : ℕ → Row → Bool
covers pc row = nat_le row.start pc && nat_lt pc row.end

-- the type that a row catches: Throwable where it catches any
abbrev pub caught : Option TypeRef → TypeRef
caught None = throwable
caught (Some type) = type

-- at a handler the stack holds what was caught alone, and the locals are those before the instruction
abbrev pub at_handler : Row → Shape → Shape
at_handler row s = record { locals = s.locals; stack = Ref (caught row.catches) ∷ [] }

-- ---- at the start of a method: its receiver, its parameters, and nothing in the other locals (2.6.1)

abbrev pub receiver_kinds : Method → List Kind
receiver_kinds method = if has_flag static_flag method.flags then [] else Ref (OfClass method.class) ∷ []

abbrev pub param_kinds : Program → Option MethodDesc → List Kind
param_kinds program None = []
param_kinds program (Some desc) = map (kind_of_type program) desc.params

-- what is past the count of locals is in none of them
abbrev pub locals_at_start : Program → Method → ℕ → List Kind
locals_at_start program method count =
    take count (receiver_kinds method ++ param_kinds program (method_desc_in method.desc) ++ replicate count Unset)

abbrev pub shape_at_start : Program → Method → Code → Shape
shape_at_start program method code = record { locals = locals_at_start program method code.max_locals; stack = [] }

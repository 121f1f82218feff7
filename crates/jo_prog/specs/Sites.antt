-- Where objects are made, and calls: one list that the program alone determines (allocation sites; this project's own choice of them).
-- Exceptions are those of the JVM Specification SE 8, 6.5.
use Rattle.std.specs.Prelude.{ℕ, zero, suc, ◌+◌, ◌^◌, Bool, false, ◌||◌, ◌&&◌, ◌==◌, nat_lt, if◌then◌else◌, List, [], ◌∷◌, ◌++◌, length, Option, Some, None, Result, Ok, Err, codes}
use Rattle.std.specs.List.{flat_map, position_from}
use Rattle.jo_insn.specs.Instructions.{decoded}
use Rattle.jo_insn.specs.declared.instructions.Insn.{Insn}
use Rattle.jo_insn.specs.declared.instructions.Insn.TheVariants.{Plain, Local, Iinc, Push, Pooled, Array, Jump, TableSwitch, LookupSwitch}
use Rattle.jo_insn.specs.declared.instructions.InsnFault.{InsnFault}
use Rattle.jo_insn.specs.declared.jumps.Placed.{Placed}
use Rattle.jo_prog.specs.declared.program.Code.{Code}
use Rattle.jo_prog.specs.declared.program.Method.{Method}
use Rattle.jo_prog.specs.declared.sites.Site.{Site}
use Rattle.jo_prog.specs.declared.sites.Site.TheVariants.{Text, Args, Alloc, Call, Raise}
use Rattle.jo_prog.specs.declared.sites.Cause.{Cause}
use Rattle.jo_prog.specs.declared.sites.Cause.TheVariants.{ZeroDivisor, NullBase, FailingCast, WrongElement, NegativeLength, BadIndex, SecondStart, MissingInterface}
use Rattle.jo_prog.specs.Operations.{within}

-- ---- exceptions that the machine raises, by opcode

abbrev pub opcode_of : Insn → ℕ
opcode_of (Plain op) = op
opcode_of (Local op index wide) = op
opcode_of (Iinc index by wide) = 132
opcode_of (Push op value) = op
opcode_of (Pooled op index) = op
opcode_of (Array kind) = 188
opcode_of (Jump op by) = op
opcode_of (TableSwitch other low high at) = 170
opcode_of (LookupSwitch other pairs at) = 171

-- the number of the class whose object is raised, its place among the prelude's names
abbrev pub class_raised : Cause → ℕ
class_raised ZeroDivisor = 8
class_raised NullBase = 9
class_raised FailingCast = 10
class_raised WrongElement = 12
class_raised NegativeLength = 13
class_raised BadIndex = 18
class_raised SecondStart = 19
class_raised MissingInterface = 22

-- and its name
abbrev pub name_raised : Cause → List ℕ
name_raised ZeroDivisor = codes "java/lang/ArithmeticException"
name_raised NullBase = codes "java/lang/NullPointerException"
name_raised FailingCast = codes "java/lang/ClassCastException"
name_raised WrongElement = codes "java/lang/ArrayStoreException"
name_raised NegativeLength = codes "java/lang/NegativeArraySizeException"
name_raised BadIndex = codes "java/lang/ArrayIndexOutOfBoundsException"
name_raised SecondStart = codes "java/lang/IllegalThreadStateException"
name_raised MissingInterface = codes "java/lang/IncompatibleClassChangeError"

-- iaload, aaload to saload, iastore, aastore to sastore
abbrev pub is_array_access : ℕ → Bool
is_array_access op = op == 46 || within 50 53 op || op == 79 || within 83 86 op

-- which opcodes may raise for a cause: idiv and irem; array accesses, getfield, putfield, the calls but invokestatic, arraylength
-- and athrow; checkcast; aastore; newarray and anewarray; array accesses; the calls but invokestatic, which may all call
-- Thread.start; invokeinterface
abbrev pub may_raise : Cause → ℕ → Bool
may_raise ZeroDivisor op = op == 108 || op == 112
may_raise NullBase op = is_array_access op || within 180 183 op || op == 185 || within 190 191 op
may_raise FailingCast op = op == 192
may_raise WrongElement op = op == 83
may_raise NegativeLength op = op == 188 || op == 189
may_raise BadIndex op = is_array_access op
may_raise SecondStart op = op == 182 || op == 183 || op == 185
may_raise MissingInterface op = op == 185

-- in the order of the numbers of their classes
abbrev pub causes : List Cause
causes =
    ZeroDivisor ∷ NullBase ∷ FailingCast ∷ WrongElement ∷ NegativeLength ∷ BadIndex ∷ SecondStart ∷ MissingInterface ∷ []

-- ---- the instructions of some code (4.9.1)

abbrev pub followed : ℕ → Result (Insn × ℕ) InsnFault → (ℕ → List Placed) → List Placed
followed pc (Err fault) more = []
followed pc (Ok found) more = record { pc = pc; insn = found.0; next = found.1 } ∷ more found.1

-- One behind another from a pc on, up to the first place where none stands: the end, in the code of a class file. The first number
-- bounds how many there are.
unfoldable pub insns_from : ℕ → List ℕ → ℕ → List Placed
insns_from zero bytes pc = []
insns_from (suc k) bytes pc = followed pc (decoded bytes pc) (insns_from k bytes)

abbrev pub insns_in : List ℕ → List Placed
insns_in bytes = insns_from (length bytes) bytes 0

-- ---- sites

-- new, newarray and anewarray (187 to 189) allocate; 182 to 185 are the calls
abbrev pub made_at : ℕ → ℕ → ℕ → List Site
made_at method pc op =
    if within 187 189 op then Alloc method pc ∷ []
    else if within 182 185 op then Call method pc ∷ []
    else []

abbrev pub raised_among : ℕ → ℕ → ℕ → List Cause → List Site
raised_among method pc op [] = []
raised_among method pc op (cause ∷ more) =
    if may_raise cause op then Raise method pc (class_raised cause) ∷ raised_among method pc op more
    else raised_among method pc op more

-- the allocation or call before the exceptions, these by class
abbrev pub insn_sites : ℕ → Placed → List Site
insn_sites method placed =
    made_at method placed.pc (opcode_of placed.insn) ++ raised_among method placed.pc (opcode_of placed.insn) causes

abbrev pub sites_among : ℕ → List Placed → List Site
sites_among method insns = flat_map (insn_sites method) insns

-- code has fewer than 65,536 bytes (4.7.3), so longer code has no instructions
abbrev pub sites_of_method : ℕ → Option Code → List Site
sites_of_method method None = []
sites_of_method method (Some code) =
    if nat_lt (length code.bytes) (2 ^ 16) then sites_among method (insns_in code.bytes) else []

-- those of the methods from this number on
abbrev pub sites_behind : ℕ → List Method → List Site
sites_behind number [] = []
sites_behind number (method ∷ methods) = sites_of_method number method.code ++ sites_behind (number + 1) methods

-- all sites: the string constants, the entry's array, then method by method in the order of pcs
unfoldable pub sites_of : List Method → List Site
sites_of methods = Text ∷ Args ∷ sites_behind 0 methods

-- ---- the number of a site

-- the allocation or call at a pc of a method
abbrev pub is_made : ℕ → ℕ → Site → Bool
is_made m place (Alloc method pc) = method == m && pc == place
is_made m place (Call method pc) = method == m && pc == place
is_made m place _ = false

-- the exception of that class there
abbrev pub is_raised : ℕ → ℕ → ℕ → Site → Bool
is_raised m place raised (Raise method pc class) = method == m && pc == place && class == raised
is_raised m place raised _ = false

abbrev pub is_site : ℕ → ℕ → Option ℕ → Site → Bool
is_site m place None site = is_made m place site
is_site m place (Some raised) site = is_raised m place raised site

-- its place in the list
abbrev pub site_of : List Site → ℕ → ℕ → Option ℕ → Option ℕ
site_of sites method pc raised = position_from (is_site method pc raised) 0 sites

-- Instructions with what they name looked up, as the program holds them (this project's own; the machine's are JVM Specification SE 8, 6.5).
use Rattle.std.specs.Prelude.{◌≡◌, ℕ, ℤ, List, [], map, Option, Some, None, slice_index_or}
use Rattle.jo_prog.specs.declared.program.Program.{Program}
use Rattle.jo_prog.specs.Constants.{string_constants, string_address}
use Rattle.machine.specs.Instructions as machine
use Rattle.machine.specs.Instructions.{instruction_at, passes, pushes_null, pushes_int, pushes_text, loads, stores, increments, loads_element, stores_element, shuffles, computes, negates, narrows, tests, compares, compares_references, tests_null, jumps_to, switches, returns_value, returns_nothing, gets_static, puts_static, gets_field, puts_field, creates, creates_array, measures, throws, casts, checks, calls}
use Rattle.jvm_values.specs.declared.resolved.Case.{Case}
use Rattle.jvm_values.specs.declared.resolved.Instruction.{Instruction}
use Rattle.jvm_values.specs.declared.resolved.Instruction.TheVariants.{Passes, PushesNull, PushesInt, PushesText, Loads, Stores, Increments, LoadsElement, StoresElement, Shuffles, Computes, Negates, Narrows, Tests, Compares, ComparesReferences, TestsNull, JumpsTo, Switches, ReturnsValue, ReturnsNothing, GetsStatic, PutsStatic, GetsField, PutsField, Creates, CreatesArray, Measures, Throws, Casts, Checks, Calls}
use Rattle.jvm_values.specs.declared.resolved.Resolved.{Resolved}

abbrev pub case_of : Case → ℤ × ℕ
case_of case = (case.key, case.target)

-- the string constant of which this is the address
abbrev pub text_at : Program → ℕ → List ℕ
text_at program address = slice_index_or (string_constants program) address []

-- the machine's instruction
abbrev pub seen : Program → Instruction → machine.Instruction
seen program Passes = passes
seen program PushesNull = pushes_null
seen program (PushesInt z) = pushes_int z
seen program (PushesText address) = pushes_text (text_at program address)
seen program (Loads k) = loads k
seen program (Stores k) = stores k
seen program (Increments k by) = increments k by
seen program LoadsElement = loads_element
seen program StoresElement = stores_element
seen program (Shuffles op) = shuffles op
seen program (Computes op) = computes op
seen program Negates = negates
seen program (Narrows op) = narrows op
seen program (Tests op target) = tests op target
seen program (Compares op target) = compares op target
seen program (ComparesReferences op target) = compares_references op target
seen program (TestsNull op target) = tests_null op target
seen program (JumpsTo target) = jumps_to target
seen program (Switches cases other) = switches (map case_of cases) other
seen program (ReturnsValue type) = returns_value type
seen program ReturnsNothing = returns_nothing
seen program (GetsStatic f) = gets_static f
seen program (PutsStatic f type) = puts_static f type
seen program (GetsField f) = gets_field f
seen program (PutsField f type) = puts_field f type
seen program (Creates c) = creates c
seen program (CreatesArray type) = creates_array type
seen program Measures = measures
seen program Throws = throws
seen program (Casts type) = casts type
seen program (Checks type) = checks type
seen program (Calls op owner method count) = calls op owner method count

-- an address of a text is that of its object
abbrev pub HasText : Program → Instruction → Type 0
HasText program (PushesText address) = string_address program (text_at program address) ≡ Some address
HasText program _ = Unit {0}

-- the instruction is that of the machine, or there is none
abbrev pub IsSeen : Program → Option machine.Instruction → Option Instruction → Type 0
IsSeen program wanted None = wanted ≡ None
IsSeen program wanted (Some found) = (wanted ≡ Some (seen program found)) × HasText program found

-- the same with the next pc
abbrev pub IsSeenAt : Program → Option (machine.Instruction × ℕ) → Option Resolved → Type 0
IsSeenAt program wanted None = wanted ≡ None
IsSeenAt program wanted (Some found) = (wanted ≡ Some (seen program found.instruction, found.next)) × HasText program found.instruction

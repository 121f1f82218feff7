-- Calls that would find no body, and objects of classes that can have none (JVM Specification SE 8, 5.4.6 and 6.5; that they are refused
-- before a run is this project's own).
use Rattle.std.specs.Prelude.{◌≡◌, ◌⊎◌, ℕ, Bool, true, false, ◌==◌, ◌&&◌, ◌||◌, Option, Some, None}
use Rattle.std.specs.List.{Contains, list_any}
use Rattle.jo_insn.specs.AccessFlags.{has_flag, abstract_flag}
use Rattle.jo_prog.specs.declared.program.Program.{Program}
use Rattle.jo_prog.specs.declared.program.Class.{Class}
use Rattle.jo_prog.specs.declared.program.Method.{Method}
use Rattle.jo_prog.specs.declared.program.TypeRef.{TypeRef}
use Rattle.jo_prog.specs.declared.program.TypeRef.TheVariants.{Class as OfClass, Array as OfArray}
use Rattle.jo_prog.specs.declared.program.Operand.{Operand}
use Rattle.jo_prog.specs.declared.program.Operand.TheVariants.{OfType}
use Rattle.jo_prog.specs.declared.calls.Taken.{Taken}
use Rattle.jo_prog.specs.declared.calls.Taken.TheVariants.{Nothing}
use Rattle.jo_prog.specs.Program.{method_at, class_at}
use Rattle.jo_prog.specs.Hierarchy.{Subtype, select}
use Rattle.jo_prog.specs.Calls.{taken_from, takes}
use Rattle.hierarchy.specs.declared.resolutions.Member.{Member}
use Rattle.hierarchy.specs.declared.resolutions.Member.TheVariants.{Method as OfMethod}
use Rattle.hierarchy.specs.Resolutions.{resolved_at}
use Rattle.program_faults.specs.declared.uses.Use.{Use}
use Rattle.program_faults.specs.SuperFaults.{interface_flag}
use Rattle.program_faults.specs.UsedOperands.{methods_of, uses_of, operand_in}

-- ---- abstract methods of classes that have objects

abbrev pub is_abstract_in : Option Class → Bool
is_abstract_in None = false
is_abstract_in (Some class) = has_flag abstract_flag class.flags || has_flag interface_flag class.flags

-- an abstract class or an interface
abbrev pub is_abstract : Program → ℕ → Bool
is_abstract program c = is_abstract_in (class_at program c)

abbrev pub is_abstract_method_in : Option Method → Bool
is_abstract_method_in None = false
is_abstract_method_in (Some method) = has_flag abstract_flag method.flags

abbrev pub is_abstract_method : Program → ℕ → Bool
is_abstract_method program m = is_abstract_method_in (method_at program m)

-- A class that is neither abstract nor an interface selects no method with code, native or machine body for an abstract method of its
-- own or above it; whether that is static, or the second of its name and descriptor, plays no part.
pub record LacksBody (program : Program) (c : ℕ) : Type 0 where
  pub concrete : is_abstract program c ≡ false
  pub above : ℕ
  pub is_above : Subtype program c above
  pub method : ℕ
  pub of_above : Contains (methods_of program above) method
  pub abstract_one : is_abstract_method program method ≡ true
  pub nothing : taken_from program (select program c method) ≡ Nothing

-- ---- calls and `new`

-- what an invokestatic or invokespecial of a class takes, whatever its receiver, for the member that its operand resolves to
abbrev pub taken_by : Program → ℕ → ℕ → Option Member → Taken
taken_by program op c (Some (OfMethod m)) = takes program op c m c
taken_by program op c _ = Nothing

-- invokespecial and invokestatic
abbrev pub takes_one : ℕ → Bool
takes_one op = op == 183 || op == 184

abbrev pub is_nothing : Taken → Bool
is_nothing Nothing = true
is_nothing _ = false

abbrev pub calls_nothing : Program → ℕ → Use → Bool
calls_nothing program c used = takes_one used.op && is_nothing (taken_by program used.op c (resolved_at program c used.index))

abbrev pub is_abstract_type : Program → TypeRef → Bool
is_abstract_type program (OfClass c) = is_abstract program c
is_abstract_type program (OfArray desc) = false

abbrev pub names_abstract : Program → Option Operand → Bool
names_abstract program (Some (OfType type)) = is_abstract_type program type
names_abstract program _ = false

-- new (187) of an abstract class or an interface
abbrev pub makes_abstract : Program → ℕ → Use → Bool
makes_abstract program c used = used.op == 187 && names_abstract program (operand_in program c used.index)

abbrev pub is_bodiless_use : Program → ℕ → Use → Bool
is_bodiless_use program c used = calls_nothing program c used || makes_abstract program c used

-- some instruction of the class calls a method without a body, or makes an object of a class that can have none
pub record UsesNoBody (program : Program) (c : ℕ) : Type 0 where
  pub used : Use
  pub is_there : Contains (uses_of program c) used
  pub is_bodiless : is_bodiless_use program c used ≡ true

abbrev pub IsNotImplemented : Program → ℕ → Type 0
IsNotImplemented program c = LacksBody program c ⊎ UsesNoBody program c

-- ---- the same as tests, over the classes above a class in some order

abbrev pub is_unselected : Program → ℕ → ℕ → Bool
is_unselected program c m = is_abstract_method program m && is_nothing (taken_from program (select program c m))

abbrev pub has_unselected : Program → ℕ → ℕ → Bool
has_unselected program c above = list_any (is_unselected program c) (methods_of program above)

abbrev pub uses_no_body : Program → ℕ → Bool
uses_no_body program c = list_any (is_bodiless_use program c) (uses_of program c)

-- Calls that may start a thread, by the class hierarchy alone: no matter which objects there are (JVM Specification SE 8, 5.4.3.3 and 6.5).
use Rattle.std.specs.Prelude.{ℕ, suc, ◌^◌, Bool, true, false, ◌&&◌, ◌||◌, ◌==◌, nat_lt, if◌then◌else◌, List, [], ◌∷◌, length, Option, Some, None, option_map, option_and_then, slice_get, find}
use Rattle.std.specs.List.{list_any}
use Rattle.std.specs.Option.{option_or}
use Rattle.jo_insn.specs.declared.instructions.Insn.{Insn}
use Rattle.jo_insn.specs.declared.instructions.Insn.TheVariants.{Pooled}
use Rattle.jo_insn.specs.declared.jumps.Placed.{Placed}
use Rattle.jo_prog.specs.declared.calls.Taken.{Taken}
use Rattle.jo_prog.specs.declared.calls.Taken.TheVariants.{Start}
use Rattle.jo_prog.specs.declared.program.Program.{Program}
use Rattle.jo_prog.specs.declared.program.Class.{Class}
use Rattle.jo_prog.specs.declared.program.Method.{Method}
use Rattle.jo_prog.specs.declared.program.Code.{Code}
use Rattle.jo_prog.specs.declared.program.MemberRef.{MemberRef}
use Rattle.jo_prog.specs.declared.program.Operand.{Operand}
use Rattle.jo_prog.specs.declared.program.Operand.TheVariants.{Member}
use Rattle.jo_prog.specs.Calls.{receiver_class, takes}
use Rattle.jo_prog.specs.Hierarchy.{is_subtype, resolve_method}
use Rattle.jo_prog.specs.Numbers.{count_from}
use Rattle.jo_prog.specs.Operations.{within}
use Rattle.jo_prog.specs.Program.{class_at}
use Rattle.jo_prog.specs.Sites.{insns_in}

abbrev pub is_start : Taken → Bool
is_start Start = true
is_start _ = false

-- the numbers of the classes
abbrev pub class_numbers : Program → List ℕ
class_numbers program = count_from 0 (length program.classes)

-- for the class k, which is the named one or below it, the call takes Thread.start
abbrev pub starts_for : Program → ℕ → ℕ → ℕ → ℕ → ℕ → Bool
starts_for program op current named m k = is_subtype program k named && is_start (takes program op current m k)

-- A call with this opcode in a class, which resolves to the method m of a named class, may take Thread.start: an invokespecial (183) or
-- invokestatic (184) takes the same for each receiver; of the others one may have any class that is the named one or below it.
abbrev pub may_start_by : Program → ℕ → ℕ → ℕ → Option ℕ → Bool
may_start_by program op current named None = false
may_start_by program op current named (Some m) =
    if op == 183 || op == 184 then is_start (takes program op current m named)
    else list_any (starts_for program op current named m) (class_numbers program)

abbrev pub member_may_start : Program → ℕ → ℕ → MemberRef → Bool
member_may_start program op current ref =
    may_start_by program op current (receiver_class ref.owner)
    (resolve_method program (receiver_class ref.owner) ref.name ref.desc)

abbrev pub operand_may_start : Program → ℕ → ℕ → Option Operand → Bool
operand_may_start program op current (Some (Member ref)) = member_may_start program op current ref
operand_may_start program op current _ = false

-- the operand with that index in the pool of a class
abbrev pub operand_of_class : Program → ℕ → ℕ → Option Operand
operand_of_class program c index =
    option_and_then (λ (class : Class). slice_get class.operands index) (class_at program c)

-- The instruction of a method of that class is a call (182 to 185) that may take Thread.start.
abbrev pub may_start : Program → ℕ → Insn → Bool
may_start program current (Pooled op index) =
    within 182 185 op && operand_may_start program op current (operand_of_class program current index)
may_start program current _ = false

abbrev pub may_start_at : Program → ℕ → Placed → Bool
may_start_at program current placed = may_start program current placed.insn

-- the pc of the first such call of some code; code has fewer than 65,536 bytes (4.7.3), so longer code has no instructions
abbrev pub first_start_in : Program → ℕ → Option Code → Option ℕ
first_start_in program current None = None
first_start_in program current (Some code) =
    if nat_lt (length code.bytes) (2 ^ 16)
    then option_map (λ (placed : Placed). placed.pc) (find (may_start_at program current) (insns_in code.bytes)) else None

-- that of the methods, where they have numbers from a first one on, with the number of its method
abbrev pub first_start_from : Program → ℕ → List Method → Option (ℕ × ℕ)
first_start_from program m [] = None
first_start_from program m (method ∷ methods) =
    option_or (option_map (λ pc. (m, pc)) (first_start_in program method.class method.code))
    (first_start_from program (suc m) methods)

-- the first call of a program that may start a thread, by its method and pc; whether the program ever comes there plays no part
abbrev pub first_start : Program → Option (ℕ × ℕ)
first_start program = first_start_from program 0 program.methods

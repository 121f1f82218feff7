-- The instructions of some code, one behind another (JVM Specification SE 8, 4.9.1).
use Rattle.std.specs.Prelude.{◌≡◌, ℕ, zero, suc, ◌^◌, ◌<◌, List, [], ◌∷◌, length, Option, Some, None, Result, Ok, Err}
use Rattle.std.specs.List.{AllByRecursion}
use Rattle.jo_insn.specs.declared.instructions.Insn.{Insn}
use Rattle.jo_insn.specs.declared.instructions.InsnFault.{InsnFault}
use Rattle.jo_insn.specs.Instructions.{decoded}
use Rattle.class_pool.specs.declared.classes.ClassFile.{ClassFile}
use Rattle.class_pool.specs.declared.classes.MethodInfo.{MethodInfo}
use Rattle.class_pool.specs.declared.classes.CodeInfo.{CodeInfo}
use Rattle.jo_insn.specs.declared.jumps.Placed.{Placed}

-- The instructions from a pc on, up to the first place where none stands: the end, in the code of a class file. The first
-- number bounds how many there are.
unfoldable pub insns_from : ℕ → List ℕ → ℕ → List Placed
insns_from zero code pc = []
insns_from (suc k) code pc = followed pc (decoded code pc) (λ next. insns_from k code next)
  where
    followed : ℕ → Result (Insn × ℕ) InsnFault → (ℕ → List Placed) → List Placed
    followed pc (Err fault) more = []
    followed pc (Ok found) more = record { pc = pc; insn = found.0; next = found.1 } ∷ more found.1

abbrev pub insns_of : List ℕ → List Placed
insns_of code = insns_from (length code) code 0

-- ---- the size of code

abbrev pub IsShortCode : Option CodeInfo → Type 0
IsShortCode None = Unit {0}
IsShortCode (Some code) = length code.bytes < 2 ^ 16

-- each method's code has at most 65,535 bytes, as 4.7.3 asks
abbrev pub HasShortCodes : ClassFile → Type 0
HasShortCodes class = AllByRecursion (λ (method : MethodInfo). IsShortCode method.code) class.methods

-- ---- whether all of the code is listed

-- each instruction starts where the one before it ends, the first at this pc, and the last ends where the code does
abbrev pub Cover : ℕ → ℕ → List Placed → Type 0
Cover pc size [] = pc ≡ size
Cover pc size (placed ∷ more) = (placed.pc ≡ pc) × Cover placed.next size more

-- there is some code, and its instructions are all that it is
abbrev pub IsListedWhole : Option CodeInfo → Type 0
IsListedWhole None = Unit {0}
IsListedWhole (Some code) = (0 < length code.bytes) × Cover 0 (length code.bytes) (insns_of code.bytes)

-- How a fault is told, and which methods are of the files, for tests.
use Rattle.std.specs.Prelude.{◌<◌, ℕ, Bool, false, List, length, Option, Some, None, codes}
use Rattle.jo_prog.specs.declared.program.Program.{Program}
use Rattle.jo_prog.specs.declared.program.Method.{Method}
use Rattle.jo_prog.specs.declared.typed.TypeCode.{TypeCode}
use Rattle.jo_prog.specs.declared.typed.TypeCode.TheVariants.{Underflow, Overflow, HeightDiffers, WrongKind, FallsOff, LocalRange, Memory}
use Rattle.jo_prog.specs.FileClasses.{is_of_files}
use Rattle.jo_prog.specs.TypingPaths.{IsTypedMethod}

abbrev pub word_of : TypeCode → List ℕ
word_of Underflow = codes "Y1"
word_of Overflow = codes "Y2"
word_of HeightDiffers = codes "Y3"
word_of WrongKind = codes "Y4"
word_of FallsOff = codes "Y5"
word_of LocalRange = codes "Y6"
word_of Memory = codes "memory"

-- the method is there and stands in a class of the files
abbrev pub is_of_a_file : Program → Option Method → Bool
is_of_a_file program None = false
is_of_a_file program (Some method) = is_of_files program method

-- no typing path of a method meets a fault
abbrev pub AreTyped : Program → Type 0
AreTyped program = (m : ℕ) → m < length program.methods → IsTypedMethod program m

-- A method with its code, as the code has it.
use Rattle.std.specs.Prelude.{◌≡◌, Some}
use Rattle.jo_prog.specs.declared.program.Program.{Program}
use Rattle.jo_prog.specs.Program.{method_at}
use Rattle.jo_prog.specs.TypingPaths.{Typable}
use Rattle.typing_heights.specs.declared.subjects.Subject.{Subject}

abbrev pub program_of : Subject → Program
program_of s = s.program.now

abbrev pub typable_of : Subject → Typable
typable_of s = record { number = s.number; method = s.method.now; code = s.code.now }

-- the program has the method under its number, and this is its code
pub record IsSubject (s : Subject) : Type 0 where
  pub found : method_at (program_of s) s.number ≡ Some s.method.now
  pub has_code : s.method.now.code ≡ Some s.code.now

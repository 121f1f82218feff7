-- The lines of a text with their numbers, counted from 1.
use Rattle.std.specs.Prelude.{ℕ, ◌+◌, List, [], ◌∷◌, Option, Some, None}
use Rattle.asm_text.specs.declared.statements.Statement.{Statement}
use Rattle.asm_text.specs.declared.texts.NumberedLine.{NumberedLine}
use Rattle.asm_text.specs.Statements.{statement_of}

abbrev pub numbered_as : ℕ → Option (Option Statement) → List NumberedLine → List NumberedLine
numbered_as n None more = record { number = n; said = None } ∷ more
numbered_as n (Some None) more = more
numbered_as n (Some (Some statement)) more = record { number = n; said = Some statement } ∷ more

-- the lines that say something or are outside the grammar, where the first of these has this number
abbrev pub numbered : ℕ → List (List ℕ) → List NumberedLine
numbered n [] = []
numbered n (line ∷ more) = numbered_as n (statement_of line) (numbered (n + 1) more)

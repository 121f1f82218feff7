-- Runs over files in memory, and what is kept of them (this project's own).
use Rattle.std.specs.Prelude.{ℕ, List, [], ◌∷◌, ◌++◌, Option, Some, None, codes}
use Rattle.std.specs.Fmt.{decimal}

-- the number that is to fail, if there is one
abbrev pub listed : Option ℕ → List ℕ
listed None = []
listed (Some number) = number ∷ []

-- the code of a status and the notes, with a space between
abbrev pub line_of : ℕ → List ℕ → List ℕ
line_of code notes = (decimal code ++ 32 ∷ []) ++ notes

-- a policy, a class list and a class file, each under one letter
abbrev pub three_files : List ℕ → List ℕ → List ℕ → List (List ℕ × List ℕ)
three_files policy list class = (codes "p", policy) ∷ (codes "l", list) ∷ (codes "c", class) ∷ []

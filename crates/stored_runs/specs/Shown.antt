-- What a run is told as (this project's own).
use Rattle.std.specs.Prelude.{ℕ, ◌+◌, ◌/◌, ◌%◌, nat_lt, if◌then◌else◌, List, [], ◌∷◌, ◌++◌, flat_map, codes}
use Rattle.std.specs.Fmt.{decimal}

-- a digit to the base sixteen, with small letters
abbrev pub digit : ℕ → ℕ
digit n = if nat_lt n 10 then 48 + n else 87 + n

abbrev pub two_digits : ℕ → List ℕ
two_digits byte = digit (byte / 16) ∷ digit (byte % 16) ∷ []

-- bytes on a line, two digits each
abbrev pub digits_line : List ℕ → List ℕ
digits_line bytes = flat_map two_digits bytes ++ 10 ∷ []

-- a line of words, what was put as it is shown, the notes, and the code of the status
abbrev pub told_as : List ℕ → List ℕ → List ℕ → ℕ → List ℕ
told_as line shown notes code =
    (((codes "$ joana " ++ (line ++ 10 ∷ [])) ++ shown) ++ notes) ++ (codes "status " ++ (decimal code ++ 10 ∷ []))

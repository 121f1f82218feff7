-- The lines of a text (this project's own).
use Rattle.std.specs.Prelude.{◌≡◌, ℕ, ◌-◌, ◌^◌, min, ◌==◌, not, List, length, filter}
use Rattle.std.specs.Str.{IsUtf8}
use Rattle.std.specs.Str.Lines.{lines}
use Rattle.jo_text.specs.declared.lines.ListFault.{ListFault}
use Rattle.jo_text.specs.declared.lines.ListFault.TheVariants.{NotUtf8, Memory}
use Rattle.jo_text.specs.Texts.{StopsAt}

-- A line ends with LF, a CR before it is dropped, the last one may lack the LF, and empty lines are skipped.
abbrev pub lines_of : List ℕ → List (List ℕ)
lines_of text = filter (λ line. not (length line == 0)) (lines text)

-- What a fault says of the text. A place past the last number of 32 bits stands as that number.
abbrev pub IsStop : List ℕ → ListFault → Type 0
IsStop text (NotUtf8 place) = (at : ℕ) × StopsAt IsUtf8 text at × (place ≡ min at (2 ^ 32 - 1))
IsStop text Memory = Unit {0}

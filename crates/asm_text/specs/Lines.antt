-- The lines of an assembly text, and the items of a line (this project's own).
use Rattle.std.specs.Prelude.{ℕ, ◌-◌, Bool, true, false, ◌&&◌, not, ◌==◌, if◌then◌else◌, List, [], ◌∷◌, length, filter, slice_index}

-- a byte in front of the first of these texts
abbrev pub onto : ℕ → List (List ℕ) → List (List ℕ)
onto b [] = (b ∷ []) ∷ []
onto b (text ∷ more) = (b ∷ text) ∷ more

-- A line ends with LF, which the last one may lack.
unfoldable pub lines_of : List ℕ → List (List ℕ)
lines_of [] = []
lines_of (b ∷ bs) = if b == 10 then [] ∷ lines_of bs else onto b (lines_of bs)

-- a space parts items, but for one between double quotes
abbrev pub is_parting : Bool → ℕ → Bool
is_parting quoted b = b == 32 && not quoted

-- whether what follows a byte stands between double quotes
abbrev pub quoted_behind : Bool → ℕ → Bool
quoted_behind quoted b = if b == 34 then not quoted else quoted

-- what stands before, between and behind the spaces that part items; the test says whether the text begins between quotes
unfoldable pub pieces : Bool → List ℕ → List (List ℕ)
pieces quoted [] = []
pieces quoted (b ∷ bs) = if is_parting quoted b then [] ∷ pieces false bs else onto b (pieces (quoted_behind quoted b) bs)

abbrev pub is_some_text : List ℕ → Bool
is_some_text [] = false
is_some_text (b ∷ bs) = true

-- the items: each number of spaces parts them, and none is empty
unfoldable pub items_of : List ℕ → List (List ℕ)
items_of line = filter is_some_text (pieces false line)

abbrev pub ends_in_space : List ℕ → Bool
ends_in_space line = slice_index line (length line - 1) == 32

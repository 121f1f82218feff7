-- Heights that are given to pcs, and the pcs that had none before (this project's own).
use Rattle.std.specs.Prelude.{ℕ, suc, Bool, true, false, if◌then◌else◌, List, [], ◌∷◌, ◌++◌, Option, Some, None, slice_get, slice_set}
use Rattle.jo_prog.specs.declared.program.Row.{Row}
use Rattle.jo_prog.specs.InsnTyping.{covers}

pub record Marks : Type 0 where
  pub heights : List (Option ℕ)
  pub found : List ℕ

abbrev pub holds_none : Option (Option ℕ) → Bool
holds_none (Some None) = true
holds_none (Some (Some height)) = false
holds_none None = false

-- a pc of the table that has no height
abbrev pub is_unknown : List (Option ℕ) → ℕ → Bool
is_unknown heights pc = holds_none (slice_get heights pc)

-- a pc keeps the height that it has
abbrev pub marked : ℕ → ℕ → Marks → Marks
marked to height m =
    if is_unknown m.heights to
    then record { heights = slice_set m.heights to (Some height); found = m.found ++ to ∷ [] }
    else m

abbrev pub all_marked : ℕ → List ℕ → Marks → Marks
all_marked height [] m = m
all_marked height (to ∷ more) m = all_marked height more (marked to height m)

-- the handlers of the rows over a pc
abbrev pub handler_marked : ℕ → Row → Marks → Marks
handler_marked pc row m = if covers pc row then marked row.handler 1 m else m

abbrev pub handlers_marked : ℕ → List Row → Marks → Marks
handlers_marked pc [] m = m
handlers_marked pc (row ∷ rows) m = handlers_marked pc rows (handler_marked pc row m)

-- how many pcs have no height
abbrev pub unknown : List (Option ℕ) → ℕ
unknown [] = 0
unknown (None ∷ heights) = suc (unknown heights)
unknown (Some height ∷ heights) = unknown heights

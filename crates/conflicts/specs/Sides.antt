-- Nodes of a set on a side of a fork (this project's own).
use Rattle.std.specs.Prelude.{◌≡◌, ℕ, Bool, true, List, Option, Some, None}
use Rattle.jo_ids.specs.Rows.{has_number}
use Rattle.thread_regions.specs.declared.tables.ForkRegions.{ForkRegions}
use Rattle.conflicts.specs.declared.sides.Side.{Side}
use Rattle.conflicts.specs.declared.sides.Side.TheVariants.{Child, After}

abbrev pub side_of : ForkRegions → Side → List Bool
side_of r Child = r.child
side_of r After = r.after

-- a node of both sets, or there is none
abbrev pub IsSeenOn : List Bool → List Bool → Option ℕ → Type 0
IsSeenOn side set None = (n : ℕ) → has_number set n ≡ true → has_number side n ≡ true → ⊥
IsSeenOn side set (Some n) = (has_number set n ≡ true) × (has_number side n ≡ true)

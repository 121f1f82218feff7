use Rattle.std.proofs.Common.{◌≡◌, ℕ, ◌<◌, true}
use Rattle.jo_ids.specs.Rows.{has_number}
use Rattle.conflicts.specs.Sides.{side_of}
use Rattle.conflicts.proofs.sides.first_seen.Given as goal

abbrev pub invariant-loop-n : goal.invariant-loop-n
invariant-loop-n l = (k : ℕ) → k < l.n → has_number l.set k ≡ true → has_number (side_of l.regions l.side) k ≡ true → ⊥

-- A count that rose, with calls before and after.
use Rattle.std.proofs.Common.{ℕ, ◌≤◌, arith}
use Rattle.jo_io.specs.Counts.{Rose}

-- a count that rose from a later value rose from an earlier one
pub Rose-from_earlier : (first old new : ℕ) → first ≤ old → Rose old new → Rose first new
Rose-from_earlier first old new earlier rose = grind arith

-- and it rose to each value that follows
pub Rose-to_later : (old new last : ℕ) → Rose old new → new ≤ last → Rose old last
Rose-to_later old new last rose later = grind arith

use Rattle.std.proofs.Common.{◌≡◌, length}
use Rattle.conflicts.proofs.tests.row.Given as goal

abbrev pub invariant-loop-number : goal.invariant-loop-number
invariant-loop-number l = length l.row ≡ l.len

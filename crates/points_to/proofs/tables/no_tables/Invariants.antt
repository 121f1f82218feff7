use Rattle.std.proofs.Common.{◌≡◌, replicate, None}
use Rattle.points_to.proofs.tables.no_tables.Given as goal

abbrev pub invariant-loop : goal.invariant-loop
invariant-loop l = l.tables.items ≡ replicate l.counter None

use Rattle.std.proofs.Common.{◌≡◌, ◌-◌, None}
use Rattle.class_pool.specs.Pool.{read_entries}
use Rattle.class_pool.proofs.Many.{with_front}
use Rattle.class_pool.proofs.reader.entries.Given as goal

abbrev pub invariant-loop : goal.invariant-loop
invariant-loop l = with_front l.entries (read_entries l.size l.owed (l.count - l.counter) l.rest) ≡ read_entries l.size None l.count l.fn.rest

use Rattle.std.proofs.Common.{◌≡◌, ◌-◌}
use Rattle.class_pool.specs.Items.{many}
use Rattle.class_pool.specs.ClassOrder.{read_field}
use Rattle.class_pool.proofs.Many.{with_front}
use Rattle.class_read.proofs.fields.fields.Given as goal

abbrev pub invariant-loop : goal.invariant-loop
invariant-loop l = with_front l.fields (many (read_field l.size l.pool) (l.count - l.counter) l.rest) ≡ many (read_field l.size l.pool) l.count l.fn.rest

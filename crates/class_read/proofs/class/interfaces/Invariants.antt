use Rattle.std.proofs.Common.{◌≡◌, ◌-◌}
use Rattle.class_pool.specs.Items.{many}
use Rattle.class_pool.specs.ClassOrder.{class_index}
use Rattle.class_pool.proofs.Many.{with_front}
use Rattle.class_read.proofs.class.interfaces.Given as goal

abbrev pub invariant-loop : goal.invariant-loop
invariant-loop l = with_front l.interfaces (many (class_index l.size l.pool) (l.count - l.counter) l.rest) ≡ many (class_index l.size l.pool) l.count l.fn.rest

use Rattle.std.proofs.Common.{◌≡◌, ◌-◌}
use Rattle.class_pool.specs.Items.{many}
use Rattle.class_pool.specs.ClassOrder.{read_method}
use Rattle.class_pool.proofs.Many.{with_front}
use Rattle.class_read.proofs.methods.methods.Given as goal

abbrev pub invariant-loop : goal.invariant-loop
invariant-loop l = with_front l.methods (many (read_method l.size l.pool) (l.count - l.counter) l.rest) ≡ many (read_method l.size l.pool) l.count l.fn.rest

use Rattle.std.proofs.Common.{◌≡◌, ◌-◌}
use Rattle.class_pool.specs.ClassOrder.{method_attributes}
use Rattle.class_pool.proofs.Many.{with_front}
use Rattle.class_read.proofs.methods.method_attributes.Given as goal

abbrev pub invariant-loop : goal.invariant-loop
invariant-loop l = with_front l.codes.items (method_attributes l.size l.pool (l.count - l.counter) l.rest) ≡ method_attributes l.size l.pool l.count l.fn.rest

use Rattle.std.proofs.Common.{◌≡◌, ◌-◌, None}
use Rattle.class_pool.specs.ClassOrder.{field_attributes}
use Rattle.class_read.proofs.fields.field_attributes.Given as goal

abbrev pub invariant-loop : goal.invariant-loop
invariant-loop l = field_attributes l.size l.pool l.head (l.count - l.counter) l.known l.rest ≡ field_attributes l.size l.pool l.head l.count None l.fn.rest

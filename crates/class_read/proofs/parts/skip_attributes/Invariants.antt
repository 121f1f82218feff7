use Rattle.std.proofs.Common.{◌≡◌, ◌-◌}
use Rattle.class_pool.specs.Items.{many}
use Rattle.class_pool.specs.ClassOrder.{skip_attribute, skip_attributes}
use Rattle.class_read.proofs.Skipping.{behind_of}
use Rattle.class_read.proofs.parts.skip_attributes.Given as goal

abbrev pub invariant-loop : goal.invariant-loop
invariant-loop l = behind_of (many (skip_attribute l.size l.pool) (l.count - l.counter) l.behind) ≡ skip_attributes l.size l.pool l.fn.rest

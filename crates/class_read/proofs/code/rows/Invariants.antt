use Rattle.std.proofs.Common.{◌≡◌, ◌+◌, ◌-◌, ◌*◌, length}
use Rattle.class_pool.specs.Items.{many}
use Rattle.class_pool.specs.ClassOrder.{read_row}
use Rattle.class_pool.proofs.Many.{with_front}
use Rattle.class_read.proofs.code.rows.Given as goal

abbrev pub invariant-loop : goal.invariant-loop
invariant-loop l = record {
  so_far : with_front l.rows (many (read_row l.size) (l.count - l.counter) l.rest) ≡ many (read_row l.size) l.count l.fn.rest;
  counted : length l.rows ≡ l.counter;
  eights : 8 * length l.rows + length l.rest ≡ length l.fn.rest;
}

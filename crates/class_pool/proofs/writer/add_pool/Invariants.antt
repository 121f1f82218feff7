use Rattle.std.proofs.Common.{◌≡◌, ◌++◌, drop}
use Rattle.std.specs.List.{AllByRecursion, flat_map}
use Rattle.std.specs.Io.{StartsWith}
use Rattle.class_pool.specs.Writing.{spelled_entry, spelled_pool, FitsEntry}
use Rattle.class_pool.proofs.writer.add_pool.Given as goal

abbrev pub invariant-loop-entry : goal.invariant-loop-entry
invariant-loop-entry l = record {
  so_far : l.bytes.items ++ flat_map spelled_entry (drop l.entry-index l.pool) ≡ l.fn.bytes.items ++ spelled_pool l.pool;
  front : StartsWith l.bytes.items l.fn.bytes.items;
  fits : AllByRecursion FitsEntry (drop l.entry-index l.pool);
}

use Rattle.std.proofs.Common.{◌≡◌, ◌++◌, drop}
use Rattle.std.specs.List.{flat_map}
use Rattle.class_write.specs.Spelling.{spelled_row, counted}
use Rattle.class_write.proofs.members.add_rows.Given as goal

abbrev pub invariant-loop-row : goal.invariant-loop-row
invariant-loop-row l = record {
  so_far : l.out.items ++ flat_map spelled_row (drop l.row-index l.rows) ≡ l.fn.out.items ++ counted spelled_row l.rows;
}

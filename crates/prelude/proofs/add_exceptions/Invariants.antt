use Rattle.std.proofs.Common.{◌≡◌, ◌+◌, ◌++◌, drop, length}
use Rattle.std.specs.List.{flat_map}
use Rattle.prelude.specs.Texts.{exception_text}
use Rattle.prelude.specs.Classes.{class_of_text}
use Rattle.prelude.proofs.add_exceptions.Given as goal

-- the classes of the rows that are left are still to come
abbrev pub invariant-loop-row : goal.invariant-loop-row
invariant-loop-row l = record {
  added :
      l.classes ++ flat_map (λ row. class_of_text (exception_text (row.0.now, row.1.now))) (drop l.row-index l.rows)
      ≡ l.fn.classes ++ flat_map (λ row. class_of_text (exception_text (row.0.now, row.1.now))) l.rows;
  count : length l.classes ≡ length l.fn.classes + l.row-index;
}

use Rattle.std.proofs.Common.{◌≡◌, drop}
use Rattle.std.specs.List.{flat_map}
use Rattle.jo_insn.specs.Marks.{marked}
use Rattle.class_dis.specs.Labels.{bounds_of}
use Rattle.class_dis.proofs.labels.mark_rows.Given as goal

abbrev pub invariant-loop-row : goal.invariant-loop-row
invariant-loop-row l = marked l.marks (flat_map bounds_of (drop l.row-index l.rows)) ≡ marked l.fn.marks (flat_map bounds_of l.rows)

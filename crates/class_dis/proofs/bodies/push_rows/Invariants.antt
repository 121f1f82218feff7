use Rattle.std.proofs.Common.{◌≡◌, ◌++◌, drop}
use Rattle.std.specs.List.{flat_map}
use Rattle.class_dis.specs.Listing.{catch_line}
use Rattle.class_dis.proofs.bodies.push_rows.Given as goal

abbrev pub invariant-loop-row : goal.invariant-loop-row
invariant-loop-row l = l.out.items ++ flat_map (catch_line l.pool) (drop l.row-index l.rows) ≡ l.fn.out.items ++ flat_map (catch_line l.pool) l.rows

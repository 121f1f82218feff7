use Rattle.std.proofs.Common.{◌≡◌, ◌++◌, drop}
use Rattle.std.specs.List.{flat_map}
use Rattle.class_dis.specs.Listing.{field_line}
use Rattle.class_dis.proofs.classes.push_fields.Given as goal

abbrev pub invariant-loop-field : goal.invariant-loop-field
invariant-loop-field l = l.out.items ++ flat_map (field_line l.pool) (drop l.field-index l.fields) ≡ l.fn.out.items ++ flat_map (field_line l.pool) l.fields

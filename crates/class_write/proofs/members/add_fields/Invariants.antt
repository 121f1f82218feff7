use Rattle.std.proofs.Common.{◌≡◌, ◌++◌, drop}
use Rattle.std.specs.List.{flat_map}
use Rattle.class_write.specs.Named.{field_named}
use Rattle.class_write.proofs.members.add_fields.Given as goal

abbrev pub invariant-loop-field : goal.invariant-loop-field
invariant-loop-field l = record {
  so_far : l.out.items ++ flat_map (field_named l.names) (drop l.field-index l.fields) ≡ l.fn.out.items ++ flat_map (field_named l.names) l.fields;
}

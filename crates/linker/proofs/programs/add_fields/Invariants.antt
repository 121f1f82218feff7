use Rattle.std.proofs.Common.{◌≡◌, ◌++◌, map, take}
use Rattle.linker.specs.Linking.{field_of}
use Rattle.linker.proofs.programs.add_fields.Given as goal

abbrev pub invariant-loop-field : goal.invariant-loop-field
invariant-loop-field l = l.fields ≡ l.initial.fields ++ map (field_of l.class l.file.pool) (take l.field-index l.file.fields)

use Rattle.std.proofs.Common.{◌≡◌, ◌++◌, map, drop}
use Rattle.jo_prog.specs.Constants.{first_value}
use Rattle.jvm_values.specs.Values.{value_of}
use Rattle.jvm_step.proofs.starts.first_statics.Given as goal

abbrev pub invariant-loop-field : goal.invariant-loop-field
invariant-loop-field l = map value_of l.statics.items ++ map (first_value l.program) (drop l.field-index l.field-items) ≡ map (first_value l.program) l.field-items

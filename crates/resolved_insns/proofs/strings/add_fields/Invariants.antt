use Rattle.std.proofs.Common.{◌≡◌, ◌++◌, drop}
use Rattle.std.specs.List.{flat_map}
use Rattle.jo_prog.specs.declared.program.Field.{Field}
use Rattle.jo_prog.specs.Constants.{constant_text}
use Rattle.resolved_insns.specs.Strings.{lent}
use Rattle.resolved_insns.proofs.strings.add_fields.Given as goal

abbrev pub invariant-loop-field : goal.invariant-loop-field
invariant-loop-field l = lent l.texts.items ++ flat_map (λ (field : Field). constant_text field.constant) (drop l.field-index l.fields) ≡ lent l.initial.texts.items ++ flat_map (λ (field : Field). constant_text field.constant) l.fields

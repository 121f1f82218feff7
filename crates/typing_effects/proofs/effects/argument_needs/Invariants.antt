use Rattle.std.proofs.Common.{◌≡◌, map, take}
use Rattle.jo_text.specs.declared.descriptors.FieldDesc.{FieldDesc}
use Rattle.jo_prog.specs.Shapes.{kind_of_type, need_of}
use Rattle.typing_effects.specs.Effects.{need_in}
use Rattle.typing_effects.proofs.effects.argument_needs.Given as goal

abbrev pub invariant-loop-desc : goal.invariant-loop-desc
invariant-loop-desc l = map need_in l.needs.items ≡ map (λ (desc : FieldDesc). need_of (kind_of_type l.program desc)) (take l.desc-index l.params)

use Rattle.std.proofs.Common.{rules, ◌≡◌, ◌∙◌, ap, map, List}
use Rattle.std.specs.Prelude.{reverse}
use Rattle.std.proofs.lemmas.List.{take_all}
use Rattle.jo_text.specs.declared.descriptors.FieldDesc.{FieldDesc}
use Rattle.jo_prog.specs.Shapes.{Need, kind_of_type, need_of}
use Rattle.typing_effects.specs.Effects.{need_in}
use Rattle.typing_effects.proofs.EffectLemmas.{map_reverse}
use Rattle.typing_effects.proofs.effects.argument_needs.Goals as goal

pub returns : goal.returns
returns c =
    let f = λ (desc : FieldDesc). need_of (kind_of_type c.args.program.now desc) in
    let turned : c.reverse.new.self.items ≡ reverse c.loop-desc.needs.items = search rules in
    ap (λ l. map need_in l) turned
    ∙ map_reverse need_in c.loop-desc.needs.items
    ∙ ap (λ (l : List Need). reverse l) (c.loop-desc.invariant ∙ ap (λ (l : List FieldDesc). map f l) (take_all c.loop-desc.desc-index c.args.params.now c.loop-desc-test.false))

use Rattle.std.proofs.Common.{ℕ, List, subst, ap, ◌∙◌}
use Rattle.jo_prog.specs.Typing.{Kind}
use Rattle.jo_prog.specs.InsnTyping.{field_effect}
use Rattle.jo_text.specs.Descriptors.{SpellsField, IsFieldDesc}
use Rattle.typing_heights.proofs.DescriptorReads.{field_whole, field_isnt}
use Rattle.typing_effects.proofs.effects.field_by.Goals as goal

pub returns-in_ok-effect-in-Ok : goal.returns-in_ok-effect-in-Ok
returns-in_ok-effect-in-Ok c =
    let spells = subst (λ (b : List ℕ). SpellsField c.in-Ok.desc b) c.as_slice.ensures c.in-Ok.ensures.desc in
    rw (field_whole c.in-Ok.desc c.args.member.now.desc spells) (c.in_ok-effect-in-Ok.ensures ∙ ap (λ (k : Kind). field_effect c.args.op c.args.member.now.owner k) c.in_ok-kind-in-Ok.ensures)

pub returns-in-Err-Bad : goal.returns-in-Err-Bad
returns-in-Err-Bad c =
    let never = subst (λ (b : List ℕ). IsFieldDesc b → ⊥) c.as_slice.ensures (c.in-Err-Bad.ensures.bad c.in-Err-Bad.field-0-is) in
    rw (field_isnt c.args.member.now.desc never) c.wrong.ensures

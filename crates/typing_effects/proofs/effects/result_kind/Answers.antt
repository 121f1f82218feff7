use Rattle.std.proofs.Common.{ℕ, List, refl, subst}
use Rattle.jo_text.specs.Descriptors.{SpellsMethod, IsMethodDesc}
use Rattle.typing_heights.proofs.DescriptorReads.{method_is, method_isnt}
use Rattle.typing_effects.proofs.effects.result_kind.Goals as goal

pub returns-in_ok-kind-in-Ok : goal.returns-in_ok-kind-in-Ok
returns-in_ok-kind-in-Ok c =
    let spells = subst (λ (b : List ℕ). SpellsMethod c.in-Ok.desc b) c.as_slice.ensures c.in-Ok.ensures.desc in
    rw (method_is c.in-Ok.desc c.args.method.now.desc spells) c.in_ok-kind-in-Ok.ensures

pub returns-in-Err-Bad : goal.returns-in-Err-Bad
returns-in-Err-Bad c =
    let never = subst (λ (b : List ℕ). IsMethodDesc b → ⊥) c.as_slice.ensures (c.in-Err-Bad.ensures.bad c.in-Err-Bad.field-0-is) in
    rw (method_isnt c.args.method.now.desc never) refl

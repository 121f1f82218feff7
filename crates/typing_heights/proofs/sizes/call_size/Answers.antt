use Rattle.std.proofs.Common.{ℕ, List, subst}
use Rattle.jo_text.specs.Descriptors.{SpellsMethod, IsMethodDesc}
use Rattle.typing_heights.proofs.DescriptorReads.{method_is, method_isnt}
use Rattle.typing_heights.proofs.sizes.call_size.Goals as goal

pub returns-in-Ok : goal.returns-in-Ok
returns-in-Ok c = λ program current.
    let spells = subst (λ (b : List ℕ). SpellsMethod c.in-Ok.desc b) c.as_slice.ensures c.in-Ok.ensures.desc in
    rw (method_is c.in-Ok.desc c.args.member.now.desc spells) (c.described_size.ensures program current c.args.member.now)

pub returns-in-Err-Bad : goal.returns-in-Err-Bad
returns-in-Err-Bad c = λ program current.
    let never = subst (λ (b : List ℕ). IsMethodDesc b → ⊥) c.as_slice.ensures (c.in-Err-Bad.ensures.bad c.in-Err-Bad.field-0-is) in
    rw (method_isnt c.args.member.now.desc never) c.of_stack.ensures

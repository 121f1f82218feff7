use Rattle.std.proofs.Common.{rules, ◌≡◌, ◌∙◌, ap, sym}
use Rattle.jo_prog.specs.Typing.{Ref}
use Rattle.jo_prog.specs.Shapes.{passes}
use Rattle.typing_effects.specs.declared.effects.Need.{Need}
use Rattle.typing_effects.specs.declared.effects.Need.TheVariants.{OfType}
use Rattle.typing_effects.specs.Effects.{need_in}
use Rattle.typing_effects.proofs.AskLemmas.{one_passes}
use Rattle.typing_effects.proofs.asks.reference_passes.Goals as goal

pub returns-in-OfType : goal.returns-in-OfType
returns-in-OfType c =
    let is : c.args.need.now ≡ OfType c.in-OfType.needed = search rules in
    c.takes_type.ensures ∙ one_passes c.args.program.now c.args.named.now c.in-OfType.needed ∙ ap (λ (n : Need). passes c.args.program.now (need_in n) (Ref c.args.named.now)) (sym is)

use Rattle.std.proofs.Common.{rules, ◌≡◌, ◌∙◌, ap, sym, Some, option_map}
use Rattle.std.specs.Prelude.{slice_get}
use Rattle.typing_effects.specs.declared.forms.Push.{Push}
use Rattle.typing_effects.specs.declared.forms.Push.TheVariants.{Element}
use Rattle.typing_effects.specs.Forms.{push_in}
use Rattle.jvm_typing.specs.KindPasses.{origin_source}
use Rattle.jvm_typing.specs.Sources.{frame_in}
use Rattle.jvm_typing.proofs.sources.of_push.Goals as goal

pub returns-in-Element : goal.returns-in-Element
returns-in-Element c = λ program.
    let is : c.args.push ≡ Element = search rules in
    ap (λ s. Some s) (c.from_stack.ensures program)
    ∙ ap (λ (p : Push). option_map (origin_source program (frame_in c.args.sizes)) (slice_get (push_in p) 0)) (sym is)

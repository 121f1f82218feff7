use Rattle.std.proofs.Common.{rules, ◌≡◌, ◌∙◌, sym, ap}
use Rattle.jo_prog.specs.Shapes.{OfStack, Reference}
use Rattle.typing_effects.specs.declared.effects.Access.{Access}
use Rattle.typing_effects.specs.declared.effects.Access.TheVariants.{Reference as ReferenceAccess}
use Rattle.typing_effects.specs.Effects.{writes_in}
use Rattle.jvm_typing.specs.KindPasses.{written_source}
use Rattle.jvm_typing.specs.Sources.{frame_in}
use Rattle.jvm_typing.proofs.SourceLemmas.{written_here}
use Rattle.jvm_typing.proofs.sources.of_local.Goals as goal

pub returns-then-from-place-2 : goal.returns-then-from-place-2
returns-then-from-place-2 c = λ program.
    let same : c.in-Reference.k ≡ c.args.place = search rules in
    let is : c.args.writes ≡ ReferenceAccess c.in-Reference.k = search rules in
    c.from_stack.ensures program ∙ sym (written_here program (frame_in c.args.sizes) c.in-Reference.k c.args.place (OfStack 0 Reference) same)
    ∙ ap (λ (w : Access). written_source program (frame_in c.args.sizes) (writes_in w) c.args.place) (sym is)

use Rattle.std.proofs.Common.{rules, ◌≡◌, ℕ, ap, Some, sym, ◌∙◌, option_map}
use Rattle.std.specs.Prelude.{slice_get}
use Rattle.typing_effects.specs.declared.effects.Pushes.{Pushes}
use Rattle.typing_effects.specs.declared.effects.Pushes.TheVariants.{Of, Local, Copies}
use Rattle.typing_effects.specs.Effects.{pushes_in}
use Rattle.typing_effects.specs.Forms.{push_in}
use Rattle.jvm_typing.specs.KindPasses.{origin_source}
use Rattle.jvm_typing.specs.Sources.{frame_in}
use Rattle.jvm_typing.proofs.sources.of_pushed.Goals as goal

pub returns-then-k-eq0 : goal.returns-then-k-eq0
returns-then-k-eq0 c = λ program.
    let zeroth : c.args.k ≡ 0 = search rules in
    let is : c.args.pushes.now ≡ Of c.in-Of.push = search rules in
    c.of_push.ensures program
    ∙ ap (λ (n : ℕ). option_map (origin_source program (frame_in c.args.sizes)) (slice_get (push_in c.in-Of.push) n)) (sym zeroth)
    ∙ ap (λ (p : Pushes). option_map (origin_source program (frame_in c.args.sizes)) (slice_get (pushes_in p) c.args.k)) (sym is)

pub returns-then-k-eq0-3 : goal.returns-then-k-eq0-3
returns-then-k-eq0-3 c = λ program.
    let zeroth : c.args.k ≡ 0 = search rules in
    let is : c.args.pushes.now ≡ Local c.in-Local.local = search rules in
    ap (λ s. Some s) (c.from_local.ensures program)
    ∙ ap (λ (n : ℕ). option_map (origin_source program (frame_in c.args.sizes)) (slice_get (pushes_in (Local c.in-Local.local)) n)) (sym zeroth)
    ∙ ap (λ (p : Pushes). option_map (origin_source program (frame_in c.args.sizes)) (slice_get (pushes_in p) c.args.k)) (sym is)

pub returns-in-Copies : goal.returns-in-Copies
returns-in-Copies c = λ program.
    let is : c.args.pushes.now ≡ Copies c.in-Copies.places = search rules in
    c.of_copy.ensures program
    ∙ ap (λ (p : Pushes). option_map (origin_source program (frame_in c.args.sizes)) (slice_get (pushes_in p) c.args.k)) (sym is)

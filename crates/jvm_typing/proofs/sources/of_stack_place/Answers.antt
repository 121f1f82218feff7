use Rattle.std.proofs.Common.{rules, ◌≡◌, ◌-◌, ◌∙◌, Some, None, Option, sym, length, option_map, subst}
use Rattle.std.specs.Prelude.{slice_get}
use Rattle.std.proofs.lemmas.List.{length-map}
use Rattle.jvm_typing.specs.declared.sources.Source.{Source as SourceHere}
use Rattle.typing_effects.specs.Effects.{need_in, pushes_in, effect_in}
use Rattle.jvm_typing.specs.KindPasses.{origin_source}
use Rattle.jvm_typing.specs.Sources.{source_in, frame_in}
use Rattle.jvm_typing.proofs.SourceLemmas.{some_pushed, none_pushed}
use Rattle.jvm_typing.proofs.sources.of_stack_place.Goals as goal

pub returns-in-Some : goal.returns-in-Some
returns-in-Some c = λ program.
    let is : c.in_ok-source.field-0 ≡ Some c.in-Some.source = search rules in
    some_pushed program (frame_in c.args.sizes) (effect_in c.args.effect.now) c.args.k (slice_get (pushes_in c.args.effect.now.pushes) c.args.k) (source_in c.in-Some.source)
    (subst (λ (o : Option SourceHere). option_map source_in o ≡ option_map (origin_source program (frame_in c.args.sizes)) (slice_get (pushes_in c.args.effect.now.pushes) c.args.k)) is (c.in_ok-source.ensures program))

pub returns-in-None : goal.returns-in-None
returns-in-None c = λ program.
    let is : c.in_ok-source.field-0 ≡ None = search rules in
    let locals : c.from.result ≡ c.args.sizes.locals = search rules in
    let pops : c.len.result ≡ length c.args.effect.now.pops.items = search rules in
    let rest : c.saturating_sub.result ≡ c.args.k - length (pushes_in c.args.effect.now.pushes) = search rules in
    none_pushed program (frame_in c.args.sizes) (effect_in c.args.effect.now) c.args.k (slice_get (pushes_in c.args.effect.now.pushes) c.args.k) c.from.result c.len.result c.saturating_sub.result
    (subst (λ (o : Option SourceHere). option_map source_in o ≡ option_map (origin_source program (frame_in c.args.sizes)) (slice_get (pushes_in c.args.effect.now.pushes) c.args.k)) is (c.in_ok-source.ensures program))
    locals (pops ∙ sym (length-map c.args.effect.now.pops.items need_in)) rest

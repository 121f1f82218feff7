use Rattle.std.proofs.Common.{rules, ◌≡◌, ◌+◌, ◌-◌, ◌∷◌, [], ℕ, List, length, min, refl, subst, arith}
use Rattle.std.specs.Prelude.{◌^◌}
use Rattle.std.proofs.lemmas.List.{length-map}
use Rattle.typing_effects.specs.Effects.{need_in, effect_in}
use Rattle.jvm_typing.specs.Sources.{HasFrom, frame_in}
use Rattle.jvm_typing.proofs.SourceLemmas.{feeds}
use Rattle.jvm_typing.proofs.sources.fed.Goals as goal

pub returns : goal.returns
returns c =
    let effect = effect_in c.args.effect.now in
    let f = frame_in c.args.sizes in
    let places = c.add_places.new.places.items in
    let written = c.written_or.result in
    let shifted = c.saturating_add.result in
    let first = c.args.place ∷ written ∷ shifted ∷ [] in
    let old : c.push-3.new.self.items ≡ first = search rules in
    let has = subst (λ (l : List ℕ). HasFrom l c.from-locals.result c.saturating_add-pushed.result places) old c.in_ok-add_places.ensures in
    let long = length-map c.args.effect.now.pops.items need_in in
    let pushed : c.saturating_add-pushed.result ≡ min (f.locals + length effect.pushes) (2 ^ 64 - 1) = search rules in
    let popped : c.saturating_add-popped.result ≡ min (f.locals + length c.args.effect.now.pops.items) (2 ^ 64 - 1) = search rules in
    let moved : shifted ≡ min (c.saturating_add-pushed.result + (c.args.place - c.saturating_add-popped.result)) (2 ^ 64 - 1) = search rules in
    feeds f effect c.args.place places written shifted c.saturating_add-pushed.result
    (has.kept c.args.place (0, omega arith, refl)) (has.kept written (1, omega arith, refl)) (has.kept shifted (2, omega arith, refl))
    (λ q low high. has.has q (let e : c.from-locals.result ≡ f.locals = search rules in omega (arith, low, e)) high)
    c.written_or.ensures
    (λ q low below. omega (arith, pushed, low, below))
    (λ q low is. omega (arith, pushed, popped, moved, long, low, is))

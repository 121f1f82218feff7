use Rattle.std.proofs.Common.{rules, ◌≡◌, ◌<◌, ◌+◌, [], ℕ, List, sym, subst, ap}
use Rattle.std.specs.Prelude.{◌^◌}
use Rattle.typing_heights.specs.Adds.{From}
use Rattle.typing_effects.specs.Effects.{effect_in}
use Rattle.typing_heights.specs.Subjects.{program_of, typable_of}
use Rattle.jvm_typing.specs.KindPasses.{Frame, Item, item_in, items_of, CarriesTo, frame_of}
use Rattle.jvm_typing.specs.Sources.{frame_in, Feeds}
use Rattle.jvm_typing.proofs.GrowLemmas.{grows_none, grows_over, grows_all}
use Rattle.jvm_typing.proofs.BehindLemmas.{no_moves, carries_behind}
use Rattle.jvm_typing.proofs.flows.carry_behind.Goals as goal

pub loop-place-init : goal.loop-place-init
loop-place-init c =
    let s = c.args.subject.now in
    let makes : ℕ → Item → Type 0 = CarriesTo (program_of s) (typable_of s) (item_in c.args.fact.now) c.args.step c.args.stop.now.height in
    grows_none (From [] makes) (items_of c.args.facts.now) (λ x b. no_moves makes x b)

pub loop-place-preserved : goal.loop-place-preserved
loop-place-preserved c =
    let s = c.args.subject.now in
    let places = c.as_slice-place-items.result.now in
    let makes : ℕ → Item → Type 0 = CarriesTo (program_of s) (typable_of s) (item_in c.args.fact.now) c.args.step c.args.stop.now.height in
    grows_over places makes (items_of c.args.facts.now) (items_of c.loop-place.facts) (items_of c.carry_to.new.facts) c.loop-place.place-index 0 c.loop-place-test.true c.loop-place.invariant c.in_ok-carry_to.ensures

pub returns : goal.returns
returns c =
    let s = c.args.subject.now in
    let p = program_of s in
    let t = typable_of s in
    let places = c.as_slice-place-items.result.now in
    let y = item_in c.args.fact.now in
    let makes : ℕ → Item → Type 0 = CarriesTo p t y c.args.step c.args.stop.now.height in
    let small : t.code.max_locals + c.args.step.height < 2 ^ 17 = search rules in
    let frame : frame_in c.sizes_at.result ≡ frame_of t c.args.stop.now.height = ap frame_in c.sizes_at.ensures in
    let feeds = subst (λ (f : Frame). Feeds f (effect_in c.args.stop.now.effect) c.args.fact.now.place places) frame
    (subst (λ (ps : List ℕ). Feeds (frame_in c.sizes_at.result) (effect_in c.args.stop.now.effect) c.args.fact.now.place ps) (sym c.as_slice-place-items.ensures.value) c.in_ok-places.ensures) in
    carries_behind p t c.args.heights.now c.args.stop.now c.args.step c.requires.stop y places feeds (items_of c.args.facts.now) (items_of c.loop-place.facts) small
    (grows_all places makes (items_of c.args.facts.now) (items_of c.loop-place.facts) c.loop-place.place-index c.loop-place-test.false c.loop-place.invariant)

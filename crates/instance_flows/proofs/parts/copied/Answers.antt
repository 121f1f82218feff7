use Rattle.std.proofs.Common.{List, [], Contains, get_or, sym, subst, arith}
use Rattle.std.proofs.lemmas.List.{take_all}
use Rattle.dependence.specs.declared.flow.Place.{Place}
use Rattle.dependence.specs.declared.flow.Place.TheVariants.{Local}
use Rattle.flow_graph.specs.Adding.{HasThose}
use Rattle.flow_graph.proofs.AddingLemmas.{same_item, nothing_there}
use Rattle.instance_flows.proofs.PartLemmas.{copies_more}
use Rattle.instance_flows.proofs.parts.copied.Goals as goal

pub loop-place-init : goal.loop-place-init
loop-place-init c = subst (λ (xs : List Place). HasThose (Contains {X = Place} []) xs) (sym c.new-copy.ensures) nothing_there

pub loop-place-preserved : goal.loop-place-preserved
loop-place-preserved c =
    let places = c.args.places.now in
    let i = c.loop-place.place-index in
    let place : Place = get_or places i (Local 0) in
    copies_more places i place c.loop-place.copy c.add.new.self c.loop-place-test.true (same_item places i (Local 0) c.loop-place-test.true) c.loop-place.invariant c.in_ok-add.ensures.ok

pub returns : goal.returns
returns c = subst (λ (ks : List Place). HasThose (Contains ks) c.loop-place.copy) (take_all c.loop-place.place-index c.args.places.now (omega (arith, c.loop-place-test.false))) c.loop-place.invariant

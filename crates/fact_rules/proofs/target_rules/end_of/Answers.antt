use Rattle.std.proofs.Common.{get_or}
use Rattle.dependence.specs.declared.flow.Place.{Place}
use Rattle.dependence.specs.declared.flow.Place.TheVariants.{Local}
use Rattle.fact_rules.proofs.TargetLemmas.{lie_more, lie_all}
use Rattle.std.proofs.Common.{refl}
use Rattle.fact_rules.proofs.target_rules.end_of.Goals as goal

pub loop-place-preserved : goal.loop-place-preserved
loop-place-preserved c =
    let places = c.args.places.now in
    let i = c.loop-place.place-index in
    let place : Place = get_or places i (Local 0) in
    lie_more places i (Local 0) place c.loop-place.end c.higher-end.result c.loop-place-test.true refl c.loop-place.invariant c.higher-end.ensures.bound c.higher-end.ensures.over

pub returns : goal.returns
returns c = lie_all c.args.places.now c.loop-place.place-index c.loop-place.end c.loop-place-test.false c.loop-place.invariant

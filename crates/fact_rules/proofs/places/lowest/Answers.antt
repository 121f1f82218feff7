use Rattle.std.proofs.Common.{get_or, arith}
use Rattle.dependence.specs.declared.flow.Place.{Place}
use Rattle.dependence.specs.declared.flow.Place.TheVariants.{Local}
use Rattle.method_views.proofs.TableLemmas.{same_item}
use Rattle.fact_rules.proofs.PlaceLemmas.{lowest_there, lowest_least, least_all}
use Rattle.fact_rules.proofs.places.lowest.Goals as goal

pub loop-place-preserved : goal.loop-place-preserved
loop-place-preserved c =
    let places = c.args.places.now in
    let i = c.loop-place.place-index in
    let place : Place = get_or places i (Local 0) in
    let low = c.loop-place.low in
    let new = c.lower-low.result in
    let below = c.loop-place-test.true in
    let at = same_item places i (Local 0) below in
    let bound = c.lower-low.ensures.bound in
    let first = c.loop-place.invariant.bound in
    record {
      there = lowest_there places i place low new below at c.args.height c.lower-low.ensures.is c.loop-place.invariant.there;
      least = lowest_least places i place low new below at c.lower-low.ensures.least bound c.loop-place.invariant.least;
      bound = omega (arith, bound, first);
    }

pub returns-clause-least : goal.returns-clause-least
returns-clause-least c = least_all c.args.places.now c.loop-place.place-index c.loop-place.low c.loop-place-test.false c.loop-place.invariant.least

use Rattle.std.proofs.Common.{ℕ, List, get_or, subst, arith}
use Rattle.std.proofs.lemmas.List.{take_all}
use Rattle.flow_graph.specs.Adding.{HasThose}
use Rattle.flow_graph.proofs.AddingLemmas.{same_item}
use Rattle.instance_flows.specs.Parts.{IsPlaceAmong}
use Rattle.instance_flows.proofs.PartLemmas.{place_step}
use Rattle.instance_flows.proofs.parts.places_as_they_come.Goals as goal

pub loop-end-preserved : goal.loop-end-preserved
loop-end-preserved c =
    let ends = c.args.ends.now in
    let i = c.loop-end.end-index in
    let end : ℕ = get_or ends i 0 in
    place_step c.args.numbers.now ends i end c.loop-end.places.items c.add_place.new.places.items c.loop-end-test.true (same_item ends i 0 c.loop-end-test.true) c.loop-end.invariant c.in_ok-add_place.ensures

pub returns : goal.returns
returns c =
    subst (λ (ks : List ℕ). HasThose (IsPlaceAmong c.args.numbers.now ks) c.loop-end.places.items) (take_all c.loop-end.end-index c.args.ends.now (omega (arith, c.loop-end-test.false))) c.loop-end.invariant

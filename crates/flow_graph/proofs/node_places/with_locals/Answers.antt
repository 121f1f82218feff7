use Rattle.std.specs.Prelude.{map}
use Rattle.std.specs.List.{range_with_len}
use Rattle.std.proofs.Common.{List, [], Contains, subst}
use Rattle.dependence.specs.declared.flow.Place.{Place}
use Rattle.dependence.specs.declared.flow.Place.TheVariants.{Local}
use Rattle.dependence.specs.NodePlaces.{reads_of, writes_of, stack_places}
use Rattle.flow_graph.specs.Adding.{AddsThose}
use Rattle.flow_graph.proofs.AddingLemmas.{from_nothing}
use Rattle.flow_graph.proofs.node_places.with_locals.Goals as goal

pub returns : goal.returns
returns c =
    let new = c.add_locals.new.places in
    let P : Place → Type 0 = Contains (map Local (range_with_len 0 c.args.count)) in
    from_nothing P new (subst (λ (xs : List Place). AddsThose P xs new) c.new-places.ensures c.in_ok-add_locals.ensures)

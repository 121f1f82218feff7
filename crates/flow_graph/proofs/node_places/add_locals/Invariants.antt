use Rattle.std.proofs.Common.{Contains}
use Rattle.std.specs.Prelude.{map}
use Rattle.std.specs.List.{range_with_len}
use Rattle.dependence.specs.declared.flow.Place.TheVariants.{Local}
use Rattle.flow_graph.specs.Adding.{AddsThose}
use Rattle.flow_graph.proofs.node_places.add_locals.Given as goal

abbrev pub invariant-loop-k : goal.invariant-loop-k
invariant-loop-k l = AddsThose (Contains (map Local (range_with_len 0 l.k))) l.initial.places l.places

use Rattle.std.proofs.Common.{Contains}
use Rattle.dependence.specs.NodePlaces.{stack_places}
use Rattle.flow_graph.specs.Adding.{AddsThose}
use Rattle.flow_graph.proofs.node_places.add_stack.Given as goal

abbrev pub invariant-loop-above : goal.invariant-loop-above
invariant-loop-above l = AddsThose (Contains (stack_places l.from l.above)) l.initial.places l.places

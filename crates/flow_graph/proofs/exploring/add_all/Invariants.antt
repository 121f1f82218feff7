use Rattle.std.proofs.Common.{take}
use Rattle.flow_graph.specs.Exploring.{AddsAll}
use Rattle.flow_graph.proofs.exploring.add_all.Given as goal

abbrev pub invariant-loop-kind : goal.invariant-loop-kind
invariant-loop-kind l = AddsAll (take l.kind-index l.kinds) l.initial.nodes l.nodes

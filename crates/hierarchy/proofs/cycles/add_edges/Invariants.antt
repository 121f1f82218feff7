use Rattle.std.proofs.Common.{take}
use Rattle.hierarchy.specs.Cycles.{AddsEdges}
use Rattle.hierarchy.proofs.cycles.add_edges.Given as goal

abbrev pub invariant-loop-class : goal.invariant-loop-class
invariant-loop-class l = AddsEdges l.initial.graph l.graph l.number (take l.class-index l.next)

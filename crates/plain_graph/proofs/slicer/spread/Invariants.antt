use Rattle.plain_graph.specs.Slices.{unmarked_count, IsMarking, OnlyGrows}
use Rattle.plain_graph.proofs.slicer.spread.Given as goal

abbrev pub invariant-loop : goal.invariant-loop
invariant-loop l = IsMarking l.graph l.marks.items × OnlyGrows l.initial.marks.items l.marks.items

abbrev pub decreases-loop : goal.decreases-loop
decreases-loop l = unmarked_count l.marks.items

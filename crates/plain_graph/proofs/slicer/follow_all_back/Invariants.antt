use Rattle.std.proofs.Common.{◌≡◌, ◌<◌, take, Contains, MatchBool}
use Rattle.dep_nodes.specs.declared.graphs.Edge.{Edge}
use Rattle.plain_graph.specs.Slices.{unmarked_count, IsMarking, OnlyGrows, IsClosedAt}
use Rattle.plain_graph.proofs.slicer.follow_all_back.Given as goal

abbrev pub invariant-loop-edge : goal.invariant-loop-edge
invariant-loop-edge l =
    IsMarking l.graph l.marks.items × OnlyGrows l.initial.marks.items l.marks.items
    × MatchBool l.news (unmarked_count l.marks.items < unmarked_count l.initial.marks.items)
    ((l.marks.items ≡ l.initial.marks.items) × ((e : Edge) → Contains (take l.edge-index l.edge-items) e → IsClosedAt l.marks.items e))

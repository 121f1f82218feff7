use Rattle.std.proofs.Common.{take}
use Rattle.thread_regions.specs.Searches.{AddsSpots, ForEach, EdgePart}
use Rattle.thread_regions.proofs.search.add_edges.Given as goal

abbrev pub invariant-loop-from : goal.invariant-loop-from
invariant-loop-from l = AddsSpots l.initial.search l.search (ForEach (take l.from-index l.edges) (EdgePart l.ends l.calls l.n))

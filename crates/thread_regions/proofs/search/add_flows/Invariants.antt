use Rattle.std.proofs.Common.{take}
use Rattle.thread_regions.specs.Searches.{AddsSpots, ForEach, FlowPart}
use Rattle.thread_regions.proofs.search.add_flows.Given as goal

abbrev pub invariant-loop-to : goal.invariant-loop-to
invariant-loop-to l = AddsSpots l.initial.search l.search (ForEach (take l.to-index l.flows) (FlowPart l.n))

use Rattle.std.proofs.Common.{take}
use Rattle.flow_graph.specs.Adding.{HasThose}
use Rattle.instance_flows.specs.Parts.{IsPlaceAmong}
use Rattle.instance_flows.proofs.parts.places_as_they_come.Given as goal

abbrev pub invariant-loop-end : goal.invariant-loop-end
invariant-loop-end l = HasThose (IsPlaceAmong l.numbers (take l.end-index l.ends)) l.places.items

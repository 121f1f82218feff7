use Rattle.std.proofs.Common.{Contains, take}
use Rattle.flow_graph.specs.Adding.{HasThose}
use Rattle.instance_flows.proofs.parts.copied.Given as goal

abbrev pub invariant-loop-place : goal.invariant-loop-place
invariant-loop-place l = HasThose (Contains (take l.place-index l.places)) l.copy

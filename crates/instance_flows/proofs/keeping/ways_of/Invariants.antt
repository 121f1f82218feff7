use Rattle.flow_graph.specs.Adding.{HasThose}
use Rattle.instance_flows.proofs.HeldLemmas.{WayAmong}
use Rattle.instance_flows.proofs.keeping.ways_of.Given as goal

abbrev pub invariant-loop-id : goal.invariant-loop-id
invariant-loop-id g l = HasThose (WayAmong l.program l.method l.pc l.facts.objects l.held l.id-index) l.ways

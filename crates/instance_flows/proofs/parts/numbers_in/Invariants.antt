use Rattle.flow_graph.specs.Adding.{HasThose}
use Rattle.instance_flows.proofs.PartLemmas.{IsFoundBelow}
use Rattle.instance_flows.proofs.parts.numbers_in.Given as goal

abbrev pub invariant-loop-number : goal.invariant-loop-number
invariant-loop-number l = HasThose (IsFoundBelow l.found l.number) l.numbers

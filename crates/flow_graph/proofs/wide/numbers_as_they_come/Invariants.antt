use Rattle.std.proofs.Common.{take}
use Rattle.flow_graph.specs.Adding.{HasThose}
use Rattle.flow_graph.specs.Rows.{IsNumberAmong}
use Rattle.flow_graph.proofs.wide.numbers_as_they_come.Given as goal

abbrev pub invariant-loop-kind : goal.invariant-loop-kind
invariant-loop-kind l = HasThose (IsNumberAmong l.nodes (take l.kind-index l.kinds)) l.numbers.items

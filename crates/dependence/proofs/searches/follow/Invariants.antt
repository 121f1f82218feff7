use Rattle.std.proofs.Common.{take}
use Rattle.jo_graph.specs.Queues.{Follows}
use Rattle.dependence.proofs.searches.follow.Given as goal

abbrev pub invariant-loop-number : goal.invariant-loop-number
invariant-loop-number l = Follows (take l.number-index l.numbers) l.initial.found l.initial.queue l.initial.end l.found l.queue l.end

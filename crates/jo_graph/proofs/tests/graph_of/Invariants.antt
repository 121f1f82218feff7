use Rattle.std.proofs.Common.{◌≡◌, length}
use Rattle.jo_graph.proofs.tests.graph_of.Given as goal

abbrev pub invariant-loop-a : goal.invariant-loop-a
invariant-loop-a l = length l.graph ≡ l.len

use Rattle.std.proofs.Common.{◌<◌, length}
use Rattle.dep_nodes.proofs.tests.star.Given as goal

abbrev pub invariant-edges : goal.invariant-edges
invariant-edges l = l.end < length l.graph

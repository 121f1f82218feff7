use Rattle.std.proofs.Common.{length}
use Rattle.jo_prog.proofs.labels.+flows_by.Given as goal

abbrev pub decreases-flows_by : goal.decreases-flows_by
decreases-flows_by l = length l.pairs.now

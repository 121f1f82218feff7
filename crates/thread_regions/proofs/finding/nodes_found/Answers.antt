use Rattle.std.proofs.Common.{arith}
use Rattle.thread_regions.proofs.finding.nodes_found.Goals as goal

pub number-requires : goal.number-requires
number-requires c = omega (arith, c.requires.size)

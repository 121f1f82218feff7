use Rattle.std.proofs.Common.{arith}
use Rattle.thread_regions.proofs.RegionLemmas.{not_too_many}
use Rattle.thread_regions.proofs.finding.limited.Goals as goal

pub returns-in-Ok-clause-limit : goal.returns-in-Ok-clause-limit
returns-in-Ok-clause-limit c = not_too_many c.args.graph.now c.args.forks.now c.requires (omega (arith, c.if-forks-gt-MOST_FORKS.false))

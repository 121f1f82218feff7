use Rattle.std.proofs.Common.{take}
use Rattle.thread_regions.specs.Forks.{MarksForks}
use Rattle.thread_regions.proofs.forks.mark_forks.Given as goal

abbrev pub invariant-loop-from : goal.invariant-loop-from
invariant-loop-from l = MarksForks l.graph (take l.from-index l.edges) l.initial.forks l.forks

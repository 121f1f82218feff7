use Rattle.thread_regions.proofs.ForkLemmas.{MarkedBelow}
use Rattle.thread_regions.proofs.forks.forks_of.Given as goal

abbrev pub invariant-loop-n : goal.invariant-loop-n
invariant-loop-n l = MarkedBelow l.graph l.forks l.n

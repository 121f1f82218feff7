use Rattle.thread_regions.proofs.ForkLemmas.{NumbersBelow}
use Rattle.thread_regions.proofs.forks.numbers_of.Given as goal

abbrev pub invariant-loop-n : goal.invariant-loop-n
invariant-loop-n l = NumbersBelow l.row l.numbers l.n

use Rattle.fact_rules.proofs.LoopLemmas.{NoLoopBelow}
use Rattle.fact_rules.proofs.cycle_rules.has_loop.Given as goal

abbrev pub invariant-loop-n : goal.invariant-loop-n
invariant-loop-n l = NoLoopBelow l.wide l.n

use Rattle.dependence.specs.Listed.{AddsExactly}
use Rattle.control_dep.proofs.PairLemmas.{IsPairTo}
use Rattle.control_dep.proofs.pairs.add_controlled.Given as goal

abbrev pub invariant-loop-n : goal.invariant-loop-n
invariant-loop-n l = AddsExactly (IsPairTo l.flow l.b l.n) l.initial.pairs l.pairs

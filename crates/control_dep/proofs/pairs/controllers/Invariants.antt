use Rattle.std.proofs.Common.{◌≡◌, [], length}
use Rattle.dependence.specs.Listed.{AddsExactly}
use Rattle.control_dep.proofs.PairLemmas.{IsPairBelow}
use Rattle.control_dep.proofs.pairs.controllers.Given as goal

abbrev pub invariant-loop-b : goal.invariant-loop-b
invariant-loop-b l = record {
  pairs : AddsExactly (IsPairBelow l.flow l.b) [] l.pairs;
  found : length l.found ≡ length l.flow;
  queue : length l.queue ≡ length l.flow;
}

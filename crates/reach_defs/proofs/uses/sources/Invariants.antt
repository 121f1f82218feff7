use Rattle.std.proofs.Common.{◌≡◌, [], length}
use Rattle.dependence.specs.Listed.{AddsExactly}
use Rattle.reach_defs.proofs.UseLemmas.{IsUseBelow}
use Rattle.reach_defs.proofs.uses.sources.Given as goal

abbrev pub invariant-loop-d : goal.invariant-loop-d
invariant-loop-d l = record {
  uses : AddsExactly (IsUseBelow l.flow l.d) [] l.uses;
  found : length l.found ≡ length l.flow;
  queue : length l.queue ≡ length l.flow;
}

use Rattle.std.proofs.Common.{◌≡◌, length, take}
use Rattle.dependence.specs.Listed.{AddsExactly}
use Rattle.reach_defs.proofs.UseLemmas.{IsUseAmong}
use Rattle.reach_defs.proofs.uses.add_uses_from.Given as goal

abbrev pub invariant-loop-place : goal.invariant-loop-place
invariant-loop-place l = record {
  uses : AddsExactly (IsUseAmong l.flow l.d (take l.place-index l.written)) l.initial.uses l.uses;
  found : length l.found ≡ length l.flow;
  queue : length l.queue ≡ length l.flow;
}
